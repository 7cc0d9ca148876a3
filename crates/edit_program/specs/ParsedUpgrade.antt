-- The arguments of `upgrade` and of `looks`.
use Rattle.std.specs.Prelude.{◌≡◌, ◌⊎◌, ◌&&◌, ◌||◌, List, Bool, Option, Some, None, codes, if◌then◌else◌, is_some, not, option_map, true, false}
use Rattle.std.specs.Str.{bytes_eq}
use Rattle.clap.specs.Words.{Row, Text, first_of}
use Rattle.edit_sources.specs.Configured.{given}
use Rattle.edit_steps.specs.declared.upgrade_read.source_request.RustChoice.{RustChoice}
use Rattle.edit_steps.specs.declared.upgrade_read.source_request.RustChoice.TheVariants as choice
use Rattle.edit_program.specs.declared.upgrade_run.upgrade_args.UpgradeArgs.{UpgradeArgs}
use Rattle.edit_version.specs.RustVersions.{numbers_of, rust_of}
use Rattle.edit_version.specs.declared.levels.Level.{Level}
use Rattle.edit_version.specs.declared.levels.Level.TheVariants.{Major, Minor, Patch}
use Rattle.edit_version.specs.declared.rust_version.RustVersion.{RustVersion}
use Rattle.edit_program.specs.ParsedBound.{HasBoundFault, IsGivenBound}
use Rattle.edit_program.specs.ParsedOptions.{HasBadStatus, HasGivenChoices, HasOptions, is_given, status_of}
use Rattle.edit_program.specs.ParsedRows.{HasRowChoice, HasRowFault}
use Rattle.edit_program.specs.Presented.{presentation_of}
use Rattle.edit_program.specs.declared.output_format.PlanCommand.TheVariants.{Upgrade}

-- the Rust versions to plan for, from `--rust-version` and `--ignore-rust-version`: those of the manifests,
-- none, or the given one
abbrev pub IsRust : Option Text → Bool → RustChoice → Type 0
IsRust None false rust = rust ≡ choice.Own
IsRust None true rust = rust ≡ choice.Ignored
IsRust (Some text) false rust =
    (version : RustVersion) × (rust_of text ≡ Some (numbers_of version)) × (rust ≡ choice.Given version)
IsRust (Some text) true rust = ⊥

-- invalid options for Rust versions: a text is no version, or one is given and all are ignored
abbrev pub HasNoRust : Option Text → Bool → Type 0
HasNoRust None ignored = ⊥
HasNoRust (Some text) false = rust_of text ≡ None
HasNoRust (Some text) true = Unit {0}

-- the level that a value names; none for other values
abbrev pub level_of_value : Text → Option Level
level_of_value text =
    if bytes_eq text (codes "patch") then Some Patch
    else (if bytes_eq text (codes "minor") then Some Minor
    else (if bytes_eq text (codes "major") then Some Major else None))

-- the level that a value sets, if there is one; none where it names no level
abbrev pub level_in : Option Text → Option (Option Level)
level_in None = Some None
level_in (Some text) = option_map (λ level. Some level) (level_of_value text)

-- the level that `--level` sets, if it is given; none where its value names no level
abbrev pub level_of : List Row → Option (Option Level)
level_of rows = level_in (first_of (codes "level") rows)

-- both an index file and an index folder are given
abbrev pub has_two_indexes : List Row → Bool
has_two_indexes rows =
    is_some (first_of (codes "index-file") rows) && is_some (first_of (codes "index-dir") rows)

-- `--to-lockfile` cannot be used: no lock file is given, or incompatible upgrades are allowed
abbrev pub has_lockfile_fault : Bool → List Row → Bool
has_lockfile_fault incompatible rows =
    is_given (codes "to-lockfile") rows && (not (is_some (first_of (codes "lock-file") rows)) || incompatible)

-- `--to-lockfile` is given, and cannot be used
pub record HasLockfileFault (rows : List Row) : Type 0 where
  pub incompatible : Bool
  pub status : status_of (codes "incompatible") rows ≡ Some incompatible
  pub fault : has_lockfile_fault incompatible rows ≡ true

-- the options and paths that parsed arguments of `upgrade` give
pub record HasUpgradeArgs (rows : List Row) (w : UpgradeArgs) : Type 0 where
  pub manifest : given w.manifest_path ≡ first_of (codes "manifest-path") rows
  pub metadata : given w.metadata_json ≡ first_of (codes "metadata-json") rows
  pub index : given w.index_file ≡ first_of (codes "index-file") rows
  pub folder : given w.index_dir ≡ first_of (codes "index-dir") rows
  pub config : given w.config ≡ first_of (codes "config") rows
  pub default_config : given w.default_config ≡ first_of (codes "default-config") rows
  pub one_index : has_two_indexes rows ≡ false
  pub rust : IsRust (first_of (codes "rust-version") rows)
      (is_given (codes "ignore-rust-version") rows) w.rust
  pub options : HasOptions rows w.options
  pub level : level_of rows ≡ Some w.options.level
  pub choices : HasGivenChoices rows w.given
  pub no_policy : w.no_policy ≡ is_given (codes "no-policy") rows
  pub presentation : presentation_of Upgrade rows ≡ Some w.presentation
  pub calls : given w.update_calls ≡ first_of (codes "update-calls") rows
  pub lock : given w.lock_file ≡ first_of (codes "lock-file") rows
  pub offline : w.offline ≡ is_given (codes "offline") rows
  pub to_lockfile : w.to_lockfile ≡ is_given (codes "to-lockfile") rows
  pub usable : has_lockfile_fault w.options.incompatible rows ≡ false
  pub bound : IsGivenBound rows w.published_before
  pub time : given w.time ≡ first_of (codes "now") rows
  pub unify : w.unify ≡ is_given (codes "unify") rows
  pub choice : HasRowChoice rows w.rows

-- two indexes are given, an option has an invalid value, the options for Rust versions or for the output
-- format are invalid, `--level` names no level, `--to-lockfile` cannot be used, the options for the time of
-- publication are invalid, or those for the choice of rows
abbrev pub HaveUpgradeFault : List Row → Type 0
HaveUpgradeFault rows =
    (has_two_indexes rows ≡ true)
    ⊎ (HasBadStatus rows
    ⊎ (HasNoRust (first_of (codes "rust-version") rows) (is_given (codes "ignore-rust-version") rows)
    ⊎ ((presentation_of Upgrade rows ≡ None)
    ⊎ ((level_of rows ≡ None) ⊎ (HasLockfileFault rows ⊎ (HasBoundFault rows ⊎ HasRowFault rows))))))
