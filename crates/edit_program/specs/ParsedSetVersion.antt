-- The arguments of `set-version`.
use Rattle.std.specs.Prelude.{◌≡◌, ◌≢◌, ◌⊎◌, ◌&&◌, ◌||◌, List, Bool, Option, Some, None, Ok, Err, codes, if◌then◌else◌, is_some, map, option_map, string_bytes, true, false}
use Rattle.clap.specs.Words.{Row, Text, first_of}
use Rattle.semver.specs.Parse.{Parts, version_parts}
use Rattle.semver.specs.declared.error.Error.{Error}
use Rattle.edit_set_version.specs.Bumps.{Target, by_level, exactly, target_of}
use Rattle.edit_set_version.specs.Levels.{level_name}
use Rattle.edit_set_version.specs.declared.set_version.BumpLevel.{BumpLevel}
use Rattle.edit_set_version.specs.declared.set_version.BumpLevel.TheVariants.{Release}
use Rattle.edit_program.specs.declared.set_version_run.set_version_args.SetVersionArgs.{SetVersionArgs}
use Rattle.edit_program.specs.ParsedOptions.{is_dry, is_given, value_of, values_of}
use Rattle.edit_program.specs.Presented.{presentation_of}
use Rattle.edit_program.specs.declared.output_format.PlanCommand.TheVariants.{SetVersion}

-- the target, from the arguments for a version and a level: one of the two alone, or with neither the level
-- `release`
abbrev pub IsTarget : Option Text → Option Text → Target → Type 0
IsTarget None None target = target ≡ by_level Release
IsTarget None (Some name) target =
    (level : BumpLevel) × (name ≡ level_name level) × (target ≡ by_level level)
IsTarget (Some text) None target =
    (parts : Parts) × (version_parts text ≡ Ok parts) × (target ≡ exactly parts)
IsTarget (Some text) (Some name) target = ⊥

-- the arguments for a version and a level are wrong: the given one is invalid, or both are given
abbrev pub HaveNoTarget : Option Text → Option Text → Type 0
HaveNoTarget None None = ⊥
HaveNoTarget None (Some name) = (level : BumpLevel) → name ≢ level_name level
HaveNoTarget (Some text) None = (e : Error) × (version_parts text ≡ Err e)
HaveNoTarget (Some text) (Some name) = Unit {0}

-- two of `--package`, `--all` and `--workspace` are given
abbrev pub has_conflicting_selections : List Row → Bool
has_conflicting_selections rows =
    (is_given (codes "all") rows && is_given (codes "workspace") rows)
    || (is_some (first_of (codes "package") rows)
    && (is_given (codes "all") rows || is_given (codes "workspace") rows))

-- the arguments that select members in two ways, of all, the whole workspace and single packages: of several
-- such pairs the first in this order
abbrev pub conflict_among : Bool → Bool → Bool → Option (Text × Text)
conflict_among all workspace single =
    if all && workspace then Some (codes "--all", codes "--workspace")
    else (if single && all then Some (codes "--package <PKGID>", codes "--all")
    else (if single && workspace then Some (codes "--package <PKGID>", codes "--workspace") else None))

-- the two of `--package`, `--all` and `--workspace` that an error names, where two are given
abbrev pub conflicting_selections : List Row → Option (Text × Text)
conflicting_selections rows =
    conflict_among (is_given (codes "all") rows) (is_given (codes "workspace") rows)
    (is_some (first_of (codes "package") rows))

-- the options and paths that parsed arguments of `set-version` give
pub record HasSetVersionArgs (rows : List Row) (w : SetVersionArgs) : Type 0 where
  pub metadata_json : w.metadata_json.now
      ≡ value_of (codes "metadata-json") (codes "metadata.json") rows
  pub target : IsTarget (first_of (codes "target") rows) (first_of (codes "bump") rows) (target_of w.target)
  pub packages : map string_bytes w.selection.packages.items ≡ values_of (codes "package") rows
  pub exclude : map string_bytes w.selection.exclude.items ≡ values_of (codes "exclude") rows
  pub workspace : w.selection.workspace
      ≡ (is_given (codes "workspace") rows || is_given (codes "all") rows)
  pub metadata : option_map string_bytes w.selection.metadata ≡ first_of (codes "metadata") rows
  pub all : w.all ≡ is_given (codes "all") rows
  pub dry_run : w.dry_run ≡ is_dry rows
  pub presentation : presentation_of SetVersion rows ≡ Some w.presentation
  pub named_once : has_conflicting_selections rows ≡ false

-- the arguments select members in two ways, give no target, or no valid output format
abbrev pub HaveVersionFault : List Row → Type 0
HaveVersionFault rows =
    (has_conflicting_selections rows ≡ true)
    ⊎ (HaveNoTarget (first_of (codes "target") rows) (first_of (codes "bump") rows)
    ⊎ (presentation_of SetVersion rows ≡ None))
