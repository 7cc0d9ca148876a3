-- What the calls of `cargo update` after an upgrade depend on (own, after cargo-edit).
use Rattle.std.specs.Prelude.{ℕ, List, length, Bool, ◌==◌, ◌&&◌, not, Option, map, string_bytes}
use Rattle.std.specs.Option.{option_map_or}
use Rattle.edit_upgrade.specs.declared.decision.options.Options.{Options}
use Rattle.edit_upgrade.specs.declared.upgrade.UpgradePlan.{UpgradePlan}

-- the names that a plan modified, those of git dependencies, and the options
pub record ParsedOptions : Type 0 where
  pub modified : List (List ℕ)
  pub git_crates : List (List ℕ)
  pub args : List (List ℕ)
  pub compatible : Bool
  pub recursive : Option Bool
  pub dry_run : Bool
  pub locked : Bool

-- the modified names, git dependencies and options of a plan
abbrev pub call_options : UpgradePlan → Options → ParsedOptions
call_options plan options = record {
  modified = map string_bytes plan.modified.items;
  git_crates = map string_bytes plan.git_crates.items;
  args = map string_bytes options.package.items;
  compatible = options.compatible;
  recursive = options.recursive;
  dry_run = options.dry_run;
  locked = options.locked;
}

-- calls are needed: something is modified, and the run is neither dry nor locked
abbrev pub is_due : ParsedOptions → Bool
is_due a = not (length a.modified == 0) && not a.dry_run && not a.locked

-- the dependencies of modified packages are updated as well: as `--recursive` sets it, else where entries
-- are raised to compatible versions
abbrev pub is_recursive : ParsedOptions → Bool
is_recursive a = option_map_or (λ said. said) a.recursive a.compatible

-- git dependencies are updated: entries are raised to compatible versions, and there is a git dependency
abbrev pub is_git_updated : ParsedOptions → Bool
is_git_updated a = a.compatible && not (length a.git_crates == 0)
