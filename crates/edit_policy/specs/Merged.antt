-- The choices of a run, by the command line and by the policy (own).
use Rattle.std.specs.Prelude.{[], ℕ, List, Bool, Option, if◌then◌else◌, is_some, option_map, string_bytes, unwrap_or}
use Rattle.std.specs.List.{filter_map}
use Rattle.edit_version.specs.declared.levels.Level.{Level}
use Rattle.edit_policy.specs.declared.policy.CratePolicy.{CratePolicy}

-- a choice: that of an argument, where it is given; else the policy's, where it has one; else the default
-- (own)
abbrev pub choice : Bool → Bool → Option Bool → Bool
choice given value policy = if given then value else unwrap_or policy value

-- the level that a policy has for a crate, behind the crate's name; none where it has none (own)
abbrev pub crate_level : CratePolicy → Option (List ℕ × Level)
crate_level c = option_map (λ level. (string_bytes c.name, level)) c.level

-- the levels for single crates: those of the policy, unless an argument gives a level, which is for all (own)
abbrev pub merged_levels : Option Level → List CratePolicy → List (List ℕ × Level)
merged_levels given crates = if is_some given then [] else filter_map crate_level crates
