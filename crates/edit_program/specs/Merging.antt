-- The arguments of `upgrade` with what the policy of the project says.
use Rattle.std.specs.Prelude.{◌≡◌, ◌++◌, ℕ, List, Option, Some, None, map, option_map, string_bytes}
use Rattle.std.specs.Option.{option_or}
use Rattle.edit_choice.specs.Choices.{IsSameChoice}
use Rattle.edit_choice.specs.declared.items.RowChoice.{RowChoice}
use Rattle.edit_policy.specs.Merged.{choice, merged_levels}
use Rattle.edit_policy.specs.declared.merge.GivenChoices.{GivenChoices}
use Rattle.edit_policy.specs.declared.policy.Policy.{Policy}
use Rattle.edit_sources.specs.Published.{days_before, instant_of}
use Rattle.edit_sources.specs.declared.published.PublishedBefore.{PublishedBefore}
use Rattle.edit_upgrade.specs.EntrySelection.{excluded_of, package_args_of}
use Rattle.edit_version.specs.Levels.{crate_levels}
use Rattle.edit_upgrade.specs.declared.decision.options.Options.{Options}
use Rattle.edit_program.specs.declared.upgrade_run.upgrade_args.UpgradeArgs.{UpgradeArgs}

-- the bound that an age in days gives, counted back from a time; none without an age
abbrev pub IsAgeBound : Option (List ℕ) → Option ℕ → Option PublishedBefore → Type 0
IsAgeBound time None bound = bound ≡ None
IsAgeBound (Some time) (Some days) (Some bound) =
    option_map (days_before days) (instant_of time) ≡ Some bound.nanosecond
IsAgeBound time age bound = ⊥

-- the bound on the time of publication: the given one, else that of the age that the policy sets
abbrev pub IsBoundBy : Option PublishedBefore → Option (List ℕ) → Option ℕ → Option PublishedBefore → Type 0
IsBoundBy (Some first) time age bound = bound ≡ Some first
IsBoundBy None time age bound = IsAgeBound time age bound

-- there is an age, and no time from which it counts back
abbrev pub HasNoTime : Option (List ℕ) → Option ℕ → Type 0
HasNoTime time None = ⊥
HasNoTime None (Some days) = Unit {0}
HasNoTime (Some time) (Some days) = instant_of time ≡ None

-- no bound is given, and the age that the policy sets has no time from which it counts back
abbrev pub LacksTime : Option PublishedBefore → Option (List ℕ) → Option ℕ → Type 0
LacksTime (Some first) time age = ⊥
LacksTime None time age = HasNoTime time age

-- options with what a policy says, where it is known which choices are given: these come first, those of the
-- policy second and defaults last; a given level comes before those of the policy, also before its levels for
-- single crates; the names that both exclude are joined, and all else stays
pub record AreMerged (o : Options) (g : GivenChoices) (p : Policy) (m : Options) : Type 0 where
  pub compatible : m.compatible ≡ choice g.compatible o.compatible p.compatible
  pub incompatible : m.incompatible ≡ choice g.incompatible o.incompatible p.incompatible
  pub pinned : m.pinned ≡ choice g.pinned o.pinned p.pinned
  pub never_lower : m.never_lower ≡ choice o.never_lower o.never_lower p.never_lower
  pub level : m.level ≡ option_or o.level p.level
  pub crate_levels : crate_levels m.crate_levels.items ≡ merged_levels o.level p.crates.items
  pub exclusions : excluded_of m ≡ excluded_of o ++ map string_bytes p.exclude.items
  pub packages : package_args_of m ≡ package_args_of o
  pub dry_run : m.dry_run ≡ o.dry_run
  pub locked : m.locked ≡ o.locked
  pub recursive : m.recursive ≡ o.recursive
  pub verbosity : m.verbosity ≡ o.verbosity

-- the same choice of rows, where there is one
abbrev pub AreSameRows : Option RowChoice → Option RowChoice → Type 0
AreSameRows None rows = rows ≡ None
AreSameRows (Some choice) (Some copy) = IsSameChoice choice copy
AreSameRows (Some choice) None = ⊥

-- arguments with what a policy says: the options are merged, and all else but the bound on the time of
-- publication stays
pub record IsMerged (args : UpgradeArgs) (p : Policy) (merged : UpgradeArgs) : Type 0 where
  pub options : AreMerged args.options args.given p merged.options
  pub rows : AreSameRows args.rows merged.rows
  pub others : merged ≡ record args {
    options = merged.options;
    published_before = merged.published_before;
    rows = merged.rows;
  }
