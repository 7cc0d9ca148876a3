-- The lookups that an upgrade needs, and the errors of printing them.
use Rattle.std.proofs.Common.{◌≡◌, ◌∙◌, ℕ, List, [], Option, Some, None, Ok, true, ap, get_or, inl, inr, sym, true≢false}
use Rattle.std.specs.Prelude.{◌⊎◌, not, string_bytes}
use Rattle.std.specs.Global.{Vec}
use Rattle.std.proofs.lemmas.List.Folds.{list_any_none}
use Rattle.edit_base.specs.Errors.{IsMemory, number_of}
use Rattle.edit_base.specs.declared.errors.Error.{Error}
use Rattle.edit_upgrade.specs.declared.decision.options.Options.{Options}
use Rattle.edit_program.specs.LookupLines.{HasBadLookup}
use Rattle.edit_program.specs.Needed.{AreNeeded}
use Rattle.edit_program.specs.NoIndex.{NoneGives, no_view}
use Rattle.edit_metadata.specs.declared.input.Input.{Input}
use Rattle.edit_sources.specs.Index.{answer_of}
use Rattle.edit_sources.specs.Names.{is_crate_name}
use Rattle.edit_sources.specs.declared.config.Config.{Config}
use Rattle.edit_upgrade.specs.Lookups.{Answer, answer_in}
use Rattle.edit_upgrade.specs.Upgraded.{IsNeeded}
use Rattle.edit_upgrade.specs.declared.upgrade.Look.{Look}
use Rattle.edit_upgrade.specs.declared.upgrade.UpgradePlan.{UpgradePlan}
use Rattle.edit_store.specs.Store.{StoreView}
use Rattle.edit_steps.specs.Causes.{IsFailure, IsReadCause}
use Rattle.edit_steps.specs.Errors.{IsSourceError}
use Rattle.edit_steps.specs.Shared.{lists_for}
use Rattle.edit_steps.specs.Sources.{AreRead}
use Rattle.edit_steps.specs.declared.upgrade_read.sources.Sources.{Sources}
use Rattle.edit_program.specs.UpgradeCauses.{IsLookupsCause}
use Rattle.edit_program.specs.Planned.{IsPlanCause, IsPlanned, to_request, empty_answers}
use Rattle.edit_program.specs.declared.upgrade_run.upgrade_args.UpgradeArgs.{UpgradeArgs}

-- the looks of a plan over an index that has no name are those that are needed
pub lookups_needed : (o : Options) (inputs : List Input) (configs : List (Vec Config)) (plan : UpgradePlan)
    → IsPlanned o inputs configs no_view plan → AreNeeded (IsNeeded inputs configs) plan.looks.items
lookups_needed o inputs configs plan planned = record {
  complete = planned.is.lookups.complete;
  needed = planned.is.lookups.needed;
  once = planned.is.lookups.once;
}

-- what such an index gives for a name is for one that an index may have
named_at : (lookup : Look) (answer : Answer)
    → (empty_answers [] [] ≡ Some answer) ⊎ NoneGives lookup.registry (string_bytes lookup.name) (Ok answer)
    → is_crate_name (string_bytes lookup.name) ≡ true
named_at lookup answer (inl cached) = cc
named_at lookup None (inr given) = given
named_at lookup (Some entries) (inr given) = absurd given

-- so the lines of these looks are not refused for a name
pub lines_refused : (o : Options) (inputs : List Input) (configs : List (Vec Config)) (plan : UpgradePlan)
    (e : Error) → IsPlanned o inputs configs no_view plan
    → IsMemory e ⊎ HasBadLookup plan.looks.items (number_of e) → IsMemory e
lines_refused o inputs configs plan e planned (inl memory) = memory
lines_refused o inputs configs plan e planned (inr bad) =
    absurd (true≢false (sym bad.1
    ∙ list_any_none (λ (lookup : Look). not (is_crate_name (string_bytes lookup.name))) plan.looks.items
    (λ k d within. ap not (named_at (get_or plan.looks.items k d)
    (answer_of (answer_in (get_or plan.looks.items k d)))
    (planned.is.lookups.given k d within)))))

-- ---- causes

-- what the words name is not read
pub unread_cause : (args : UpgradeArgs) (current : List ℕ) (home : Option (List ℕ)) (old new : StoreView)
    (e : Error) → IsReadCause current home (to_request args) old new e
    → IsFailure old new e ⊎ IsSourceError current (to_request args) e
    → IsLookupsCause args current home old new e
unread_cause args current home old new e (inl failed) only = inl failed
unread_cause args current home old new e (inr wrong) (inl failed) = inl failed
unread_cause args current home old new e (inr wrong) (inr unread) =
    inr (inr (inl unread, λ t. inl (wrong t)))

-- there is no plan for it
pub unplanned_cause : (args : UpgradeArgs) (current : List ℕ) (home : Option (List ℕ)) (old new : StoreView)
    (s : Sources) (e : Error)
    → (old.tells ≡ true → AreRead old.file_at current home (to_request args) s)
    → IsMemory e ⊎ IsPlanCause args.options s.target.inputs.items (lists_for s.configs) no_view e
    → IsLookupsCause args current home old new e
unplanned_cause args current home old new s e read (inl memory) = inl (inl (inl memory))
unplanned_cause args current home old new s e read (inr wrong) = inr (inr (
  inr (record { inputs = s.target.inputs.items; configs = lists_for s.configs; cause = wrong }),
  λ t. inr (record {
    sources = s;
    read = read t;
    cause = wrong;
  }),
))
