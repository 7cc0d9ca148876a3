use Rattle.std.proofs.Common.{◌∙◌, List, ap, inl, inr, map, subst, sym}
use Rattle.std.specs.Prelude.{String, filter, not, string_bytes}
use Rattle.std.specs.BTreeSet.{contains_text}
use Rattle.std.specs.Global.{Vec}
use Rattle.std.specs.declared.alloc.Global.{Global}
use Rattle.edit_base.specs.Errors.{IsMemory}
use Rattle.edit_upgrade.specs.Caches.{cache_view}
use Rattle.edit_upgrade.specs.ConfigLists.{lists_in}
use Rattle.edit_upgrade.specs.EntrySelection.{package_args_of}
use Rattle.edit_upgrade.specs.OptionCauses.{IsOptionCause}
use Rattle.edit_upgrade.proofs.CauseLemmas.{finish-fails, rows-some}
use Rattle.edit_upgrade.proofs.DraftedInputs.{finish_plan-draft, plan-of}
use Rattle.edit_upgrade.proofs.MissingLemmas.{missing-are}
use Rattle.edit_upgrade.proofs.PlannedLemmas.{failure-has, failure-of}
use Rattle.edit_upgrade.proofs.OptionCauseLemmas.{memory-at}
use Rattle.edit_upgrade.proofs.plan.plan_all.Goals as goal

pub returns-clause-plan : goal.returns-clause-plan
returns-clause-plan g c =
    let o = c.args.options.now in
    let old = cache_view g.I.Index.view c.args.index.now in
    let new = cache_view g.I.Index.view c.plan_each_input.new.index in
    plan-of o c.args.inputs.now (lists_in c.args.configs) old new c.in_ok-plan.plan
    (finish_plan-draft o c.args.inputs.now (lists_in c.args.configs) old new c.in_ok-draft.draft
    c.in_ok-plan.plan
    c.in_ok-draft.ensures.inputs c.in_ok-plan.ensures.rows c.in_ok-plan.ensures.outputs)
    c.requires.configurations c.in_ok-plan.ensures.lists
    (missing-are o c.args.inputs.now (contains_text c.in_ok-draft.draft.known)
    (map string_bytes c.in_ok-picks.picks.args.names.items)
    (map string_bytes c.in_ok-plan.plan.missing.items)
    c.in_ok-draft.ensures.known c.in_ok-picks.ensures.ok.args.names
    (ap (λ (v : Vec (String Global)). map string_bytes v.items) c.in_ok-plan.ensures.missing
    ∙ c.in_ok-missing.ensures.ok
    ∙ ap (λ (xs : List (String Global)). filter (λ name. not (contains_text c.in_ok-draft.draft.known name))
    (map string_bytes xs)) c.deref.ensures.value))

pub returns-in_err-plan-clause-given : goal.returns-in_err-plan-clause-given
returns-in_err-plan-clause-given g c =
    failure-of c.from_residual-in_err-plan.result c.in_err-plan.field-0.0 _
    c.from_residual-in_err-plan.ensures.1 (λ f is given. inr (
      c.in_ok-picks.ensures.ok.args.each,
      inl (subst IsMemory (sym is) c.in_err-plan.ensures.error.0),
    ))

pub returns-in_err-plan-clause-read : goal.returns-in_err-plan-clause-read
returns-in_err-plan-clause-read g c =
    failure-of c.from_residual-in_err-plan.result c.in_err-plan.field-0.0 _
    c.from_residual-in_err-plan.ensures.1
    (λ f is none. inr (
      c.in_ok-picks.ensures.ok.args.each,
      finish-fails c.args.inputs.now (lists_in c.args.configs) (cache_view g.I.Index.view c.args.index.now)
          (cache_view g.I.Index.view c.plan_each_input.new.index) f
          c.in_ok-draft.ensures.inputs.planned c.requires.configurations
          (rows-some c.in_ok-draft.draft.rows.items c.in_err-plan.ensures.error.1)
          (c.in_ok-draft.ensures.utf8 none) (subst IsMemory (sym is) c.in_err-plan.ensures.error.0),
    ))

pub returns-in_err-draft-clause-given : goal.returns-in_err-draft-clause-given
returns-in_err-draft-clause-given g c =
    failure-has c.from_residual-in_err-draft.result c.in_err-draft.field-0.0 _
    c.from_residual-in_err-draft.ensures.1
    (λ given. inr (c.in_ok-picks.ensures.ok.args.each, c.in_err-draft.ensures.given given))

pub returns-in_err-draft-clause-read : goal.returns-in_err-draft-clause-read
returns-in_err-draft-clause-read g c =
    failure-has c.from_residual-in_err-draft.result c.in_err-draft.field-0.0 _
    c.from_residual-in_err-draft.ensures.1
    (λ none. inr (c.in_ok-picks.ensures.ok.args.each, c.in_err-draft.ensures.read none))

pub invariant_of-parsed : goal.invariant_of-parsed
invariant_of-parsed g c = record {
  named = c.in_ok-picks.ensures.ok.args.named;
  given = c.in_ok-picks.ensures.ok.args.requirements;
  excluded = c.in_ok-picks.ensures.ok.excluded;
}

pub returns-in_err-picks-clause-given : goal.returns-in_err-picks-clause-given
returns-in_err-picks-clause-given g c =
    failure-of c.from_residual.result c.in_err-picks.field-0.0 _ c.from_residual.ensures.1
    (λ f is given. inl (subst (IsOptionCause c.args.options.now) (sym is) c.in_err-picks.ensures.error))

pub returns-in_err-picks-clause-read : goal.returns-in_err-picks-clause-read
returns-in_err-picks-clause-read g c =
    failure-of c.from_residual.result c.in_err-picks.field-0.0 _ c.from_residual.ensures.1
    (λ f is none. inl (subst (IsOptionCause c.args.options.now) (sym is) c.in_err-picks.ensures.error))

pub returns-in_err-missing-clause-read : goal.returns-in_err-missing-clause-read
returns-in_err-missing-clause-read g c =
    failure-of c.from_residual-in_err-missing.result c.in_err-missing.field-0.0 _
    c.from_residual-in_err-missing.ensures.1
    (λ f is none. inl (inl (memory-at (package_args_of c.args.options.now) c.deref.result.now f.error
    (ap (map string_bytes) c.deref.ensures.value ∙ c.in_ok-picks.ensures.ok.args.names)
    c.in_err-missing.ensures.error.1 (is ∙ c.in_err-missing.ensures.error.0))))
