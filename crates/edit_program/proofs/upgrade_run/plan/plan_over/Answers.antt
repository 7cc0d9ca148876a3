use Rattle.std.proofs.Common.{List, ℕ, subst, sym}
use Rattle.std.proofs.lemmas.Result.{IfOk-weaker, on_ok_weaker}
use Rattle.std.specs.Global.{Vec}
use Rattle.std.specs.Prelude.{◌⊎◌, IfErr, IfOk}
use Rattle.edit_base.specs.Errors.{IsMemory}
use Rattle.edit_restricted_index.proofs.RestrictedLemmas.{over_restricted}
use Rattle.edit_restricted_index.specs.RestrictedIndex.{view_of}
use Rattle.edit_restricted_index.specs.VersionTests.{test_of}
use Rattle.edit_metadata.specs.declared.input.Input.{Input}
use Rattle.edit_sources.specs.Index.{IndexView}
use Rattle.edit_sources.specs.declared.config.Config.{Config}
use Rattle.edit_steps.specs.Shared.{lists_for}
use Rattle.edit_upgrade.specs.ConfigLists.{AreIndices, chosen_lists}
use Rattle.edit_upgrade.specs.Revisions.{AreUtf8}
use Rattle.edit_program.specs.Planned.{IsPlanCause, IsPlanned}
use Rattle.edit_program.proofs.CountLemmas.{shared_count}
use Rattle.edit_program.proofs.IndexFaults.{restricted_fault}
use Rattle.edit_program.proofs.PlanLemmas.{both_causes, planned, shared_refused}
use Rattle.edit_program.proofs.RevisionLemmas.{documents_of, utf8_of}
use Rattle.edit_program.proofs.upgrade_run.plan.plan_over.Goals as goal

pub plan_shared-requires-clause-documents : goal.plan_shared-requires-clause-documents
plan_shared-requires-clause-documents g c =
    documents_of c.args.target.now.documents.items c.args.target.now.inputs.items c.deref-2.result.now
    c.deref.result.now c.deref-2.ensures.value c.deref.ensures.value c.requires.documents

pub plan_shared-requires-clause-lists : goal.plan_shared-requires-clause-lists
plan_shared-requires-clause-lists g c =
    subst (λ (ls : List (Vec Config)). AreIndices ls c.deref-4.result.now) (sym c.deref-3.ensures.value)
    (subst (AreIndices c.args.configs.now.lists.items) (sym c.deref-4.ensures.value) c.requires.lists)

pub returns-clause-planned : goal.returns-clause-planned
returns-clause-planned g c =
    let o = c.args.options.now in
    let is = c.deref.result.now in
    let view = view_of g.I.Index.view c.in_ok-index.index in
    let r = c.plan_shared.result in
    over_restricted g.I.Index.view c.in_ok-index.index c.args.index (test_of c.args.restriction)
    (λ (v : IndexView). IfOk r (IsPlanned o c.args.target.now.inputs.items (lists_for c.args.configs.now) v))
    c.in_ok-index.ensures.index c.in_ok-index.ensures.test
    (subst (λ (xs : List Input). IfOk r (IsPlanned o xs (lists_for c.args.configs.now) view))
    c.deref.ensures.value
    (subst (λ (ls : List (Vec Config)).
    IfOk r (IsPlanned o is (chosen_lists ls c.args.configs.now.which.items) view)) c.deref-3.ensures.value
    (subst (λ (js : List ℕ). IfOk r (IsPlanned o is (chosen_lists c.deref-3.result.now js) view))
    c.deref-4.ensures.value
    (IfOk-weaker r _ _ (λ p h. planned (view_of g.I.Index.view) c.in_ok-index.index o is
    (chosen_lists c.deref-3.result.now c.deref-4.result.now) c.new-cache.result c.plan_shared.new.index p
    c.new-cache.ensures.index c.new-cache.ensures.empty h) c.plan_shared.ensures.plan))))

pub returns-clause-error : goal.returns-clause-error
returns-clause-error g c =
    let o = c.args.options.now in
    let is = c.deref.result.now in
    let docs = c.deref-2.result.now in
    let view = view_of g.I.Index.view c.in_ok-index.index in
    let r = c.plan_shared.result in
    let documents = documents_of c.args.target.now.documents.items c.args.target.now.inputs.items docs is
    c.deref-2.ensures.value c.deref.ensures.value c.requires.documents in
    over_restricted g.I.Index.view c.in_ok-index.index c.args.index (test_of c.args.restriction)
    (λ (v : IndexView). IfErr r (λ f. IsMemory f.error
    ⊎ IsPlanCause o c.args.target.now.inputs.items (lists_for c.args.configs.now) v f.error))
    c.in_ok-index.ensures.index c.in_ok-index.ensures.test
    (subst (λ (xs : List Input). IfErr r
    (λ f. IsMemory f.error ⊎ IsPlanCause o xs (lists_for c.args.configs.now) view f.error)) c.deref.ensures.value
    (subst (λ (ls : List (Vec Config)). IfErr r
    (λ f. IsMemory f.error ⊎ IsPlanCause o is (chosen_lists ls c.args.configs.now.which.items) view f.error))
    c.deref-3.ensures.value
    (subst (λ (js : List ℕ). IfErr r
    (λ f. IsMemory f.error ⊎ IsPlanCause o is (chosen_lists c.deref-3.result.now js) view f.error))
    c.deref-4.ensures.value
    (both_causes r _ _ _ (λ f given read. shared_refused (view_of g.I.Index.view) c.in_ok-index.index o is
    (chosen_lists c.deref-3.result.now c.deref-4.result.now) docs c.new-cache.result c.plan_shared.new.index f
    c.new-cache.ensures.index c.new-cache.ensures.empty c.plan_shared.ensures.left documents given read)
    c.plan_shared.ensures.given c.plan_shared.ensures.read))))

pub returns-clause-counted : goal.returns-clause-counted
returns-clause-counted g c =
    let is = c.deref.result.now in
    let docs = c.deref-2.result.now in
    let documents = documents_of c.args.target.now.documents.items c.args.target.now.inputs.items docs is
    c.deref-2.ensures.value c.deref.ensures.value c.requires.documents in
    both_causes c.plan_shared.result _ _ _ (λ f given read.
    restricted_fault g.I.Index.view c.in_ok-index.index c.args.index f.error c.in_ok-index.ensures.index
    (shared_count (view_of g.I.Index.view) c.in_ok-index.index c.args.options.now is
    (chosen_lists c.deref-3.result.now c.deref-4.result.now) docs c.new-cache.result c.plan_shared.new.index f
    c.new-cache.ensures.index documents given read))
    c.plan_shared.ensures.given c.plan_shared.ensures.read

pub returns-clause-utf8 : goal.returns-clause-utf8
returns-clause-utf8 g c =
    on_ok_weaker c.plan_shared.result
    (λ (h : AreUtf8 c.deref.result.now c.deref-2.result.now). utf8_of c.deref-2.result.now c.deref.result.now
    c.args.target.now.documents.items c.args.target.now.inputs.items (sym c.deref-2.ensures.value)
    (sym c.deref.ensures.value) h) c.plan_shared.ensures.utf8
