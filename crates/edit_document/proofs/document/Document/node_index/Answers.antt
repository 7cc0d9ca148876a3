use Rattle.std.proofs.Common.{◌≡◌, ℕ, List, Option, None, ap, sym, ◌∙◌, subst}
use Rattle.std.proofs.lemmas.List.{take_all}
use Rattle.edit_tree.specs.declared.place.Step.{Step as WrittenStep}
use Rattle.edit_tree.specs.Assertions.{key, at}
use Rattle.edit_tree.specs.DocumentViews.{tree_of}
use Rattle.edit_document.specs.Items.{node_place, place_view, step_view, IsNodeIndex}
use Rattle.edit_document.proofs.MemberViews.{walk_none}
use Rattle.edit_document.proofs.document.Document.node_index.Goals as goal

pub returns-in_err-number-in-Index : goal.returns-in_err-number-in-Index
returns-in_err-number-in-Index c =
    let p = node_place c.args.self.now c.steps.number in
    let none : tree_of c.args.self.now (at p (step_view c.step-item.result)) ≡ None =
    ap (λ (s : WrittenStep). tree_of c.args.self.now (at p (step_view s))) c.in-Index.is ∙
    c.in_err-number-in-Index.ensures {u = tt} in
    let whole = walk_none c.args.self.now c.lemma_tree.ensures.below c.args.place.now c.steps.step-index
    c.step-item.result c.steps-test.true c.step-item.is p c.steps.invariant.1 none in
    subst (λ (r : Option ℕ). IsNodeIndex c.args.self.now (place_view c.args.place.now) r)
    (sym c.from_residual-in_err-number-in-Index.ensures) whole

pub returns-in_err-number-in-Key : goal.returns-in_err-number-in-Key
returns-in_err-number-in-Key c =
    let p = node_place c.args.self.now c.steps.number in
    let none : tree_of c.args.self.now (at p (step_view c.step-item.result)) ≡ None =
    ap (λ (s : WrittenStep). tree_of c.args.self.now (at p (step_view s))) c.in-Key.is
    ∙ ap (λ (n : List ℕ). tree_of c.args.self.now (at p (key n))) (sym c.as_str.ensures.value) ∙
    c.in_err-number-in-Key.ensures {u = tt} in
    let whole = walk_none c.args.self.now c.lemma_tree.ensures.below c.args.place.now c.steps.step-index
    c.step-item.result c.steps-test.true c.step-item.is p c.steps.invariant.1 none in
    subst (λ (r : Option ℕ). IsNodeIndex c.args.self.now (place_view c.args.place.now) r)
    (sym c.from_residual.ensures) whole

pub returns : goal.returns
returns c =
    let here : node_place c.args.self.now c.steps.number ≡ place_view c.args.place.now =
    c.steps.invariant.1 ∙ ap place_view (take_all c.steps.step-index c.args.place.now c.steps-test.false) in
    (ap (tree_of c.args.self.now) (sym here) ∙ c.lemma_exists.ensures, here, c.steps.invariant.0)
