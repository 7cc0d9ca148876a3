use Rattle.std.proofs.Common.{◌≡◌, ◌<◌, ◌+◌, length, take, None, sym, ap, subst, ◌∙◌, arith}
use Rattle.edit_syntax.specs.Grammar.{Text}
use Rattle.edit_tree.specs.Assertions.{IsDocument, at}
use Rattle.edit_document.specs.Items.{place_view, step_view, node_place}
use Rattle.edit_tree.specs.DocumentViews.{tree_of}
use Rattle.edit_compare.proofs.RemainingSteps.{RemainsSoFar, remaining_as, remains_here, remains_before, root_before, some_steps, innermost}
use Rattle.edit_document.proofs.MemberViews.{place_more, walk_none}
use Rattle.edit_compare.proofs.remaining_parts.steps_to_remaining.Goals as goal
use Rattle.edit_compare.proofs.remaining_parts.steps_to_remaining.Goals.{then-index-gt0+then-is_remaining, else-index-gt0, else-index-gt0-via-then-index-gt0+else-is_remaining, else-index-gt0-via-else-index-gt0}

pub returns-in_default : goal.returns-in_default
returns-in_default c form manifest =
    absurd (c.requires.stands
    (walk_none c.args.document.now c.lemma_tree.ensures.below c.args.place.now c.steps.index
    c.index-place-index.result c.steps-test.true c.index-place-index.is
    (node_place c.args.document.now c.steps.number)
    c.steps.invariant.0.1 (c.in_default.ensures {u = tt})))

pub steps-preserved : goal.steps-preserved
steps-preserved c =
    let d = c.args.document.now in
    let steps = c.args.place.now in
    let i = c.steps.index in
    let step = c.index-place-index.result in
    let inv = c.steps.invariant in
    let next = c.in-Some.ensures {u = tt} in
    let stands : tree_of d (at (node_place d c.steps.number) (step_view step)) ≡ None → ⊥ = λ none.
    c.requires.stands (walk_none d c.lemma_tree.ensures.below steps i step c.steps-test.true
    c.index-place-index.is
    (node_place d c.steps.number) inv.0.1 none) in
    let more : (c.if-index-gt0.remaining < i + 1 + 1) × (0 < i + 1 → c.if-index-gt0.remaining < i + 1)
    × ((form : Text) → IsDocument d.bytes form → RemainsSoFar form steps c.if-index-gt0.remaining (i + 1)) =
    elim c.if-index-gt0.branch [
      | then-index-gt0+then-is_remaining w ↦
          subst (λ k. (k < i + 1 + 1) × (0 < i + 1 → k < i + 1)
          × ((form : Text) → IsDocument d.bytes form → RemainsSoFar form steps k (i + 1)))
          (sym w.remaining-is) (
            omega arith,
            λ e. omega arith,
            λ form manifest. remains_here form steps i step c.steps-test.true c.index-place-index.is
                (remaining_as form (node_place d c.steps.number) (place_view (take i steps))
                (step_view step) inv.0.1 w.if-is_remaining.true
                (w.is_remaining.ensures form (step_view step) manifest stands)),
          )
      | else-index-gt0 w ↦
          subst (λ k. (k < i + 1 + 1) × (0 < i + 1 → k < i + 1)
          × ((form : Text) → IsDocument d.bytes form → RemainsSoFar form steps k (i + 1)))
          (sym w.remaining-is) (
            omega (arith, inv.1),
            λ e. omega (arith, inv.1),
            λ form manifest. elim w.else-index-gt0.branch [
              | else-index-gt0-via-then-index-gt0+else-is_remaining v ↦
                  remains_before form steps i step c.steps-test.true c.index-place-index.is c.steps.remaining
                  (remaining_as form (node_place d c.steps.number) (place_view (take i steps))
                  (step_view step) inv.0.1 v.if-is_remaining.false
                  (v.is_remaining.ensures form (step_view step) manifest stands)) (inv.3 form manifest)
              | else-index-gt0-via-else-index-gt0 v ↦
                  root_before form steps c.steps.remaining i (omega (arith, v.if-index-gt0.false))
                  (inv.3 form manifest)
            ],
          )
    ] in (
      (
        next.2,
        next.1 ∙ ap (λ p. at p (step_view step)) inv.0.1 ∙
            sym (place_more steps i step c.steps-test.true c.index-place-index.is),
      ),
      more.0,
      more.1,
      more.2,
    )

pub returns : goal.returns
returns c form manifest =
    let size = some_steps c.args.place.now c.requires.inner in
    let end : c.steps.index ≡ length c.args.place.now =
    omega (arith, c.steps-test.false, c.steps.auto.index-end) in
    innermost form c.args.place.now c.steps.remaining c.requires.inner
    (let less = c.steps.invariant.2 (omega (arith, size, end)) in omega (arith, less, end))
    (subst (λ m. RemainsSoFar form c.args.place.now c.steps.remaining m) end (c.steps.invariant.3 form manifest))
