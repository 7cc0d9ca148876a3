use Rattle.std.proofs.Common.{◌≡◌, ℕ, suc, ◌+◌, length, Some, refl, sym, ap, ◌∙◌, arith}
use Rattle.std.specs.Prelude.{slice_get}
use Rattle.std.proofs.lemmas.Option.{slice_get_within}
use Rattle.edit_tree.specs.Assertions.{key}
use Rattle.edit_document.specs.Items.{node_view, names_in}
use Rattle.edit_compare.proofs.GrownNames.{one_more, grown_names, grown_has, grown_size, grown_before, grown_behind, names_grown, grown_view}
use Rattle.edit_compare.proofs.grown.grown_names.Goals as goal
use Rattle.edit_compare.proofs.grown.grown_names.Goals.{then-index-added, else-index-added}

pub returns-in_default : goal.returns-in_default
returns-in_default c =
    let v = node_view c.args.document.now c.args.number in
    let w = node_view c.args.other.now c.args.there in (
      λ e. absurd cc,
      λ h. absurd (grown_has c.args.key.now v w (grown_names c.args.key.now v w h)
          (c.in_default.ensures {u = tt})),
    )

pub returns-then-saturating_sub-count : goal.returns-then-saturating_sub-count
returns-then-saturating_sub-count c =
    let v = node_view c.args.document.now c.args.number in
    let w = node_view c.args.other.now c.args.there in (
      λ e. absurd cc,
      λ h. absurd (
          let size = grown_size c.args.key.now v w (grown_names c.args.key.now v w h) in
          omega (arith, size)),
    )

pub returns-then-not-is_same_text : goal.returns-then-not-is_same_text
returns-then-not-is_same_text c =
    let v = node_view c.args.document.now c.args.number in
    let w = node_view c.args.other.now c.args.there in
    let has_no_child : (i : ℕ) → slice_get (names_in v) i ≡ Some c.args.key.now → ⊥ = λ i h.
    c.lemma_children.ensures.stands (key c.args.key.now) i
    (c.lemma_children.ensures.names i c.args.key.now h) c.requires.absent in
    let first = c.in-Some.ensures {u = tt} in (
      λ e. absurd cc,
      λ h.
          let g = grown_names c.args.key.now v w h in
          sym c.if-not-is_same_text.true ∙
          c.is_same_text.ensures.1 (c.member_name.ensures ∙ elim c.if-index-added.branch [
            | then-index-added b ↦
                grown_before c.args.key.now v w g c.in-Some.added c.names.index has_no_child first (omega (arith, b))
                ∙ ap (slice_get (names_in w)) (sym b.moved-is)
            | else-index-added b ↦
                grown_behind c.args.key.now v w g c.in-Some.added c.names.index has_no_child first (omega (arith, b))
                ∙ ap (slice_get (names_in w))
                (let more : suc c.names.index ≡ c.names.index + 1 = omega arith in more ∙ sym b.moved-is)
          ] ∙ sym c.member_name-in-names.ensures),
    )

pub returns : goal.returns
returns c =
    let v = node_view c.args.document.now c.args.number in
    let w = node_view c.args.other.now c.args.there in
    let first = c.in-Some.ensures {u = tt} in
    let size : length (names_in w) ≡ suc (length (names_in v)) =
    let lt = slice_get_within (names_in w) c.in-Some.added c.args.key.now first.0 in
    omega (arith, lt, c.name_count-count.ensures, c.if-saturating_sub-count.false) in (
      λ e. grown_view c.args.key.now v w c.lemma_children.ensures.keys c.lemma_children-2.ensures.keys
          (names_grown c.args.key.now v w c.in-Some.added (omega (arith, c.kind-kind.ensures))
          (sym c.kind-kind.ensures ∙ c.if-kind.false ∙ c.kind.ensures)
          (one_more c.args.key.now c.in-Some.added (names_in v) (names_in w) first.0 size
          (λ i lt less. c.names.invariant.0 i (omega (arith, lt)) less)
          (λ i lt le. c.names.invariant.1 i (omega (arith, lt)) le))),
      λ h. refl,
    )
