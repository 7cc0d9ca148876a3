use Rattle.std.proofs.Common.{◌≡◌, ℕ, suc, ◌<◌, ◌≤◌, refl, sym, subst, ◌∙◌, arith}
use Rattle.edit_document.specs.Compared.{kind_of}
use Rattle.edit_document.specs.Items.{node_view, step_view, count_in}
use Rattle.edit_compare.proofs.LosesParts.{part_is, parts_but, names_but}
use Rattle.edit_compare.proofs.LosesViews.{loses_kind, loses_size, loses_parts, array_loses, table_loses}
use Rattle.edit_document.proofs.SameParts.{part_less}
use Rattle.edit_compare.proofs.UnorderedViews.{names_by_parts}
use Rattle.edit_compare.proofs.removed.loses_view.Goals as goal

pub returns-then-kind : goal.returns-then-kind
returns-then-kind c =
    let v = node_view c.args.document.now c.args.number in
    let w = node_view c.args.other.now c.args.there in (
      λ e. absurd cc,
      λ h. absurd (c.if-kind.true (c.kind-kind.ensures ∙ loses_kind (step_view c.args.step.now) v w h ∙
          sym c.kind.ensures)),
    )

pub returns-then-saturating_sub-rest : goal.returns-then-saturating_sub-rest
returns-then-saturating_sub-rest c =
    let v = node_view c.args.document.now c.args.number in
    let w = node_view c.args.other.now c.args.there in (
      λ e. absurd cc,
      λ h. absurd (let size = loses_size (step_view c.args.step.now) v w h in
          c.if-saturating_sub-rest.true
          (omega (arith, size, c.member_count.ensures, c.member_count-rest.ensures))),
    )

pub returns-then-kind-lt8 : goal.returns-then-kind-lt8
returns-then-kind-lt8 c =
    let v = node_view c.args.document.now c.args.number in
    let w = node_view c.args.other.now c.args.there in
    let t = step_view c.args.step.now in
    let p = part_is c.args.document.now c.args.number t c.lemma_children.ensures.parts c.requires.part in
    let lt = part_less v p.0 t p.1 in
    let kind : kind_of v ≡ kind_of w = sym c.kind-kind.ensures ∙ c.if-kind.false ∙ c.kind.ensures in
    let size : count_in v ≡ suc (count_in w) =
    omega (arith, lt, c.if-saturating_sub-rest.false, c.member_count.ensures, c.member_count-rest.ensures) in
    let small : kind_of v < 8 = subst (λ (k : ℕ). k < 8) c.kind-kind.ensures c.if-kind-lt8.true in
    (λ e. array_loses t v w p.0 p.1 small kind size, λ h. refl)

pub returns-then-not-has_names_but : goal.returns-then-not-has_names_but
returns-then-not-has_names_but c =
    let v = node_view c.args.document.now c.args.number in
    let w = node_view c.args.other.now c.args.there in
    let big : 8 ≤ kind_of v = subst (λ (k : ℕ). 8 ≤ k) c.kind-kind.ensures c.if-kind-lt8.false in (
      λ e. absurd cc,
      λ h. sym c.if-not-has_names_but.true ∙
          c.has_names_but.ensures.1 (names_but c.args.document.now c.args.number
          c.args.other.now c.args.there
          (step_view c.args.step.now) c.lemma_children-2.ensures.stands c.lemma_children.ensures.names
          (loses_parts (step_view c.args.step.now) v w h big)),
    )

pub returns-then-not-has_names_of : goal.returns-then-not-has_names_of
returns-then-not-has_names_of c =
    let v = node_view c.args.document.now c.args.number in
    let w = node_view c.args.other.now c.args.there in
    let big : 8 ≤ kind_of v = subst (λ (k : ℕ). 8 ≤ k) c.kind-kind.ensures c.if-kind-lt8.false in (
      λ e. absurd cc,
      λ h. sym c.if-not-has_names_of.true ∙
          c.has_names_of.ensures.1 (names_by_parts c.args.other.now c.args.there
          c.args.document.now c.args.number c.lemma_children.ensures.stands c.lemma_children-2.ensures.names
          (loses_parts (step_view c.args.step.now) v w h big).back),
    )

pub returns : goal.returns
returns c =
    let v = node_view c.args.document.now c.args.number in
    let w = node_view c.args.other.now c.args.there in
    let t = step_view c.args.step.now in
    let p = part_is c.args.document.now c.args.number t c.lemma_children.ensures.parts c.requires.part in
    let lt = part_less v p.0 t p.1 in
    let kind : kind_of v ≡ kind_of w = sym c.kind-kind.ensures ∙ c.if-kind.false ∙ c.kind.ensures in
    let size : count_in v ≡ suc (count_in w) =
    omega (arith, lt, c.if-saturating_sub-rest.false, c.member_count.ensures, c.member_count-rest.ensures) in
    let big : 8 ≤ kind_of v = subst (λ (k : ℕ). 8 ≤ k) c.kind-kind.ensures c.if-kind-lt8.false in (
      λ e. table_loses t v w big kind size
          (parts_but c.args.document.now c.args.number c.args.other.now c.args.there t
          big kind c.lemma_children.ensures.parts c.lemma_children-2.ensures.parts c.lemma_children-2.ensures.stands
          c.lemma_children-2.ensures.steps c.lemma_children-2.ensures.names c.lemma_children.ensures.keys
          c.lemma_children-2.ensures.keys
          (c.has_names_but.ensures.0 c.if-not-has_names_but.false)
          (c.has_names_of.ensures.0 c.if-not-has_names_of.false)
          (c.has_no_child.ensures.0 e)),
      λ h. c.has_no_child.ensures.1 (c.lemma_children-2.ensures.parts t (loses_parts t v w h big).none),
    )
