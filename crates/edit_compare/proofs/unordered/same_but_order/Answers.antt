use Rattle.std.proofs.Common.{◌≡◌, ℕ, ◌<◌, ◌≤◌, sym, subst, ◌∙◌}
use Rattle.edit_document.specs.Items.{node_view}
use Rattle.edit_document.specs.Compared.{kind_of}
use Rattle.edit_compare.proofs.UnorderedViews.{order_free, free_view, free_tabled, parts_by_names, names_by_parts, named_parts}
use Rattle.edit_compare.proofs.unordered.same_but_order.Goals as goal

pub returns-then-kind-lt8 : goal.returns-then-kind-lt8
returns-then-kind-lt8 c =
    let v = node_view c.args.document.now c.args.number in
    let w = node_view c.args.other.now c.args.there in (
      λ e. free_view v w (c.same_view.ensures.0 e),
      λ h. c.same_view.ensures.1 ((order_free v w h).small
          (subst (λ (k : ℕ). k < 8) c.kind-kind.ensures c.if-kind-lt8.true)),
    )

pub returns-then-not-has_names_of : goal.returns-then-not-has_names_of
returns-then-not-has_names_of c =
    let v = node_view c.args.document.now c.args.number in
    let w = node_view c.args.other.now c.args.there in (
      λ e. absurd cc,
      λ h. sym c.if-not-has_names_of.true ∙
          c.has_names_of.ensures.1 (names_by_parts c.args.document.now c.args.number
          c.args.other.now c.args.there c.lemma_children-2.ensures.stands c.lemma_children.ensures.names
          (order_free v w h).there),
    )

pub returns : goal.returns
returns c =
    let v = node_view c.args.document.now c.args.number in
    let w = node_view c.args.other.now c.args.there in
    let big : 8 ≤ kind_of v = subst (λ (k : ℕ). 8 ≤ k) c.kind-kind.ensures c.if-kind-lt8.false in
    let kind : kind_of v ≡ kind_of w = sym c.kind-kind.ensures ∙ c.if-kind.false ∙ c.kind.ensures in
    let size = sym c.member_count.ensures ∙ c.if-member_count.false ∙ c.member_count-2.ensures in
    let there = parts_by_names c.args.document.now c.args.number c.args.other.now c.args.there
    c.lemma_children-2.ensures.parts c.lemma_children.ensures.steps c.lemma_children.ensures.names
    (named_parts v big c.lemma_children.ensures.keys) (c.has_names_of.ensures.0 c.if-not-has_names_of.false) in (
      λ e. free_tabled v w big kind size there
          (parts_by_names c.args.other.now c.args.there c.args.document.now c.args.number
          c.lemma_children.ensures.parts c.lemma_children-2.ensures.steps c.lemma_children-2.ensures.names
          (named_parts w (subst (λ (k : ℕ). 8 ≤ k) kind big) c.lemma_children-2.ensures.keys)
          (c.has_names_of-2.ensures.0 e)),
      λ h. c.has_names_of-2.ensures.1
          (names_by_parts c.args.other.now c.args.there c.args.document.now c.args.number
          c.lemma_children.ensures.stands c.lemma_children-2.ensures.names (order_free v w h).back),
    )
