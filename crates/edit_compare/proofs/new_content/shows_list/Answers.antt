use Rattle.std.proofs.Common.{◌≡◌, ℕ, length, List, Some, map, refl, sym, ap, subst, ◌∙◌, inl, inr, arith}
use Rattle.std.specs.Prelude.{slice_get, option_map, string_bytes}
use Rattle.std.proofs.lemmas.Bool.{cases_lt}
use Rattle.std.proofs.lemmas.List.{length-map}
use Rattle.std.proofs.lemmas.Option.{slice_get-map, slice_get_read, slice_get_within, same_Some}
use Rattle.edit_tree.specs.Assertions.{index, at}
use Rattle.edit_document.specs.Items.{node_place, count_in}
use Rattle.edit_tree.specs.NewItems.{a_string}
use Rattle.edit_document.specs.Compared.{kind_of, ShowsValue}
use Rattle.edit_document.proofs.ShownValues.{list_view, list_element, list_shows}
use Rattle.edit_compare.proofs.new_content.shows_list.Goals as goal

pub returns-then-kind-ne6 : goal.returns-then-kind-ne6
returns-then-kind-ne6 c = (
  λ e. absurd cc,
  λ h. absurd (c.if-kind-ne6.true (c.kind.ensures ∙ sym (ap kind_of (list_view c.args.document.now c.args.number
      c.lemma_exists.ensures (map string_bytes c.args.list.now) h)))),
)

pub returns-then-member_count-list : goal.returns-then-member_count-list
returns-then-member_count-list c = (
  λ e. absurd cc,
  λ h. absurd (c.if-member_count-list.true (c.member_count.ensures ∙
      sym (ap count_in (list_view c.args.document.now
      c.args.number c.lemma_exists.ensures (map string_bytes c.args.list.now) h)) ∙
      length-map c.args.list.now string_bytes)),
)

pub returns-then-not-shows_element : goal.returns-then-not-shows_element
returns-then-not-shows_element c =
    let said : slice_get (map string_bytes c.args.list.now) c.texts.index ≡ Some c.as_str.result.now =
    slice_get-map string_bytes c.args.list.now c.texts.index
    ∙ ap (option_map string_bytes) (slice_get_read c.args.list.now (length c.args.list.now) c.texts.index
    c.index-list-index.result refl c.texts-test.true c.index-list-index.is)
    ∙ ap Some (sym c.as_str.ensures.value) in (
      λ e. absurd cc,
      λ h. sym c.if-not-shows_element.true ∙
          c.shows_element.ensures.1 (list_element c.args.document.now c.args.number
          c.lemma_exists.ensures (map string_bytes c.args.list.now) c.texts.index c.as_str.result.now h said),
    )

pub texts-preserved : goal.texts-preserved
texts-preserved c i s lt e =
    let said : slice_get (map string_bytes c.args.list.now) c.texts.index ≡ Some c.as_str.result.now =
    slice_get-map string_bytes c.args.list.now c.texts.index
    ∙ ap (option_map string_bytes) (slice_get_read c.args.list.now (length c.args.list.now) c.texts.index
    c.index-list-index.result refl c.texts-test.true c.index-list-index.is)
    ∙ ap Some (sym c.as_str.ensures.value) in
    elim (cases_lt i c.texts.index) [
      | inl less ↦ c.texts.invariant i s less e
      | inr ge ↦
          let here : c.texts.index ≡ i = omega (arith, lt, ge) in
          let same : c.as_str.result.now ≡ s = same_Some c.as_str.result.now s
          (sym said ∙ ap (slice_get (map string_bytes c.args.list.now)) here ∙ e) in
          subst (λ (j : ℕ). ShowsValue c.args.document.now
          (at (node_place c.args.document.now c.args.number) (index j)) (a_string s)) here
          (subst (λ (w : List ℕ). ShowsValue c.args.document.now
          (at (node_place c.args.document.now c.args.number) (index c.texts.index)) (a_string w)) same
          (c.shows_element.ensures.0 c.if-not-shows_element.false))
    ]

pub returns : goal.returns
returns c = (
  λ e. list_shows c.args.document.now c.args.number c.lemma_exists.ensures c.lemma_tree.ensures.below
      c.lemma_children.ensures.parts
      (map string_bytes c.args.list.now) (sym c.kind.ensures ∙ c.if-kind-ne6.false)
      (sym c.member_count.ensures ∙ c.if-member_count-list.false ∙
      sym (length-map c.args.list.now string_bytes))
      (λ i s there. c.texts.invariant i s
      (let lt = slice_get_within (map string_bytes c.args.list.now) i s there in
      let n = length-map c.args.list.now string_bytes in
      omega (arith, lt, n, c.texts-test.false)) there),
  λ h. refl,
)
