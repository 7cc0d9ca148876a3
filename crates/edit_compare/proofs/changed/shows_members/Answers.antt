use Rattle.std.proofs.Common.{◌≡◌, ℕ, cond, length, List, Some, refl, sym, ap, subst, ◌∙◌, inl, inr, arith}
use Rattle.std.specs.Prelude.{slice_get, option_map}
use Rattle.std.proofs.lemmas.Bool.{cases_lt}
use Rattle.std.proofs.lemmas.List.{length-map}
use Rattle.std.proofs.lemmas.Option.{slice_get-map, slice_get_read, slice_get_within, same_Some}
use Rattle.edit_tree.specs.NewItems.{NewValue}
use Rattle.edit_document.specs.NewItemViews.{new_pair_view, new_pair_views}
use Rattle.edit_document.specs.Compared.{kind_of}
use Rattle.edit_document.proofs.ShownItems.{ShowsPair, members_kind, members_view, members_count, members_pair, members_show}
use Rattle.edit_compare.proofs.changed.shows_members.Goals as goal
use Rattle.edit_compare.proofs.changed.shows_members.Goals.{then-is_inline, else-is_inline}

pub returns-then-kind : goal.returns-then-kind
returns-then-kind c =
    let ms = new_pair_views c.args.members.now in
    let kind : c.if-is_inline.kind ≡ cond c.args.is_inline 8 9 = elim c.if-is_inline.branch [
      | then-is_inline w ↦ w.kind-is ∙ sym (ap (λ b. cond b 8 9) w.if-is_inline.true)
      | else-is_inline w ↦ w.kind-is ∙ sym (ap (λ b. cond b 8 9) w.if-is_inline.false)
    ] in (
      λ e. absurd cc,
      λ h. absurd (c.if-kind.true (c.kind.ensures
          ∙ sym (ap kind_of (members_view c.args.document.now c.args.number c.lemma_exists.ensures c.args.is_inline ms
          h))
          ∙ members_kind c.args.is_inline ms ∙ sym kind)),
    )

pub returns-then-name_count-members : goal.returns-then-name_count-members
returns-then-name_count-members c =
    let ms = new_pair_views c.args.members.now in (
      λ e. absurd cc,
      λ h. absurd (c.if-name_count-members.true (c.name_count.ensures
          ∙ ap length (members_count c.args.document.now c.args.number c.lemma_exists.ensures c.args.is_inline ms h)
          ∙ length-map ms (λ (m : List ℕ × NewValue). m.0) ∙ length-map c.args.members.now new_pair_view)),
    )

pub returns-then-not-shows_member : goal.returns-then-not-shows_member
returns-then-not-shows_member c =
    let ms = new_pair_views c.args.members.now in
    let there : slice_get ms c.members.index ≡ Some (new_pair_view c.index-members-index.result) =
    slice_get-map new_pair_view c.args.members.now c.members.index
    ∙ ap (option_map new_pair_view) (slice_get_read c.args.members.now (length c.args.members.now) c.members.index
    c.index-members-index.result refl c.members-test.true c.index-members-index.is) in (
      λ e. absurd cc,
      λ h. sym c.if-not-shows_member.true ∙
          c.shows_member.ensures.1 (members_pair c.args.document.now c.args.number
          c.lemma_exists.ensures c.args.is_inline ms c.lemma_unique_names.ensures c.members.index
          (new_pair_view c.index-members-index.result) h there),
    )

pub members-preserved : goal.members-preserved
members-preserved c i m lt e =
    let ms = new_pair_views c.args.members.now in
    let there : slice_get ms c.members.index ≡ Some (new_pair_view c.index-members-index.result) =
    slice_get-map new_pair_view c.args.members.now c.members.index
    ∙ ap (option_map new_pair_view) (slice_get_read c.args.members.now (length c.args.members.now) c.members.index
    c.index-members-index.result refl c.members-test.true c.index-members-index.is) in
    elim (cases_lt i c.members.index) [
      | inl less ↦ c.members.invariant i m less e
      | inr ge ↦
          let here : c.members.index ≡ i = omega (arith, lt, ge) in
          let same : new_pair_view c.index-members-index.result ≡ m =
          same_Some (new_pair_view c.index-members-index.result) m (sym there ∙ ap (slice_get ms) here ∙ e) in
          subst (λ (j : ℕ). ShowsPair c.args.document.now c.args.number j m) here
          (subst (λ (p : List ℕ × NewValue). ShowsPair c.args.document.now c.args.number c.members.index p) same
          (c.shows_member.ensures.0 c.if-not-shows_member.false))
    ]

pub returns : goal.returns
returns c =
    let ms = new_pair_views c.args.members.now in
    let kind : c.if-is_inline.kind ≡ cond c.args.is_inline 8 9 = elim c.if-is_inline.branch [
      | then-is_inline w ↦ w.kind-is ∙ sym (ap (λ b. cond b 8 9) w.if-is_inline.true)
      | else-is_inline w ↦ w.kind-is ∙ sym (ap (λ b. cond b 8 9) w.if-is_inline.false)
    ] in (
      λ e. members_show c.args.document.now c.args.number c.lemma_exists.ensures c.args.is_inline ms
          c.lemma_tree.ensures.below
          c.lemma_children.ensures.parts c.lemma_children.ensures.keys c.lemma_children.ensures.steps
          (sym c.kind.ensures ∙ c.if-kind.false ∙ kind)
          (sym c.name_count.ensures ∙ c.if-name_count-members.false ∙
          sym (length-map c.args.members.now new_pair_view))
          (λ i m there. c.members.invariant i m
          (let lt = slice_get_within ms i m there in
          let n = length-map c.args.members.now new_pair_view in
          omega (arith, lt, n, c.members-test.false)) there),
      λ h. refl,
    )
