-- Which tables and arrays around a removed item stay, by their nodes.
use Rattle.std.proofs.Common.{◌≡◌, ℕ, suc, Bool, true, false, cond, ◌&&◌, ◌||◌, List, [], ◌∷◌, map, Some, refl, sym, ap, ◌∙◌, ◌⊎◌, inl, inr, true≢false, arith}
use Rattle.std.specs.Prelude.{slice_get}
use Rattle.std.specs.List.{list_any}
use Rattle.std.proofs.lemmas.Bool.{and_parts, and_from, or_left, or_right}
use Rattle.edit_syntax.specs.Grammar.{Text}
use Rattle.edit_syntax.proofs.Cases.{by_test}
use Rattle.edit_syntax.proofs.Members.{Among, among_all}
use Rattle.edit_tree.specs.declared.nodes.DefinedBy.{DefinedBy}
use Rattle.edit_tree.specs.declared.nodes.DefinedBy.TheVariants.{Dotted, Value, Super, Header, Array, Element}
use Rattle.edit_tree.specs.Assertions.{Place, Step, at, same_step, same_place, Kind, dotted, leaf, super, header_kind, array_kind, element_kind, Assertion, are_compatible, is_array, is_array_at, elements_at, assertions}
use Rattle.edit_document.specs.DocumentLayout.{placed}
use Rattle.edit_tree.specs.EditBytes.{is_within}
use Rattle.edit_document.specs.ItemRemoval.{is_named}
use Rattle.edit_tree.specs.Nodes.{ModelNode}
use Rattle.edit_tree.specs.Redefinition.{defined_by, can_extend, is_own}
use Rattle.edit_tree.specs.Written.{values}
use Rattle.edit_tree.proofs.AlonePlaces.{dotted_open, first_allows}
use Rattle.edit_tree.proofs.ArrayCounts.{arrays_alone}
use Rattle.edit_document.proofs.AssertedModels.{Stands}
use Rattle.edit_tree.proofs.ElementWays.{are_made}
use Rattle.edit_tree.proofs.Asserters.{Made, AreMade}
use Rattle.edit_tree.proofs.MoreAssertions.{allowed}
use Rattle.edit_document.proofs.NodeStatements.{array_through}
use Rattle.edit_tree.proofs.PairedPlaces.{owns, IsOpen}
use Rattle.edit_tree.proofs.SamePlace.{same_place_is, same_place_self}

-- ---- what nothing has for itself

array_kinds : (k : Kind) → are_compatible k array_kind ≡ true → owns k ≡ false
array_kinds array_kind e = refl
array_kinds (dotted w) e = absurd (true≢false (sym e))
array_kinds (leaf v) e = absurd (true≢false (sym e))
array_kinds super e = absurd (true≢false (sym e))
array_kinds header_kind e = absurd (true≢false (sym e))
array_kinds element_kind e = absurd (true≢false (sym e))

pub and_false : (b : Bool) → (b && false) ≡ false
and_false true = refl
and_false false = refl

array_open : (made : List Assertion) (t : Place) → allowed made t array_kind ≡ true → IsOpen t made
array_open [] t e = tt
array_open (a ∷ made) t e =
    let h = and_parts (cond (same_place a.place t) (are_compatible a.kind array_kind) true)
    (allowed made t array_kind) e in
    (go (same_place a.place t) h.0, array_open made t h.1)
  where
    go : (b : Bool) → cond b (are_compatible a.kind array_kind) true ≡ true → (owns a.kind && b) ≡ false
    go true k = ap (λ o. o && true) (array_kinds a.kind k)
    go false k = and_false (owns a.kind)

open_kinds : (k : Kind) → owns k ≡ false → is_array k ≡ false → are_compatible k (dotted false) ≡ true
open_kinds (dotted w) e f = refl
open_kinds super e f = refl
open_kinds (leaf v) e f = absurd (true≢false e)
open_kinds header_kind e f = absurd (true≢false e)
open_kinds element_kind e f = absurd (true≢false e)
open_kinds array_kind e f = absurd (true≢false f)

open_dotted : (made : List Assertion) (t : Place) → IsOpen t made → elements_at made t ≡ 0
    → allowed made t (dotted false) ≡ true
open_dotted [] t h e = refl
open_dotted (a ∷ made) t h e = go (is_array_at t a) (same_place a.place t) refl refl e
    (open_dotted made t h.1)
  where
    here : (b : Bool) → same_place a.place t ≡ b → is_array_at t a ≡ false
        → cond b (are_compatible a.kind (dotted false)) true ≡ true
    here false f g = refl
    here true f g =
        open_kinds a.kind (by_test (owns a.kind)
        (λ o. absurd (true≢false (sym (and_from (owns a.kind) (same_place a.place t) o f) ∙ h.0))) (λ o. o))
        (by_test (is_array a.kind)
        (λ o. absurd (true≢false (sym (and_from (is_array a.kind) (same_place a.place t) o f) ∙ g))) (λ o. o))

    go : (c b : Bool) → is_array_at t a ≡ c → same_place a.place t ≡ b
        → cond c (suc (elements_at made t)) (elements_at made t) ≡ 0
        → (elements_at made t ≡ 0 → allowed made t (dotted false) ≡ true)
        → (cond b (are_compatible a.kind (dotted false)) true && allowed made t (dotted false)) ≡ true
    go true b f g e ih = absurd (omega (arith, e))
    go false b f g e ih = and_from (cond b (are_compatible a.kind (dotted false)) true)
        (allowed made t (dotted false)) (here b g f) (ih e)

-- something has the place for itself, or nothing does
pub own_or : (xs : List Assertion) (p : Place)
    → ((a : Assertion) × Among a xs × (a.place ≡ p) × (owns a.kind ≡ true)) ⊎ IsOpen p xs
own_or [] p = inr tt
own_or (x ∷ xs) p = go (owns x.kind && same_place x.place p) refl (own_or xs p)
  where
    go : (b : Bool) → (owns x.kind && same_place x.place p) ≡ b
        → ((a : Assertion) × Among a xs × (a.place ≡ p) × (owns a.kind ≡ true)) ⊎ IsOpen p xs
        → ((a : Assertion) × Among a (x ∷ xs) × (a.place ≡ p) × (owns a.kind ≡ true)) ⊎ IsOpen p (x ∷ xs)
    go true e rest = let h = and_parts (owns x.kind) (same_place x.place p) e in
        inl (x, inl refl, same_place_is x.place p h.1, h.0)
    go false e (inl a) = inl (a.0, inr a.1, a.2, a.3)
    go false e (inr bare) = inr (e, bare)

own_array : (t : DefinedBy) → is_own t ≡ true → can_extend t Array ≡ true → ⊥
own_array Value e f = true≢false (sym f)
own_array Header e f = true≢false (sym f)
own_array Element e f = true≢false (sym f)
own_array Dotted e f = true≢false (sym e)
own_array Super e f = true≢false (sym e)
own_array Array e f = true≢false (sym e)

own_dotted : (t : DefinedBy) → is_own t ≡ true → can_extend t Dotted ≡ true → ⊥
own_dotted Value e f = true≢false (sym f)
own_dotted Header e f = true≢false (sym f)
own_dotted Element e f = true≢false (sym f)
own_dotted Dotted e f = true≢false (sym e)
own_dotted Super e f = true≢false (sym e)
own_dotted Array e f = true≢false (sym e)

-- ---- model nodes

module _ (form : Text) (models : List ModelNode) (n : ℕ) (s : ModelNode)
    (st : Stands (assertions form) (map placed (values form)) models)
    (here : slice_get models n ≡ Some s) (inner : s.place ≡ [] → ⊥) where
  joined : (k : Kind) → allowed (assertions form) s.place k ≡ can_extend s.taken (defined_by k)
  joined k = (st.tells n s here).joined inner k

  taken_open : is_own s.taken ≡ false → IsOpen s.place (assertions form)
  taken_open e = go s.taken refl e
    where
      go : (t : DefinedBy) → s.taken ≡ t → is_own t ≡ false → IsOpen s.place (assertions form)
      go Dotted is f = dotted_open (assertions form) s.place
          (joined (dotted false) ∙ ap (λ t. can_extend t Dotted) is)
      go Super is f = dotted_open (assertions form) s.place
          (joined (dotted false) ∙ ap (λ t. can_extend t Dotted) is)
      go Array is f = array_open (assertions form) s.place (joined array_kind ∙ ap (λ t. can_extend t Array) is)
      go Value is f = absurd (true≢false f)
      go Header is f = absurd (true≢false f)
      go Element is f = absurd (true≢false f)

  open_taken : IsOpen s.place (assertions form) → is_own s.taken ≡ true → ⊥
  open_taken bare own = elim (arrays_alone (assertions form) s.place st.clear.apart) [
    | inl none ↦ own_dotted s.taken own (sym (joined (dotted false)) ∙
        open_dotted (assertions form) s.place bare none)
    | inr array ↦
        own_array s.taken own (sym (joined array_kind)
        ∙ first_allows (assertions form) s.place array_kind array_kind st.clear.apart array refl
        array_through)
  ]

  named_among : (xs : List Assertion) (a : Assertion) → Among a xs → a.by ≡ s.place → a.place ≡ s.place
      → list_any (λ b. same_place b.by s.place && same_place b.place s.place) xs ≡ true
  named_among [] a m by place = absurd m
  named_among (x ∷ xs) a (inl is) by place =
      or_left _ _ (and_from (same_place x.by s.place) (same_place x.place s.place)
      (ap (λ (z : Assertion). same_place z.by s.place) (sym is) ∙ ap (λ z. same_place z s.place) by ∙
      same_place_self s.place)
      (ap (λ (z : Assertion). same_place z.place s.place) (sym is) ∙ ap (λ z. same_place z s.place) place ∙
      same_place_self s.place))
  named_among (x ∷ xs) a (inr m) by place = or_right _ _ (named_among xs a m by place)

  open_named : (xs : List Assertion) → AreMade (assertions form) xs → IsOpen s.place xs
      → list_any (λ b. same_place b.by s.place && same_place b.place s.place) xs ≡ false
  open_named [] all bare = refl
  open_named (x ∷ xs) all bare =
      ap (λ b. b || list_any (λ b. same_place b.by s.place && same_place b.place s.place) xs)
      (by_test (same_place x.by s.place && same_place x.place s.place) (λ e. absurd (never e)) (λ e. e))
      ∙ open_named xs all.1 bare.1
    where
      beyond : (q : Place) (u : Step) → is_within (at q u) q ≡ true → ⊥
      beyond [] u e = true≢false (sym e)
      beyond (y ∷ q) u e = beyond q u (and_parts (same_step y y) (is_within (at q u) q) e).1

      never : (same_place x.by s.place && same_place x.place s.place) ≡ true → ⊥
      never e =
          let h = and_parts (same_place x.by s.place) (same_place x.place s.place) e in
          let by = same_place_is x.by s.place h.0 in
          let place = same_place_is x.place s.place h.1 in
          let free : owns x.kind ≡ false =
          by_test (owns x.kind)
          (λ o. absurd (true≢false (sym (and_from (owns x.kind) (same_place x.place s.place) o h.1) ∙
          bare.0))) (λ o. o) in
          let u = all.0.goes free in
          beyond x.place u.0 (ap (λ z. is_within (at x.place u.0) z) (sym (by ∙ sym place)) ∙ u.1)

  pub taken_named : is_own s.taken ≡ is_named form s.place
  taken_named = by_test (is_own s.taken)
      (λ own. own ∙ elim (own_or (assertions form) s.place) [
        | inl a ↦
            sym (named_among (assertions form) a.0 a.1
            ((among_all (Made (assertions form)) a.0 (assertions form) (are_made form) a.1).owner a.3 ∙
            a.2) a.2)
        | inr bare ↦ absurd (open_taken bare own)
      ])
      (λ e. e ∙ sym (open_named (assertions form) (are_made form) (taken_open e)))
