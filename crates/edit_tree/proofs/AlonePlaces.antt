-- How a place counts as defined decides which assertions it has and how often pairs name it.
use Rattle.std.proofs.Common.{◌≡◌, suc, Bool, true, false, not, ◌&&◌, ◌||◌, cond, List, [], ◌∷◌, Some, None, refl, sym, ap, ◌∙◌, true≢false}
use Rattle.std.proofs.lemmas.Bool.{and_parts}
use Rattle.std.specs.List.{AllByRecursion}
use Rattle.edit_syntax.specs.Grammar.{Value}
use Rattle.edit_tree.specs.Assertions.{Place, same_place, Kind, dotted, leaf, super, header_kind, array_kind, element_kind, Assertion, are_compatible, AreCompatible}
use Rattle.edit_tree.specs.Tree.{kind_at}
use Rattle.edit_tree.proofs.HeadedPlaces.{is_headed_at}
use Rattle.edit_tree.proofs.MoreAssertions.{allowed}
use Rattle.edit_tree.proofs.NamedPairs.{is_paired, pairs_at}
use Rattle.edit_tree.proofs.PairedPlaces.{tally, is_dotted, goes_on, owns, IsOpen}
use Rattle.edit_tree.proofs.SamePlace.{same_place_is}

-- ---- where a dotted key may go on, only dotted keys and headers go on

open_kind : (k : Kind) → are_compatible k (dotted false) ≡ true → owns k ≡ false
open_kind (dotted b) e = refl
open_kind (leaf v) e = absurd (true≢false (sym e))
open_kind super e = refl
open_kind header_kind e = absurd (true≢false (sym e))
open_kind array_kind e = refl
open_kind element_kind e = absurd (true≢false (sym e))

and_false : (b : Bool) → (b && false) ≡ false
and_false true = refl
and_false false = refl

pub dotted_open : (made : List Assertion) (t : Place) → allowed made t (dotted false) ≡ true → IsOpen t made
dotted_open [] t e = tt
dotted_open (a ∷ made) t e =
    let h = and_parts (cond (same_place a.place t) (are_compatible a.kind (dotted false)) true)
    (allowed made t (dotted false)) e in
    (go (same_place a.place t) h.0, dotted_open made t h.1)
  where
    go : (b : Bool) → cond b (are_compatible a.kind (dotted false)) true ≡ true → (owns a.kind && b) ≡ false
    go true k = ap (λ o. o && true) (open_kind a.kind k)
    go false k = and_false (owns a.kind)

-- there pairs assert by dotted keys that go on alone
pub dotted_pairs : (made : List Assertion) (t : Place) → allowed made t (dotted false) ≡ true
    → pairs_at made t ≡ tally (goes_on t) made
dotted_pairs [] t e = refl
dotted_pairs (a ∷ made) t e =
    let h = and_parts (cond (same_place a.place t) (are_compatible a.kind (dotted false)) true)
    (allowed made t (dotted false)) e in
    go a.kind (same_place a.place t) h.0 (dotted_pairs made t h.1)
  where
    go : (k : Kind) (b : Bool) → cond b (are_compatible k (dotted false)) true ≡ true
        → pairs_at made t ≡ tally (goes_on t) made
        → cond (is_paired k && b) (suc (pairs_at made t)) (pairs_at made t)
        ≡ cond (is_dotted k && b) (suc (tally (goes_on t) made)) (tally (goes_on t) made)
    go (dotted c) true k e = ap suc e
    go (dotted c) false k e = e
    go (leaf v) true k e = absurd (true≢false (sym k))
    go (leaf v) false k e = e
    go super b k e = e
    go header_kind b k e = e
    go array_kind b k e = e
    go element_kind b k e = e

-- ---- where a header may come, no pair goes on, and where an array's next element may come, neither

-- where a kind may come beside which no pair goes on
none_paired : (other : Kind) → ((c : Bool) → are_compatible (dotted c) other ≡ false)
    → ((v : Value) → are_compatible (leaf v) other ≡ false)
    → (made : List Assertion) (t : Place) → allowed made t other ≡ true → pairs_at made t ≡ 0
none_paired other no_dotted no_leaf [] t e = refl
none_paired other no_dotted no_leaf (a ∷ made) t e =
    let h = and_parts (cond (same_place a.place t) (are_compatible a.kind other) true) (allowed made t other) e in
    go a.kind (same_place a.place t) h.0 (none_paired other no_dotted no_leaf made t h.1)
  where
    go : (k : Kind) (b : Bool) → cond b (are_compatible k other) true ≡ true → pairs_at made t ≡ 0
        → cond (is_paired k && b) (suc (pairs_at made t)) (pairs_at made t) ≡ 0
    go (dotted c) true k e = absurd (true≢false (sym k ∙ no_dotted c))
    go (leaf v) true k e = absurd (true≢false (sym k ∙ no_leaf v))
    go (dotted c) false k e = e
    go (leaf v) false k e = e
    go super b k e = e
    go header_kind b k e = e
    go array_kind b k e = e
    go element_kind b k e = e

pub header_none : (made : List Assertion) (t : Place) → allowed made t header_kind ≡ true
    → pairs_at made t ≡ 0
header_none = none_paired header_kind (λ c. refl) (λ v. refl)

pub array_none : (made : List Assertion) (t : Place) → allowed made t array_kind ≡ true → pairs_at made t ≡ 0
array_none = none_paired array_kind (λ c. refl) (λ v. refl)

-- ---- where a header may go through and no dotted key may go on, a header stands

pub headed_here : (made : List Assertion) (t : Place) → allowed made t super ≡ true
    → allowed made t (dotted false) ≡ false → is_headed_at made t ≡ true
headed_here [] t e f = absurd (true≢false f)
headed_here (a ∷ made) t e f =
    let h = and_parts (cond (same_place a.place t) (are_compatible a.kind super) true) (allowed made t super) e in
    go a.kind (same_place a.place t) h.0 f (λ k. headed_here made t h.1 k)
  where
    go : (k : Kind) (b : Bool) → cond b (are_compatible k super) true ≡ true
        → (cond b (are_compatible k (dotted false)) true && allowed made t (dotted false)) ≡ false
        → (allowed made t (dotted false) ≡ false → is_headed_at made t ≡ true)
        → ((not (is_paired k) && b) || is_headed_at made t) ≡ true
    go k false s f ih = ap (λ c. c || is_headed_at made t) (and_false (not (is_paired k))) ∙ ih f
    go (dotted c) true s f ih = ih f
    go (leaf v) true s f ih = absurd (true≢false (sym s))
    go super true s f ih = refl
    go header_kind true s f ih = refl
    go array_kind true s f ih = refl
    go element_kind true s f ih = refl

-- ---- what the first assertion allows

pub first_allows : (made : List Assertion) (t : Place) (j k : Kind) → AreCompatible made
    → kind_at made t ≡ Some j
    → are_compatible j k ≡ true → ((l : Kind) → are_compatible j l ≡ true → are_compatible l k ≡ true)
    → allowed made t k ≡ true
first_allows [] t j k clash e left_with_comma others = absurd (never e)
  where
    never : None ≡ Some j → ⊥
    never h = cc
first_allows (a ∷ made) t j k clash e left_with_comma others = go (same_place a.place t) refl e
    (λ h. first_allows made t j k clash.1 h left_with_comma others)
  where
    rest : (xs : List Assertion) → a.place ≡ t → a.kind ≡ j
        → AllByRecursion (λ b. a.place ≡ b.place → are_compatible a.kind b.kind ≡ true) xs → allowed xs t k ≡ true
    rest [] same kind h = refl
    rest (x ∷ xs) same kind h = ap (λ b. b && allowed xs t k) (one (same_place x.place t) refl) ∙
        rest xs same kind h.1
      where
        one : (b : Bool) → same_place x.place t ≡ b → cond b (are_compatible x.kind k) true ≡ true
        one true g = others x.kind (sym (ap (λ z. are_compatible z x.kind) kind) ∙
            h.0 (same ∙ sym (same_place_is x.place t g)))
        one false g = refl

    go : (b : Bool) → same_place a.place t ≡ b → cond b (Some a.kind) (kind_at made t) ≡ Some j
        → (kind_at made t ≡ Some j → allowed made t k ≡ true)
        → (cond b (are_compatible a.kind k) true && allowed made t k) ≡ true
    go true g h ih =
        let kind : a.kind ≡ j = cc in
        ap (λ b. b && allowed made t k) (ap (λ z. are_compatible z k) kind ∙ left_with_comma) ∙
        rest made (same_place_is a.place t g) kind clash.0
    go false g h ih = ih h
