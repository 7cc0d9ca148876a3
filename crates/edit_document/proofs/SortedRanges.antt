-- The ranges of edited values, once sorted, are those of the values in the order of the text.
use Rattle.std.proofs.Common.{◌≡◌, ℕ, ◌<◌, ◌≤◌, cond, List, [], ◌∷◌, length, Option, None, Some, option_map, refl, sym, ap, ap₂, ◌∙◌, subst, inl, inr, ⊎_elim, arith}
use Rattle.std.specs.Str.{IsUtf8}
use Rattle.std.specs.List.{AllByRecursion, filter_map, cons_option}
use Rattle.edit_syntax.specs.Grammar.{value, Text, text, IsValue, AreLines}
use Rattle.edit_tree.specs.Assertions.{Place, same_place, assertions, AreCompatible}
use Rattle.edit_tree.specs.Written.{PlacedValue, values, start_of, end_of}
use Rattle.edit_tree.specs.Literals.{literal_of}
use Rattle.edit_tree.specs.Replaces.{Edits, new_text, replaced, edited}
use Rattle.edit_document.specs.Splices.{Range, spliced, AreInOrder, ranges_of, IsRangeFor}
use Rattle.edit_syntax.proofs.Members.{Among, contained_among, among_all, among_map, map_among, among_filter, filter_among}
use Rattle.edit_syntax.proofs.ValueEdges.{IsEnclosed, value_enclosed}
use Rattle.edit_tree.proofs.FineValues.{values_fine}
use Rattle.edit_tree.proofs.UniqueValues.{values_unique}
use Rattle.edit_tree.proofs.SwappedTexts.{NoneBelow, replaced_swaps, edit_of}
use Rattle.edit_document.proofs.SplicedTexts.{AreEnclosed, Rises, swaps_spliced, swaps_in_order, swaps_rise}
use Rattle.edit_syntax.proofs.Cases.{by_test}
use Rattle.edit_tree.proofs.SamePlace.{same_place_is}

-- ---- two lists that rise and have the same members

head_least : (r q : Range) (rs : List Range) → AllByRecursion (λ z. r.0 < z.0) rs → Among q (r ∷ rs)
    → r.0 ≤ q.0
head_least r q rs all (inl e) = let same = ap (λ (z : Range). z.0) e in omega arith
head_least r q rs all (inr m) = let less = among_all (λ (z : Range). r.0 < z.0) q rs all m in omega arith

head_only : (r q : Range) (rs : List Range) → AllByRecursion (λ z. r.0 < z.0) rs → Among q (r ∷ rs)
    → q.0 ≤ r.0 → q ≡ r
head_only r q rs all (inl e) le = e
head_only r q rs all (inr m) le = let less = among_all (λ (z : Range). r.0 < z.0) q rs all m in
    absurd (omega arith)

abbrev Covers : List Range → List Range → Type 0
Covers xs ys = (r : Range) → Among r xs → Among r ys

tail_covers : (x : Range) (xs ys : List Range) → AllByRecursion (λ z. x.0 < z.0) xs → Covers (x ∷ xs) (x ∷ ys)
    → Covers xs ys
tail_covers x xs ys all covers r m =
    ⊎_elim (λ e. let less = among_all (λ (z : Range). x.0 < z.0) r xs all m in
    let same = ap (λ (z : Range). z.0) e in absurd (omega arith)) (λ n. n) (covers r (inr m))

pub rising_same : (xs ys : List Range) → Rises xs → Rises ys → Covers xs ys → Covers ys xs → xs ≡ ys
rising_same [] [] up high to from = refl
rising_same [] (y ∷ ys) up high to from = absurd (from y (inl refl))
rising_same (x ∷ xs) [] up high to from = absurd (to x (inl refl))
rising_same (x ∷ xs) (y ∷ ys) up high to from =
    let low = head_least y x ys high.0 (to x (inl refl)) in
    let same : y ≡ x = head_only x y xs up.0 (from y (inl refl)) low in
    let to_same = subst (λ (z : Range). Covers (x ∷ xs) (z ∷ ys)) same to in
    let from_same = subst (λ (z : Range). Covers (z ∷ ys) (x ∷ xs)) same from in
    let above = subst (λ (z : Range). AllByRecursion (λ q. z.0 < q.0) ys) same high.0 in
    ap₂ (λ (z : Range) (zs : List Range). z ∷ zs) (sym same)
    (rising_same xs ys up.1 high.1 (tail_covers x xs ys up.0 to_same) (tail_covers x ys xs above from_same))

-- ---- the ranges of edits

-- each range is that of an edit, and each edit has its range
pub record AreRangesFor (form : Text) (edits : Edits) (ranges : List Range) : Type 0 where
  pub each : (r : Range) → Among r ranges → (e : Place × List ℕ) × Among e edits × IsRangeFor form e r
  pub all : (e : Place × List ℕ) → Among e edits → (r : Range) × Among r ranges × IsRangeFor form e r

-- each edit is the one that counts at its place
abbrev pub AreFirst : Edits → Type 0
AreFirst edits = (e : Place × List ℕ) → Among e edits → new_text edits e.0 ≡ Some e.1

abbrev edit_range : ℕ → PlacedValue × List ℕ → Range
edit_range total c = (start_of total c.0, end_of total c.0, c.1)

same_range : (r q : Range) → r.0 ≡ q.0 → r.1 ≡ q.1 → r.2 ≡ q.2 → r ≡ q
same_range r q e f g = λ i. (e i, f i, g i)

-- an edit's value is among the edited ones
pub edit_among : (form : Text) (edits : Edits) (e : Place × List ℕ) (r : Range) → AreFirst edits
    → Among e edits → (is : IsRangeFor form e r) → Among (is.0.placed_value, e.1) (edited edits form)
edit_among form edits e r first m is =
    let w = is.0.placed_value in
    among_filter (edit_of edits) w (w, e.1) (values form) (contained_among w (values form) is.0.listed)
    (ap (λ (o : Option (List ℕ)). option_map (λ (said : List ℕ). (w, said)) o)
    (ap (λ (p : Place). new_text edits p) is.0.there ∙ first e m))

range_edited : (form : Text) (edits : Edits) (e : Place × List ℕ) (r : Range) → AreFirst edits → Among e edits
    → IsRangeFor form e r → Among r (ranges_of (length (text form)) (edited edits form))
range_edited form edits e r first m is =
    let total = length (text form) in
    let c : PlacedValue × List ℕ = (is.0.placed_value, e.1) in
    subst (λ (q : Range). Among q (ranges_of total (edited edits form)))
    (sym (same_range r (edit_range total c) is.0.starts is.0.ends is.1))
    (among_map (edit_range total) c (edited edits form) (edit_among form edits e r first m is))

-- the edit that a new text comes from
text_from : (edits : Edits) (p : Place) (said : List ℕ) → new_text edits p ≡ Some said → (e : Place × List ℕ)
    × Among e edits × (e.0 ≡ p) × (e.1 ≡ said)
text_from [] p said h = absurd cc
text_from (e ∷ edits) p said h =
    by_test (same_place e.0 p)
    (λ t. let is : Some e.1 ≡ Some said = sym (ap (λ c. cond c (Some e.1) (new_text edits p)) t) ∙ h in
    let same : e.1 ≡ said = cc in (e, inl refl, same_place_is e.0 p t, same))
    (λ t. let r = text_from edits p said (sym (ap (λ c. cond c (Some e.1) (new_text edits p)) t) ∙ h) in
    (r.0, inr r.1, r.2, r.3))

edited_from : (w : PlacedValue) (o : Option (List ℕ)) (c : PlacedValue × List ℕ)
    → option_map (λ (said : List ℕ). (w, said)) o ≡ Some c → (w ≡ c.0) × (o ≡ Some c.1)
edited_from w None c e = absurd cc
edited_from w (Some said) c e =
    let both : Some (w, said) ≡ Some c = e in
    let is = some_same (w, said) c both in
    (ap (λ (z : PlacedValue × List ℕ). z.0) is, ap (λ (z : PlacedValue × List ℕ). Some z.1) is)
  where
    some_same : (a b : PlacedValue × List ℕ) → Some a ≡ Some b → a ≡ b
    some_same a b h = cc

edited_range : (form : Text) (edits : Edits) (ranges : List Range) → AreCompatible (assertions form)
    → AreRangesFor form edits ranges → Covers (ranges_of (length (text form)) (edited edits form)) ranges
edited_range form edits ranges clash are r m =
    let total = length (text form) in
    let c = map_among (edit_range total) r (edited edits form) m in
    let w = filter_among (edit_of edits) c.0 (values form) c.1 in
    let f = edited_from w.0 (new_text edits w.0.place) c.0 w.2 in
    let e = text_from edits w.0.place c.0.1 f.1 in
    let q = are.all e.0 e.1 in
    let u = q.2.0.placed_value in
    let same : u ≡ c.0.0 = values_unique form u w.0 clash (contained_among u (values form) q.2.0.listed) w.1
    (q.2.0.there ∙ e.2) ∙ f.0 in
    subst (λ (z : Range). Among z ranges)
    (same_range q.0 (edit_range total c.0) (q.2.0.starts ∙ ap (λ (z : PlacedValue). start_of total z) same)
    (q.2.0.ends ∙ ap (λ (z : PlacedValue). end_of total z) same) (q.2.1 ∙ e.3) ∙ sym c.2)
    q.1

-- ---- the edited values are enclosed

all_filter : {X Y : Type 0} (P : X → Type 0) (Q : Y → Type 0) (f : X → Option Y) (xs : List X)
    → ((x : X) (y : Y) → f x ≡ Some y → P x → Q y) → AllByRecursion P xs → AllByRecursion Q (filter_map f xs)
all_filter P Q f [] step all = tt
all_filter {Y = Y} P Q f (x ∷ xs) step all = go (f x) refl (all_filter P Q f xs step all.1)
  where
    go : (o : Option Y) → f x ≡ o → AllByRecursion Q (filter_map f xs)
        → AllByRecursion Q (cons_option o (filter_map f xs))
    go None e more = more
    go (Some y) e more = (step x y e all.0, more)

pub edits_enclosed : (form : Text) (edits : Edits) → AreLines form.lines → AreEnclosed (edited edits form)
edits_enclosed form edits fine =
    all_filter (λ w. IsValue w.value) (λ c. IsEnclosed (value c.0.value [])) (edit_of edits) (values form)
    (λ w c e h. let f = edited_from w (new_text edits w.place) c e in
    subst (λ (z : PlacedValue). IsEnclosed (value z.value [])) f.0 (value_enclosed w.value h))
    (values_fine [] [] form.lines fine)

-- ---- the theorem

pub ranges_are : (form : Text) (edits : Edits) (ranges : List Range) → AreCompatible (assertions form)
    → AreLines form.lines → NoneBelow edits → AreFirst edits → AreRangesFor form edits ranges → Rises ranges
    → ranges ≡ ranges_of (length (text form)) (edited edits form)
ranges_are form edits ranges clash fine free first are up =
    rising_same ranges (ranges_of (length (text form)) (edited edits form)) up
    (swaps_rise (text form) (text (replaced edits form)) (edited edits form)
    (replaced_swaps literal_of edits form free) (edits_enclosed form edits fine))
    (λ r m. let e = are.each r m in range_edited form edits e.0 r first e.1 e.2)
    (edited_range form edits ranges clash are)

-- the ranges may be cut out, and the text with the literals in their place is the replaced one
pub record Rewrites (whole : List ℕ) (ranges : List Range) (new : List ℕ) : Type 0 where
  pub order : AreInOrder whole 0 ranges
  pub bytes : spliced whole 0 ranges ≡ new

pub ranges_rewrite : (form : Text) (edits : Edits) (ranges : List Range) → AreCompatible (assertions form)
    → AreLines form.lines → NoneBelow edits → AreFirst edits → AreRangesFor form edits ranges → Rises ranges
    → IsUtf8 (text form) → Rewrites (text form) ranges (text (replaced edits form))
ranges_rewrite form edits ranges clash fine free first are up utf8 =
    let swaps = replaced_swaps literal_of edits form free in
    let fences = edits_enclosed form edits fine in
    let cuts = edited edits form in
    subst (λ (l : List Range). Rewrites (text form) l (text (replaced edits form)))
    (sym (ranges_are form edits ranges clash fine free first are up))
    (record {
      order = swaps_in_order (text form) [] (text form)
          (text (replaced edits form)) cuts swaps utf8 refl fences;
      bytes = swaps_spliced (text form) [] (text form) (text (replaced edits form)) cuts swaps refl;
    })
