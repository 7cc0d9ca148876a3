-- The ranges of edits at distinct places, found one by one and then sorted, are in the order of the text.
use Rattle.std.proofs.Common.{◌≡◌, ℕ, ◌<◌, ◌≤◌, Bool, false, ◌==◌, cond, List, [], ◌∷◌, length, Some, refl, sym, ap, ◌∙◌, subst, inl, inr, true≢false, arith}
use Rattle.std.proofs.lemmas.Bool.{eqb-true}
use Rattle.std.proofs.lemmas.Bool.Decides.{nat_tests}
use Rattle.std.proofs.lemmas.List.Sorted.{Contains-permutation, IsPermutation-sym}
use Rattle.std.proofs.lemmas.Map.Keys.{IsDistinct-IsPermutation}
use Rattle.std.specs.List.{AllByRecursion, IsDistinct}
use Rattle.std.specs.List.Sorted.{IsPermutation}
use Rattle.std.specs.Str.{IsUtf8}
use Rattle.edit_syntax.specs.Grammar.{Text, text}
use Rattle.edit_tree.specs.Assertions.{Place, same_place}
use Rattle.edit_tree.specs.Written.{PlacedValue, start_of, end_of}
use Rattle.edit_tree.specs.Literals.{literal_of}
use Rattle.edit_tree.specs.Replaces.{Edits, new_text, replaced, edited, AreDistinct}
use Rattle.edit_document.specs.Splices.{Range, ranges_of, IsRangeFor, AreRanges, Locates}
use Rattle.edit_syntax.proofs.Members.{Among, among_contained, contained_among, among_all, among_map}
use Rattle.edit_tree.proofs.ReplacedStrings.{values_apart}
use Rattle.edit_tree.proofs.SwappedTexts.{apart_none, replaced_swaps}
use Rattle.edit_document.proofs.SplicedTexts.{Rises, swaps_rise}
use Rattle.edit_document.proofs.SortedRanges.{AreFirst, AreRangesFor, Rewrites, ranges_rewrite, edit_among, edits_enclosed}
use Rattle.edit_syntax.proofs.Cases.{by_test}
use Rattle.edit_tree.proofs.SamePlace.{same_place_self}

-- ---- each edit counts at its place

pub first_of_distinct : (edits : Edits) → AreDistinct edits → AreFirst edits
first_of_distinct [] d e m = absurd m
first_of_distinct (x ∷ edits) d e (inl h) =
    subst (λ z. cond (same_place x.0 z.0) (Some x.1) (new_text edits z.0) ≡ Some z.1) (sym h)
    (ap (λ c. cond c (Some x.1) (new_text edits x.0)) (same_place_self x.0))
first_of_distinct (x ∷ edits) d e (inr m) =
    ap (λ c. cond c (Some x.1) (new_text edits e.0))
    (among_all (λ f. same_place x.0 f.0 ≡ false) e edits d.0 m) ∙ first_of_distinct edits d.1 e m

-- ---- ranges one by one

ranges_each : (form : Text) (edits : Edits) (rs : List Range) → AreRanges form edits rs → (r : Range)
    → Among r rs → (e : Place × List ℕ) × Among e edits × IsRangeFor form e r
ranges_each form [] [] h r m = absurd m
ranges_each form [] (q ∷ rs) h r m = absurd h
ranges_each form (e ∷ edits) [] h r m = absurd h
ranges_each form (e ∷ edits) (q ∷ rs) h r (inl same) =
    (e, inl refl, subst (λ z. IsRangeFor form e z) (sym same) h.0)
ranges_each form (e ∷ edits) (q ∷ rs) h r (inr m) = let f = ranges_each form edits rs h.1 r m in
    (f.0, inr f.1, f.2)

ranges_all : (form : Text) (edits : Edits) (rs : List Range) → AreRanges form edits rs → (e : Place × List ℕ)
    → Among e edits → (r : Range) × Among r rs × IsRangeFor form e r
ranges_all form [] [] h e m = absurd m
ranges_all form [] (q ∷ rs) h e m = absurd m
ranges_all form (x ∷ edits) [] h e m = absurd h
ranges_all form (x ∷ edits) (q ∷ rs) h e (inl same) =
    (q, inl refl, subst (λ z. IsRangeFor form z q) (sym same) h.0)
ranges_all form (x ∷ edits) (q ∷ rs) h e (inr m) = let f = ranges_all form edits rs h.1 e m in
    (f.0, inr f.1, f.2)

moved : (rs qs : List Range) (r : Range) → IsPermutation rs qs → Among r rs → Among r qs
moved rs qs r p m = contained_among r qs (Contains-permutation rs qs r p (among_contained r rs m))

ranges_moved : (form : Text) (edits : Edits) (rs qs : List Range) → AreRanges form edits rs
    → IsPermutation rs qs → AreRangesFor form edits qs
ranges_moved form edits rs qs h p = record {
  each = λ r m. ranges_each form edits rs h r (moved qs rs r (IsPermutation-sym rs qs p) m);
  all = λ e m. let f = ranges_all form edits rs h e m in (f.0, moved rs qs f.0 p f.1, f.2);
}

-- ---- no two ranges begin at one position

above : (total : ℕ) (x c : PlacedValue × List ℕ) (cs : List (PlacedValue × List ℕ))
    → AllByRecursion (λ q. start_of total x.0 < q.0) (ranges_of total cs) → Among c cs
    → start_of total x.0 < start_of total c.0
above total x c cs all m = among_all (λ (q : Range). start_of total x.0 < q.0)
    (start_of total c.0, end_of total c.0, c.1) (ranges_of total cs) all
    (among_map (λ (e : PlacedValue × List ℕ). (start_of total e.0, end_of total e.0, e.1)) c cs m)

same_start : (total : ℕ) (cs : List (PlacedValue × List ℕ)) (c d : PlacedValue × List ℕ)
    → Rises (ranges_of total cs)
    → Among c cs → Among d cs → start_of total c.0 ≡ start_of total d.0 → c ≡ d
same_start total [] c d up m n e = absurd m
same_start total (x ∷ cs) c d up (inl p) (inl q) e = p ∙ sym q
same_start total (x ∷ cs) c d up (inl p) (inr n) e =
    let less = above total x d cs up.0 n in
    let same = ap (λ (z : PlacedValue × List ℕ). start_of total z.0) p in absurd (omega arith)
same_start total (x ∷ cs) c d up (inr m) (inl q) e =
    let less = above total x c cs up.0 m in
    let same = ap (λ (z : PlacedValue × List ℕ). start_of total z.0) q in absurd (omega arith)
same_start total (x ∷ cs) c d up (inr m) (inr n) e = same_start total cs c d up.1 m n e

abbrev begins_with : Range → Range → Bool
begins_with r q = r.0 == q.0

starts_differ : (form : Text) (all : Edits) (e f : Place × List ℕ) (r q : Range) → AreFirst all
    → Rises (ranges_of (length (text form)) (edited all form)) → Among e all → Among f all
    → IsRangeFor form e r → IsRangeFor form f q → same_place e.0 f.0 ≡ false → begins_with r q ≡ false
starts_differ form all e f r q first up m n is other apart =
    by_test (begins_with r q)
    (λ h. let eq : r.0 ≡ q.0 = eqb-true r.0 q.0 h in
    let same = same_start (length (text form)) (edited all form) (is.0.placed_value, e.1) (other.0.placed_value, f.1) up
    (edit_among form all e r first m is) (edit_among form all f q first n other)
    (sym is.0.starts ∙ eq ∙ other.0.starts) in
    let place : e.0 ≡ f.0 = sym is.0.there ∙ ap (λ (z : PlacedValue × List ℕ). z.0.place) same ∙ other.0.there in
    absurd (true≢false (sym (same_place_self e.0) ∙ ap (λ p. same_place e.0 p) place ∙ apart)))
    (λ h. h)

starts_apart : (form : Text) (all : Edits) (e : Place × List ℕ) (r : Range) (edits : Edits) (rs : List Range)
    → AreFirst all → Rises (ranges_of (length (text form)) (edited all form)) → Among e all
    → IsRangeFor form e r
    → ((f : Place × List ℕ) → Among f edits → Among f all)
    → AllByRecursion (λ f. same_place e.0 f.0 ≡ false) edits → AreRanges form edits rs
    → AllByRecursion (λ q. begins_with r q ≡ false) rs
starts_apart form all e r [] [] first up m is within apart h = tt
starts_apart form all e r [] (q ∷ rs) first up m is within apart h = absurd h
starts_apart form all e r (f ∷ edits) [] first up m is within apart h = absurd h
starts_apart form all e r (f ∷ edits) (q ∷ rs) first up m is within apart h = (
  starts_differ form all e f r q first up m (within f (inl refl)) is h.0 apart.0,
  starts_apart form all e r edits rs first up m is (λ g n. within g (inr n)) apart.1 h.1,
)

ranges_distinct : (form : Text) (all edits : Edits) (rs : List Range) → AreFirst all
    → Rises (ranges_of (length (text form)) (edited all form))
    → ((f : Place × List ℕ) → Among f edits → Among f all)
    → AreDistinct edits → AreRanges form edits rs → IsDistinct begins_with rs
unfolding IsDistinct
ranges_distinct form all [] [] first up within d h = tt
ranges_distinct form all [] (r ∷ rs) first up within d h = absurd h
ranges_distinct form all (e ∷ edits) [] first up within d h = absurd h
ranges_distinct form all (e ∷ edits) (r ∷ rs) first up within d h = (
  starts_apart form all e r edits rs first up (within e (inl refl)) h.0 (λ g n. within g (inr n)) d.0 h.1,
  ranges_distinct form all edits rs first up (λ g n. within g (inr n)) d.1 h.1,
)

-- ---- sorted

-- none begins before the one before it
abbrev pub Ascends : List Range → Type 0
Ascends [] = Unit {0}
Ascends (r ∷ more) = AllByRecursion (λ q. r.0 ≤ q.0) more × Ascends more

strict_head : (r : Range) (rs : List Range) → AllByRecursion (λ q. r.0 ≤ q.0) rs
    → AllByRecursion (λ q. begins_with r q ≡ false) rs → AllByRecursion (λ q. r.0 < q.0) rs
strict_head r [] h g = tt
strict_head r (q ∷ rs) h g = (less r.0 q.0 h.0 g.0, strict_head r rs h.1 g.1)
  where
    less : (m n : ℕ) → m ≤ n → (m == n) ≡ false → m < n
    less m n le apart = grind (arith, nat_tests)

strict : (rs : List Range) → Ascends rs → IsDistinct begins_with rs → Rises rs
unfolding IsDistinct
strict [] up d = tt
strict (r ∷ rs) up d = (strict_head r rs up.0 d.0, strict rs up.1 d.1)

pub located_rewrite : (whole : List ℕ) (form : Text) (edits : Edits) (rs qs : List Range)
    → Locates whole form edits rs → IsUtf8 whole → IsPermutation rs qs → Ascends qs
    → Rewrites whole qs (text (replaced edits form))
located_rewrite whole form edits rs qs h utf8 p up =
    let spelled = h.document.grammar.spelled in
    let fine = h.document.grammar.well_formed in
    let free = apart_none edits form (values_apart edits form h.document.no_clash h.values h.outside) in
    let first = first_of_distinct edits h.distinct in
    let rises = swaps_rise (text form) (text (replaced edits form)) (edited edits form)
    (replaced_swaps literal_of edits form free) (edits_enclosed form edits fine) in
    let distinct = IsDistinct-IsPermutation begins_with flips rs qs p
    (ranges_distinct form edits edits rs first rises (λ f m. m) h.distinct h.found) in
    subst (λ (l : List ℕ). Rewrites l qs (text (replaced edits form))) (sym spelled)
    (ranges_rewrite form edits qs h.document.no_clash fine free first
    (ranges_moved form edits rs qs h.found p) (strict qs up distinct) (subst IsUtf8 spelled utf8))
  where
    flips : (r q : Range) → begins_with r q ≡ begins_with q r
    flips r q = grind (arith, nat_tests)
