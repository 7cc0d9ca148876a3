-- The counts of elements on the path to a place, after one more statement.
use Rattle.std.proofs.Common.{◌≡◌, ℕ, zero, suc, ◌+◌, ◌≤◌, ◌<◌, Bool, true, false, cond, List, [], ◌∷◌, ◌++◌, length, take, refl, sym, ap, ◌∙◌, append_assoc, inl, inr, arith}
use Rattle.std.specs.Prelude.{slice_index, slice_set}
use Rattle.std.proofs.lemmas.List.{append-nil, get_or-set_same, get_or-set_other, length-take-le}
use Rattle.std.proofs.lemmas.Bool.Decides.{eqb_tells}
use Rattle.edit_syntax.specs.Strings.{Key}
use Rattle.edit_syntax.specs.Grammar.{Value, pair, header, element_header}
use Rattle.edit_rewrite.specs.declared.path_matching.PathMatch.{PathMatch}
use Rattle.edit_rewrite.specs.declared.path_matching.PathMatch.TheVariants.{On, Below, Off}
use Rattle.edit_tree.specs.Assertions.{index, Place, at, header_kind, array_kind, element_kind, Assertion, asserts, names, named, of_key, of_value, is_array_at, elements_at, fronts, header_place, of_statement}
use Rattle.edit_rewrite.specs.Entries.{path_match_on, path_match, counted, Counts}
use Rattle.edit_tree.proofs.SamePlace.{same_step_self, same_place_self, other_place}
use Rattle.edit_tree.proofs.ArrayCounts.{ArePlain, plain_both, plain_key, plain_value, plain_fronts, plain_array, arrays_more, arrays_stay}
use Rattle.edit_rewrite.proofs.Ways.{on_front}

-- ---- assertions more

plain_counts : (made more : List Assertion) (p : Place) → ArePlain more
    → elements_at (made ++ more) p ≡ elements_at made p
plain_counts made [] p h = ap (λ (xs : List Assertion). elements_at xs p) (append-nil made)
plain_counts made (a ∷ more) p h =
    ap (λ (xs : List Assertion). elements_at xs p) (sym (append_assoc made (a ∷ []) more)) ∙
    plain_counts (made ++ a ∷ []) more p h.1 ∙ arrays_stay made a p (plain_array a.kind h.0)

-- a pair and a header count no element
pub pair_counts : (earlier : List Assertion) (prefix : Place) (k : Key) (a b : List ℕ) (v : Value) (p : Place)
    → elements_at (earlier ++ of_statement earlier prefix (pair k a b v)) p ≡ elements_at earlier p
pair_counts earlier prefix k a b v p =
    let q = named prefix (names k) in
    plain_counts earlier (of_key false q prefix (names k) v ++ of_value q v) p
    (plain_both (of_key false q prefix (names k) v) (of_value q v) (plain_key false q prefix (names k) v)
    (plain_value q v))

pub header_counts : (earlier : List Assertion) (prefix : Place) (k : Key) (a b : List ℕ) (p : Place)
    → elements_at (earlier ++ of_statement earlier prefix (header a k b)) p ≡ elements_at earlier p
header_counts earlier prefix k a b p =
    let q = header_place earlier [] (names k) in
    plain_counts earlier (fronts earlier q [] (names k) ++ asserts q q header_kind ∷ []) p
    (plain_both (fronts earlier q [] (names k)) (asserts q q header_kind ∷ [])
    (plain_fronts earlier q [] (names k)) (refl, tt))

-- the header of an element counts one at its array
abbrev array_of : List Assertion → Key → Place
array_of earlier k = header_place earlier [] (names k)

element_counts : (earlier : List Assertion) (prefix : Place) (k : Key) (a b : List ℕ) (p : Place) (t : Bool)
    → is_array_at p (asserts (at (array_of earlier k) (index (elements_at earlier (array_of earlier k))))
    (array_of earlier k) array_kind) ≡ t
    → elements_at (earlier ++ of_statement earlier prefix (element_header a k b)) p
    ≡ cond t (suc (elements_at earlier p)) (elements_at earlier p)
element_counts earlier prefix k a b p t e =
    let q = array_of earlier k in
    let by = at q (index (elements_at earlier q)) in
    let supers = fronts earlier by [] (names k) in
    let one : Assertion = asserts by q array_kind in
    let two : Assertion = asserts by by element_kind in
    ap (λ (xs : List Assertion). elements_at xs p)
    (sym (append_assoc (earlier ++ supers) (one ∷ []) (two ∷ []) ∙
    append_assoc earlier supers (one ∷ two ∷ [])))
    ∙ arrays_stay ((earlier ++ supers) ++ one ∷ []) two p refl ∙ arrays_more (earlier ++ supers) one p t e
    ∙ ap (λ (n : ℕ). cond t (suc n) n) (plain_counts earlier supers p (plain_fronts earlier by [] (names k)))

pub here_counts : (earlier : List Assertion) (prefix : Place) (k : Key) (a b : List ℕ)
    → elements_at (earlier ++ of_statement earlier prefix (element_header a k b)) (array_of earlier k)
    ≡ suc (elements_at earlier (array_of earlier k))
here_counts earlier prefix k a b = element_counts earlier prefix k a b (array_of earlier k) true
    (same_place_self (array_of earlier k))

pub else_counts : (earlier : List Assertion) (prefix : Place) (k : Key) (a b : List ℕ) (p : Place)
    → (array_of earlier k ≡ p → ⊥)
    → elements_at (earlier ++ of_statement earlier prefix (element_header a k b)) p ≡ elements_at earlier p
else_counts earlier prefix k a b p ne = element_counts earlier prefix k a b p false
    (other_place (array_of earlier k) p ne)

-- ---- counts on the way

pub same_counts : (target : Place) (earlier more : List Assertion) (counts : List ℕ)
    → ((p : Place) → elements_at more p ≡ elements_at earlier p) → Counts target earlier counts
    → Counts target more counts
same_counts target earlier more counts e h d le = h d le ∙ sym (e (take d target))

-- the front of so many steps is on the way
way_take : (d done : ℕ) (target : Place) → done ≤ length target
    → path_match_on d target (take done target) ≡ On (d + done)
way_take d done [] le = let k : d + done ≡ d = omega arith in let none : done ≡ 0 = omega arith in
    ap (λ (n : ℕ). path_match_on d [] (take n [])) none ∙ ap On (sym k)
way_take d zero (s ∷ ss) le = let k : d ≡ d + 0 = omega arith in ap On k
way_take d (suc done) (s ∷ ss) le =
    ap (λ b. cond b (path_match_on (d + 1) ss (take done ss)) Off) (same_step_self s) ∙
    way_take (d + 1) done ss (omega arith) ∙ (let k : (d + 1) + done ≡ d + suc done = omega arith in ap On k)

not_on : (target p : Place) (d : ℕ) (w : PathMatch) → d ≤ length target → path_match target p ≡ w
    → (On d ≡ w → ⊥)
    → p ≡ take d target → ⊥
not_on target p d w le e ne same = let k : 0 + d ≡ d = omega arith in
    ne (sym (ap On k) ∙ sym (way_take 0 d target le) ∙ ap (path_match target) (sym same) ∙ e)

pub more_counts : (target : Place) (earlier : List Assertion) (prefix : Place) (k : Key) (a b : List ℕ)
    (counts : List ℕ) (w : PathMatch) → w ≡ path_match target (array_of earlier k) → length counts ≡ suc (length target)
    → Counts target earlier counts
    → Counts target (earlier ++ of_statement earlier prefix (element_header a k b)) (counted w counts)
more_counts target earlier prefix k a b counts (On e) is size h d le =
    let f = on_front target (array_of earlier k) e (sym is) in
    elim (eqb_tells d e) [
      | inl same ↦ here same.1 f.0 f.1
      | inr other ↦ there other.1 f.0 f.1
    ]
  where
    here : d ≡ e → array_of earlier k ≡ take e target → e ≤ length target
        → slice_index (slice_set counts e (slice_index counts e + 1)) d
        ≡ elements_at (earlier ++ of_statement earlier prefix (element_header a k b)) (take d target)
    here same front within =
        let fits : e < length counts = omega arith in
        let up : slice_index counts e + 1 ≡ suc (slice_index counts e) = omega arith in
        ap (slice_index (slice_set counts e (slice_index counts e + 1))) same ∙
        get_or-set_same counts e (slice_index counts e + 1) 0 fits ∙ up
        ∙ ap suc (h e within ∙ ap (elements_at earlier) (sym front)) ∙ sym (here_counts earlier prefix k a b)
        ∙ ap (elements_at (earlier ++ of_statement earlier prefix (element_header a k b)))
        (front ∙ ap (λ (n : ℕ). take n target) (sym same))

    there : (d ≡ e → ⊥) → array_of earlier k ≡ take e target → e ≤ length target
        → slice_index (slice_set counts e (slice_index counts e + 1)) d
        ≡ elements_at (earlier ++ of_statement earlier prefix (element_header a k b)) (take d target)
    there ne front within =
        get_or-set_other counts e d (slice_index counts e + 1) 0 ne ∙ h d le
        ∙ sym (else_counts earlier prefix k a b (take d target)
        (λ same. ne (sym (length-take-le d target le) ∙ ap length (sym same ∙ front) ∙
        length-take-le e target within)))
more_counts target earlier prefix k a b counts Below is size h d le =
    h d le ∙ sym (else_counts earlier prefix k a b (take d target)
    (not_on target (array_of earlier k) d Below le (sym is) (λ e. cc)))
more_counts target earlier prefix k a b counts Off is size h d le =
    h d le ∙ sym (else_counts earlier prefix k a b (take d target)
    (not_on target (array_of earlier k) d Off le (sym is) (λ e. cc)))
