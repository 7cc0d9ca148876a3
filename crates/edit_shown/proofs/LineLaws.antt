-- The unchanged and removed lines of a diff are the old text, the unchanged and added lines the new one.
use Rattle.std.proofs.Common.{◌≡◌, ℕ, ◌+◌, ◌≤◌, zero, suc, max, List, [], ◌∷◌, ◌++◌, Bool, true, false, cond, Option, Some, None, length, take, refl, ap, sym, ◌∙◌, ⊎_elim, arith}
use Rattle.std.specs.Prelude.{◌==◌, slice_get}
use Rattle.std.specs.List.{concat, flat_map, range_with_len}
use Rattle.std.specs.Option.{option_to_list}
use Rattle.std.specs.Str.{bytes_eq}
use Rattle.std.proofs.lemmas.Bool.{cases_Bool, cond-false, cond-true}
use Rattle.std.proofs.lemmas.List.{map-append}
use Rattle.std.proofs.lemmas.List.Elements.{filter-append}
use Rattle.std.proofs.lemmas.Slice.Eq.{bytes_eq-Decides}
use Rattle.edit_shown.proofs.LineKindLemmas.{pieces_more}
use Rattle.edit_shown.specs.Lines.{lines_of, onto}
use Rattle.edit_shown.specs.LineKinds.{DiffLine, lines_in, lines_with, compare_lines, compare_lines_at}
use Rattle.edit_shown.specs.ShownLines.{is_new, is_old}
use Rattle.edit_shown.specs.declared.diff.line_diff.LineKind.{LineKind}
use Rattle.edit_shown.specs.declared.diff.line_diff.LineKind.TheVariants.{Context, Removed, Added}

-- a byte before lines, joined
joined_onto : (b : ℕ) (lines : List (List ℕ)) → concat (onto b lines) ≡ b ∷ concat lines
joined_onto b [] = refl
joined_onto b (line ∷ lines) = refl

-- the lines of a text, joined, are the text
pub joined : (text : List ℕ) → concat (lines_of text) ≡ text
joined [] = refl
joined (b ∷ text) = ⊎_elim
    (λ is. ap concat (cond-true _ _ _ is) ∙ ap (λ t. b ∷ t) (joined text))
    (λ is. ap concat (cond-false _ _ _ is) ∙ joined_onto b (lines_of text) ∙ ap (λ t. b ∷ t) (joined text))
    (cases_Bool (b == 10))

-- one element more of the front of a list
front_more : {A : Type 0} (xs : List A) (k : ℕ)
    → take (suc k) xs ≡ take k xs ++ option_to_list (slice_get xs k)
front_more [] zero = refl
front_more [] (suc k) = refl
front_more (x ∷ xs) zero = refl
front_more (x ∷ xs) (suc k) = ap (λ t. x ∷ t) (front_more xs k)

-- a front that is as long as its list
whole_front : {A : Type 0} (xs : List A) (n : ℕ) → length xs ≤ n → take n xs ≡ xs
whole_front [] zero le = refl
whole_front [] (suc n) le = refl
whole_front (x ∷ xs) zero le = absurd (omega arith)
whole_front (x ∷ xs) (suc n) le = ap (λ t. x ∷ t) (whole_front xs n (omega arith))

-- the lines of a kind in two lists are those in one and those in the other
with_append : (is : LineKind → Bool) (xs ys : List DiffLine)
    → lines_with is (xs ++ ys) ≡ lines_with is xs ++ lines_with is ys
with_append is xs ys = ap lines_in (filter-append (λ line. is line.0) xs ys)
    ∙ map-append (λ (line : DiffLine). line.1) _ _

-- the old line at a number
old_both : (b : Bool) (old new : List ℕ)
    → lines_with is_old (cond b ((Context, old) ∷ []) ((Removed, old) ∷ (Added, new) ∷ [])) ≡ old ∷ []
old_both true old new = refl
old_both false old new = refl

old_at : (old new : Option (List ℕ)) → lines_with is_old (compare_lines_at old new) ≡ option_to_list old
old_at None None = refl
old_at None (Some new) = refl
old_at (Some old) None = refl
old_at (Some old) (Some new) = old_both (bytes_eq old new) old new

-- the new line at a number
new_both : (b : Bool) (old new : List ℕ) → (b ≡ true → old ≡ new)
    → lines_with is_new (cond b ((Context, old) ∷ []) ((Removed, old) ∷ (Added, new) ∷ [])) ≡ new ∷ []
new_both true old new same = ap (λ l. l ∷ []) (same refl)
new_both false old new same = refl

new_at : (old new : Option (List ℕ)) → lines_with is_new (compare_lines_at old new) ≡ option_to_list new
new_at None None = refl
new_at None (Some new) = refl
new_at (Some old) None = refl
new_at (Some old) (Some new) = new_both (bytes_eq old new) old new (λ e. (bytes_eq-Decides old new).0 e)

-- the lines of a kind at the first numbers, where those at each number are those of a list
fronts : (is : LineKind → Bool) (at : ℕ → List DiffLine) (xs : List (List ℕ))
    → ((k : ℕ) → lines_with is (at k) ≡ option_to_list (slice_get xs k)) → (n : ℕ)
    → lines_with is (flat_map at (range_with_len 0 n)) ≡ take n xs
fronts is at xs each zero = refl
fronts is at xs each (suc n) =
    let on : suc n ≡ n + 1 = omega arith in
    ap (λ m. lines_with is (flat_map at (range_with_len 0 m))) on
    ∙ ap (lines_with is) (pieces_more at n)
    ∙ with_append is (flat_map at (range_with_len 0 n)) (at n)
    ∙ ap (λ t. t ++ lines_with is (at n)) (fronts is at xs each n)
    ∙ ap (λ t. take n xs ++ t) (each n)
    ∙ sym (front_more xs n)

-- the lines of two lists by their numbers
abbrev numbered_lines : List (List ℕ) → List (List ℕ) → ℕ → List DiffLine
numbered_lines olds news i = compare_lines_at (slice_get olds i) (slice_get news i)

-- the lines that are unchanged or removed
pub keeps_old : (olds news : List (List ℕ)) → lines_with is_old (compare_lines olds news) ≡ olds
keeps_old olds news =
    fronts is_old (numbered_lines olds news) olds (λ k. old_at (slice_get olds k) (slice_get news k))
    (max (length olds) (length news))
    ∙ whole_front olds _ (omega arith)

-- the lines that are unchanged or added
pub keeps_new : (olds news : List (List ℕ)) → lines_with is_new (compare_lines olds news) ≡ news
keeps_new olds news =
    fronts is_new (numbered_lines olds news) news (λ k. new_at (slice_get olds k) (slice_get news k))
    (max (length olds) (length news))
    ∙ whole_front news _ (omega arith)
