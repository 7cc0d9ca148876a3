-- Lists that are built index by index.
use Rattle.std.proofs.Common.{◌≡◌, ℕ, ◌+◌, ◌<◌, ◌≤◌, suc, Bool, List, [], ◌∷◌, ◌++◌, map, true, false, cond, length, take, drop, get_or, refl, ap, sym, ◌∙◌, ⊎_elim, add-zero, arith}
use Rattle.std.specs.List.{count_by, flat_map, range_with_len}
use Rattle.std.proofs.Math.ListN.{drop_of_length-le}
use Rattle.std.proofs.lemmas.Bool.{cases_Bool}
use Rattle.std.proofs.lemmas.Grind.{flat_map-append}
use Rattle.std.proofs.lemmas.List.{append-nil, drop_more, map-append}
use Rattle.std.proofs.lemmas.List.FromFn.{get_or-map-range_with_len, length-map-range_with_len, map-range_with_len_more}
use Rattle.std.proofs.lemmas.List.Sums.{count_by_more_no, count_by_more_yes}
use Rattle.edit_shown.specs.Hunks.{AreCounted}
use Rattle.edit_shown.specs.ShownLines.{is_new, is_old, is_shown, leading, shown_lines}
use Rattle.edit_shown.specs.declared.diff.line_diff.LineKind.{LineKind}

id-map : (xs : List ℕ) → map (λ x. x) xs ≡ xs
id-map [] = refl
id-map (x ∷ xs) = ap (λ l. x ∷ l) (id-map xs)

-- one number more
numbers_more : (n : ℕ) → range_with_len 0 (n + 1) ≡ range_with_len 0 n ++ n ∷ []
numbers_more n = sym (id-map _) ∙ map-range_with_len_more (λ x. x) 0 n n (omega arith)
    ∙ ap (λ l. l ++ n ∷ []) (id-map _)

-- the pieces of one number more
pub pieces_more : {A : Type 0} (f : ℕ → List A) (n : ℕ)
    → flat_map f (range_with_len 0 (n + 1)) ≡ flat_map f (range_with_len 0 n) ++ f n
pieces_more f n = ap (flat_map f) (numbers_more n)
    ∙ flat_map-append f (range_with_len 0 n) (n ∷ [])
    ∙ ap (λ l. flat_map f (range_with_len 0 n) ++ l) (append-nil (f n))

-- the same of what is taken of each element of the pieces
pub taken_more : {A B : Type 0} (g : A → B) (f : ℕ → List A) (n : ℕ)
    → map g (flat_map f (range_with_len 0 (n + 1)))
    ≡ map g (flat_map f (range_with_len 0 n)) ++ map g (f n)
taken_more g f n = ap (map g) (pieces_more f n) ∙ map-append g (flat_map f (range_with_len 0 n)) (f n)

-- the lines that are shown, from one on
shown_from : (kinds : List LineKind) (j : ℕ) → j < length kinds
    → drop j (shown_lines kinds) ≡ is_shown kinds j ∷ drop (j + 1) (shown_lines kinds)
shown_from kinds j within =
    let long = length-map-range_with_len (is_shown kinds) 0 (length kinds) in
    drop_more (shown_lines kinds) j false (omega (arith, long, within))
    ∙ ap (λ b. b ∷ drop (j + 1) (shown_lines kinds))
    (get_or-map-range_with_len (is_shown kinds) 0 (length kinds) j j false within (omega arith))

-- one line more that is shown
pub shown_more : (kinds : List LineKind) (j : ℕ) → j < length kinds → is_shown kinds j ≡ true
    → leading (drop j (shown_lines kinds)) ≡ suc (leading (drop (j + 1) (shown_lines kinds)))
shown_more kinds j within is = ap leading (shown_from kinds j within)
    ∙ ap (λ b. leading (b ∷ drop (j + 1) (shown_lines kinds))) is

-- a line that is not shown
pub shown_end : (kinds : List LineKind) (j : ℕ) → j < length kinds → is_shown kinds j ≡ false
    → leading (drop j (shown_lines kinds)) ≡ 0
shown_end kinds j within is = ap leading (shown_from kinds j within)
    ∙ ap (λ b. leading (b ∷ drop (j + 1) (shown_lines kinds))) is

-- behind the last line
pub shown_none : (kinds : List LineKind) (j : ℕ) → length kinds ≤ j → leading (drop j (shown_lines kinds)) ≡ 0
shown_none kinds j past =
    let long = length-map-range_with_len (is_shown kinds) 0 (length kinds) in
    ap leading (drop_of_length-le (shown_lines kinds) (omega (arith, long, past)))

-- one number more, as the program adds its piece
pub one_more : {A B : Type 0} (g : A → B) (f : ℕ → List A) (n : ℕ) (piece : List A) (old new : List B)
    → new ≡ old ++ map g piece → old ≡ map g (flat_map f (range_with_len 0 n)) → piece ≡ f n
    → new ≡ map g (flat_map f (range_with_len 0 (n + 1)))
one_more g f n piece old new added before is =
    added ∙ ap (λ xs. xs ++ map g piece) before
    ∙ ap (λ m. map g (flat_map f (range_with_len 0 n)) ++ map g m) is
    ∙ sym (taken_more g f n)

-- one line more, counted where it is one of those
count_more : (is : LineKind → Bool) (kinds : List LineKind) (i : ℕ) (end : LineKind) (count more : ℕ)
    → i < length kinds
    → count ≡ count_by is (take i kinds)
    → more ≡ count + cond (is (get_or kinds i end)) 1 0 → more ≡ count_by is (take (i + 1) kinds)
count_more is kinds i end count more within before added = ⊎_elim
    (λ yes. added ∙ ap (λ b. count + cond b 1 0) yes ∙ ap (λ n. n + 1) before
    ∙ sym (count_by_more_yes is kinds i end within yes))
    (λ no. added ∙ ap (λ b. count + cond b 1 0) no ∙ add-zero count ∙ before
    ∙ sym (count_by_more_no is kinds i end within no))
    (cases_Bool (is (get_or kinds i end)))

-- one line more, counted in both texts
pub counted_more : (kinds : List LineKind) (i : ℕ) (end : LineKind) (old new old' new' : ℕ) → i < length kinds
    → AreCounted (take i kinds) old new
    → old' ≡ old + cond (is_old (get_or kinds i end)) 1 0
    → new' ≡ new + cond (is_new (get_or kinds i end)) 1 0
    → AreCounted (take (i + 1) kinds) old' new'
counted_more kinds i end old new old' new' within before older newer = record {
  old_lines = count_more is_old kinds i end old old' within before.old_lines older;
  new_lines = count_more is_new kinds i end new new' within before.new_lines newer;
}
