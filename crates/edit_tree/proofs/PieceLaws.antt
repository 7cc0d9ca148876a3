-- The pieces of a text.
use Rattle.std.proofs.Common.{◌≡◌, ℕ, zero, suc, ◌+◌, ◌-◌, ◌<◌, ◌≤◌, List, [], ◌∷◌, ◌++◌, length, take, drop, Some, refl, sym, ap, ap₂, subst, ◌∙◌, append_assoc, length-append, arith}
use Rattle.std.specs.Prelude.{slice_get}
use Rattle.std.specs.List.{concat, slice_range}
use Rattle.std.specs.Str.{IsUtf8, IsCharBoundary}
use Rattle.std.proofs.lemmas.List.{take-append-drop, length-take-le, length-drop}
use Rattle.std.proofs.lemmas.List.Folds.{concat-append, drop_split}
use Rattle.std.proofs.lemmas.Str.{IsCharBoundary-start, IsCharBoundary-end, IsCharBoundary-from_take, IsCharBoundary-from_drop, IsUtf8-take, IsUtf8-drop}
use Rattle.std.proofs.Math.Seq.{drop-append_seam, take-append_seam}
use Rattle.edit_tree.specs.Literals.{literal_bytes}
use Rattle.edit_tree.specs.Pieces.{some_text, pieces_of, IsRange, IsAmong, IsSwapped}

-- ---- one by one

pub some_count : (a : List ℕ) → length (some_text a) ≤ 1
some_count [] = omega arith
some_count (b ∷ bs) = omega arith

pub first_piece : (a : List ℕ) (more : List (List ℕ)) (n : ℕ) → n < length (some_text a)
    → slice_get (some_text a ++ more) n ≡ Some a
first_piece [] more n lt = absurd (omega arith)
first_piece (b ∷ bs) more zero lt = refl
first_piece (b ∷ bs) more (suc n) lt = absurd (omega arith)

minus_none : (n : ℕ) → n ≡ n - 0
minus_none n = omega arith

minus_one : (n : ℕ) → n ≡ suc n - 1
minus_one n = omega arith

pub later_piece : (a : List ℕ) (more : List (List ℕ)) (n : ℕ) → length (some_text a) ≤ n
    → slice_get (some_text a ++ more) n ≡ slice_get more (n - length (some_text a))
later_piece [] more n le = ap (slice_get more) (minus_none n)
later_piece (b ∷ bs) more zero le = absurd (omega arith)
later_piece (b ∷ bs) more (suc n) le = ap (slice_get more) (minus_one n)

-- ---- by number

count_of_three : (a b c : List ℕ) → length (some_text a ++ (some_text b ++ some_text c))
    ≡ length (some_text a) + (length (some_text b) + length (some_text c))
count_of_three a b c =
    length-append (some_text a) (some_text b ++ some_text c)
    ∙ ap (λ (n : ℕ). length (some_text a) + n) (length-append (some_text b) (some_text c))

from_start : (xs : List ℕ) (n : ℕ) → slice_range xs 0 n ≡ take n xs
from_start xs n = let e : n - 0 ≡ n = omega arith in ap (λ (m : ℕ). take m xs) e

pub piece_before : (t : List ℕ) (w : ℕ × ℕ) (front : List ℕ) (k n : ℕ) → front ≡ slice_range t 0 w.0
    → k ≡ length (some_text front) → n < k → slice_get (pieces_of t w) n ≡ Some front
piece_before t w front k n is size lt =
    let more = some_text (slice_range t w.0 w.1) ++ some_text (drop w.1 t) in
    ap (λ (l : List ℕ). slice_get (some_text l ++ more) n) (sym (is ∙ from_start t w.0))
    ∙ first_piece front more n (omega arith)

pub piece_behind : (t : List ℕ) (w : ℕ × ℕ) (front : List ℕ) (k n : ℕ) → front ≡ slice_range t 0 w.0
    → k ≡ length (some_text front) → k ≤ n
    → slice_get (pieces_of t w) n ≡ slice_get (some_text (slice_range t w.0 w.1) ++ some_text (drop w.1 t))
    (n - k)
piece_behind t w front k n is size le =
    let more = some_text (slice_range t w.0 w.1) ++ some_text (drop w.1 t) in
    ap (λ (l : List ℕ). slice_get (some_text l ++ more) n) (sym (is ∙ from_start t w.0))
    ∙ later_piece front more n (omega arith) ∙ ap (λ (m : ℕ). slice_get more (n - m)) (sym size)

pub piece_inside : (t : List ℕ) (w : ℕ × ℕ) (front middle : List ℕ) (k m n : ℕ) → front ≡ slice_range t 0 w.0
    → middle ≡ slice_range t w.0 w.1 → k ≡ length (some_text front) → m ≡ length (some_text middle) → k ≤ n
    → n < k + m → slice_get (pieces_of t w) n ≡ Some middle
piece_inside t w front middle k m n is there size count le lt =
    piece_behind t w front k n is size le
    ∙ ap (λ (l : List ℕ). slice_get (some_text l ++ some_text (drop w.1 t)) (n - k)) (sym there)
    ∙ first_piece middle (some_text (drop w.1 t)) (n - k) (omega arith)

pub piece_last : (t : List ℕ) (w : ℕ × ℕ) (front middle : List ℕ) (k m n : ℕ) → front ≡ slice_range t 0 w.0
    → middle ≡ slice_range t w.0 w.1 → k ≡ length (some_text front) → m ≡ length (some_text middle)
    → k + m ≤ n
    → slice_get (pieces_of t w) n ≡ slice_get (some_text (drop w.1 t)) (n - (k + m))
piece_last t w front middle k m n is there size count le =
    let back = some_text (drop w.1 t) in
    let rest : (n - k) - m ≡ n - (k + m) = omega arith in
    piece_behind t w front k n is size (omega arith)
    ∙ ap (λ (l : List ℕ). slice_get (some_text l ++ back) (n - k)) (sym there)
    ∙ later_piece middle back (n - k) (omega arith) ∙ ap (λ (i : ℕ). slice_get back ((n - k) - i)) (sym count)
    ∙ ap (slice_get back) rest

pub pieces_count : (t : List ℕ) (w : ℕ × ℕ) (front middle back : List ℕ) (k m n : ℕ)
    → front ≡ slice_range t 0 w.0
    → middle ≡ slice_range t w.0 w.1 → back ≡ drop w.1 t → k ≡ length (some_text front)
    → m ≡ length (some_text middle) → n ≡ length (some_text back) → k + (m + n) ≡ length (pieces_of t w)
pieces_count t w front middle back k m n is there behind size count last =
    let a : length (some_text front) ≡ length (some_text (take w.0 t)) =
    ap (λ (l : List ℕ). length (some_text l)) (is ∙ from_start t w.0) in
    let b : length (some_text middle) ≡ length (some_text (slice_range t w.0 w.1)) =
    ap (λ (l : List ℕ). length (some_text l)) there in
    let c : length (some_text back) ≡ length (some_text (drop w.1 t)) =
    ap (λ (l : List ℕ). length (some_text l)) behind in
    let three = count_of_three (take w.0 t) (slice_range t w.0 w.1) (drop w.1 t) in
    omega (size, count, last, a, b, c, three, arith)

-- ---- all together

some_joined : (a : List ℕ) → concat (some_text a) ≡ a
some_joined [] = refl
some_joined (b ∷ bs) = append-none (b ∷ bs)
  where
    append-none : (xs : List ℕ) → xs ++ [] ≡ xs
    append-none [] = refl
    append-none (x ∷ xs) = ap (λ (l : List ℕ). x ∷ l) (append-none xs)

pub joined : (bytes : List ℕ) (r : ℕ × ℕ) → r.0 ≤ r.1 → concat (pieces_of bytes r) ≡ bytes
joined bytes r le =
    let front = some_text (take r.0 bytes) in
    let middle = some_text (slice_range bytes r.0 r.1) in
    let back = some_text (drop r.1 bytes) in
    concat-append front (middle ++ back)
    ∙ ap₂ (λ (a b : List ℕ). a ++ b) (some_joined (take r.0 bytes))
    (concat-append middle back
    ∙ ap₂ (λ (a b : List ℕ). a ++ b) (some_joined (slice_range bytes r.0 r.1)) (some_joined (drop r.1 bytes))
    ∙ sym (drop_split bytes r.0 r.1 le))
    ∙ take-append-drop r.0 bytes

-- ---- a text that was read

drop_end : (xs : List ℕ) → drop (length xs) xs ≡ []
drop_end [] = refl
drop_end (x ∷ xs) = drop_end xs

pub whole_count : (bytes : List ℕ) → length (pieces_of bytes (0, length bytes)) ≤ 1
whole_count bytes =
    let none : some_text (drop (length bytes) bytes) ≡ [] = ap some_text (drop_end bytes) in
    let size = length-append (some_text (slice_range bytes 0 (length bytes)))
    (some_text (drop (length bytes) bytes)) in
    let nothing : length (some_text (drop (length bytes) bytes)) ≡ 0 = ap length none in
    let most = some_count (slice_range bytes 0 (length bytes)) in
    omega arith

pub whole_range : (bytes : List ℕ) (n : ℕ) → IsUtf8 bytes → n ≡ length bytes → IsRange bytes (0, n)
whole_range bytes n u is = record {
  ordered = omega arith;
  begins = IsCharBoundary-start bytes u;
  ends = subst (IsCharBoundary bytes) (sym is) (IsCharBoundary-end bytes);
}

-- ---- a text with a literal in the place of a part

-- the pieces of a text that is not empty are some
none_joined : (ps : List (List ℕ)) (bytes : List ℕ) → concat ps ≡ bytes → length ps ≡ 0 → bytes ≡ []
none_joined [] bytes e n = sym e
none_joined (p ∷ ps) bytes e n = absurd (omega arith)

-- what stands before the literal and behind it
pub swapped_front : (old literal new : List ℕ) (r : ℕ × ℕ) → (s : IsSwapped old literal new r)
    → take r.0 new ≡ take s.start old
swapped_front old literal new r s =
    let size : r.0 ≡ length (take s.start old) = ap (λ (p : ℕ × ℕ). p.0) s.there ∙
    sym (length-take-le s.start old s.within) in
    ap₂ (λ (n : ℕ) (l : List ℕ). take n l) size s.bytes ∙
    take-append_seam (take s.start old) (literal ++ drop s.end old)

behind : (old literal new : List ℕ) (r : ℕ × ℕ) → (s : IsSwapped old literal new r)
    → drop s.start new ≡ literal ++ drop s.end old
behind old literal new r s =
    let size : s.start ≡ length (take s.start old) = sym (length-take-le s.start old s.within) in
    ap₂ (λ (n : ℕ) (l : List ℕ). drop n l) size s.bytes ∙
    drop-append_seam (take s.start old) (literal ++ drop s.end old)

pub swapped_literal : (old literal new : List ℕ) (r : ℕ × ℕ) → (s : IsSwapped old literal new r)
    → slice_range new r.0 r.1 ≡ literal
swapped_literal old literal new r s =
    let first : r.0 ≡ s.start = ap (λ (p : ℕ × ℕ). p.0) s.there in
    let last : r.1 ≡ s.start + length literal = ap (λ (p : ℕ × ℕ). p.1) s.there in
    let size : r.1 - r.0 ≡ length literal = omega arith in
    ap₂ (λ (n : ℕ) (l : List ℕ). take n l) size (ap (λ (n : ℕ). drop n new) first ∙
    behind old literal new r s)
    ∙ take-append_seam literal (drop s.end old)

pub swapped_back : (old literal new : List ℕ) (r : ℕ × ℕ) → (s : IsSwapped old literal new r)
    → drop r.1 new ≡ drop s.end old
swapped_back old literal new r s =
    let last : r.1 ≡ s.start + length literal = ap (λ (p : ℕ × ℕ). p.1) s.there in
    let size : r.1 ≡ length (take s.start old ++ literal) =
    last ∙ sym (length-append (take s.start old) literal ∙
    ap (λ (n : ℕ). n + length literal) (length-take-le s.start old s.within)) in
    ap₂ (λ (n : ℕ) (l : List ℕ). drop n l) size (s.bytes ∙
    sym (append_assoc (take s.start old) literal (drop s.end old)))
    ∙ drop-append_seam (take s.start old ++ literal) (drop s.end old)

none_of : (old : List ℕ) (n : ℕ) → old ≡ [] → (length (some_text (take n old)) ≡ 0)
    × (length (some_text (drop n old)) ≡ 0)
none_of [] zero e = (refl, refl)
none_of [] (suc n) e = (refl, refl)
none_of (b ∷ bs) n e = cc e

pub most_pieces : (old literal new : List ℕ) (r q : ℕ × ℕ) → IsSwapped old literal new r → IsRange old q
    → length (pieces_of new r) ≤ length (pieces_of old q) + 2
most_pieces old literal new r q is range = by_count (length (pieces_of old q)) refl
  where
    three : length (pieces_of new r) ≡ length (some_text (take r.0 new))
        + (length (some_text (slice_range new r.0 r.1)) + length (some_text (drop r.1 new)))
    three = count_of_three (take r.0 new) (slice_range new r.0 r.1) (drop r.1 new)

    a : length (some_text (take r.0 new)) ≤ 1
    a = some_count (take r.0 new)

    b : length (some_text (slice_range new r.0 r.1)) ≤ 1
    b = some_count (slice_range new r.0 r.1)

    c : length (some_text (drop r.1 new)) ≤ 1
    c = some_count (drop r.1 new)

    by_count : (n : ℕ) → n ≡ length (pieces_of old q) → length (pieces_of new r) ≤ n + 2
    by_count zero e =
        let empty = none_joined (pieces_of old q) old (joined old q range.ordered) (sym e) in
        let front : length (some_text (take r.0 new)) ≡ 0 =
        ap (λ (l : List ℕ). length (some_text l)) (swapped_front old literal new r is) ∙
        (none_of old is.start empty).0 in
        let back : length (some_text (drop r.1 new)) ≡ 0 =
        ap (λ (l : List ℕ). length (some_text l)) (swapped_back old literal new r is) ∙
        (none_of old is.end empty).1 in
        omega (three, a, b, c, front, back, arith)
    by_count (suc n) e = omega (three, a, b, c, arith)

-- the literal is one of the pieces
pub literal_among : (old literal new : List ℕ) (r : ℕ × ℕ) → IsSwapped old literal new r → 0 < length literal
    → IsAmong literal (pieces_of new r)
literal_among old literal new r is some =
    let front = some_text (take r.0 new) in
    let back = some_text (drop r.1 new) in
    let there = swapped_literal old literal new r is in (
      length front,
      later_piece (take r.0 new) (some_text (slice_range new r.0 r.1) ++ back) (length front) (omega arith)
          ∙ ap₂ (λ (n : ℕ) (l : List ℕ). slice_get (some_text l ++ back) n) (none (length front)) there
          ∙ first_piece literal back 0 (filled literal some),
    )
  where
    none : (n : ℕ) → n - n ≡ 0
    none n = omega arith

    filled : (l : List ℕ) → 0 < length l → 0 < length (some_text l)
    filled [] lt = absurd (omega arith)
    filled (x ∷ xs) lt = omega arith

-- ---- how the code makes it

pub swaps : (old literal new : List ℕ) (start end : ℕ) (last : ℕ) → IsUtf8 old → IsUtf8 new → start ≤ end
    → IsCharBoundary old start → IsCharBoundary old end
    → new ≡ slice_range old 0 start ++ (literal ++ drop end old)
    → last ≡ length new - (length old - end) → IsSwapped old literal new (start, last)
swaps old literal new start end last u v le first_fits last_fits e is = record {
  start = start;
  end = end;
  within = first_fits.0;
  bytes = bytes;
  there = ap (λ (n : ℕ). (start, n)) size;
  range = record {
    ordered = omega (size, arith);
    begins = IsCharBoundary-from_take new start v (omega (count, front, arith))
        (subst IsUtf8 (sym before) (IsUtf8-take old start u first_fits));
    ends = IsCharBoundary-from_drop new last (omega (count, front, size, arith))
        (subst IsUtf8 (sym after) (IsUtf8-drop old end u last_fits));
  };
}
  where
    bytes : new ≡ take start old ++ (literal ++ drop end old)
    bytes = e ∙ ap (λ (n : ℕ). take n old ++ (literal ++ drop end old)) from_start
      where
        from_start : start - 0 ≡ start
        from_start = omega arith

    front : length (take start old) ≡ start
    front = length-take-le start old first_fits.0

    back : length (drop end old) ≡ length old - end
    back = length-drop end old

    count : length new ≡ length (take start old) + (length literal + length (drop end old))
    count = ap length bytes ∙ length-append (take start old) (literal ++ drop end old)
        ∙ ap (λ (n : ℕ). length (take start old) + n) (length-append literal (drop end old))

    size : last ≡ start + length literal
    size = let fits : end ≤ length old = last_fits.0 in omega (is, count, front, back, fits, arith)

    before : take start new ≡ take start old
    before = ap₂ (λ (n : ℕ) (l : List ℕ). take n l) (sym front) bytes ∙
        take-append_seam (take start old) (literal ++ drop end old)

    after : drop last new ≡ drop end old
    after =
        let here : last ≡ length (take start old ++ literal) = size ∙
        sym (length-append (take start old) literal ∙ ap (λ (n : ℕ). n + length literal) front) in
        ap₂ (λ (n : ℕ) (l : List ℕ). drop n l) here (bytes ∙
        sym (append_assoc (take start old) literal (drop end old)))
        ∙ drop-append_seam (take start old ++ literal) (drop end old)

-- a literal has its quotes
pub literal_some : (said : List ℕ) → 0 < length (literal_bytes said)
literal_some said = omega arith
