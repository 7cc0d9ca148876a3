-- Rows of tables.
use Rattle.std.proofs.Common.{⊎_elim, ◌≡◌, ◌∙◌, ℕ, ◌+◌, ◌-◌, ◌<◌, ◌≤◌, ◌++◌, ◌∷◌, List, [], Bool, ap, ap₂, append_assoc, arith, cond, drop, filter, length, min, sym, take}
use Rattle.std.specs.List.{flat_map, range_with_len}
use Rattle.std.proofs.lemmas.Bool.{cases_lt}
use Rattle.std.proofs.lemmas.List.{drop-take, drop_all, flat_map_more, length-take, map-id, take_min}
use Rattle.std.proofs.lemmas.List.FromFn.{filter_of_map_range_with_len_more, map-range_with_len_more}

-- one more number
pub range_more : (n : ℕ) → range_with_len 0 (n + 1) ≡ range_with_len 0 n ++ n ∷ []
range_more n = simp map-id at (map-range_with_len_more (λ x. x) 0 n n (omega arith))

-- the numbers that pass, with one more
pub filter_range_more : (p : ℕ → Bool) (n : ℕ)
    → filter p (range_with_len 0 (n + 1)) ≡ filter p (range_with_len 0 n) ++ cond (p n) (n ∷ []) []
filter_range_more p n = simp map-id at (filter_of_map_range_with_len_more p (λ x. x) 0 n n (omega arith))

-- the lists of the numbers, with one more
pub flat_map_range_more : (f : ℕ → List ℕ) (n : ℕ)
    → flat_map f (range_with_len 0 n) ++ f n ≡ flat_map f (range_with_len 0 (n + 1))
flat_map_range_more f n =
    flat_map_more f [] (range_with_len 0 n) n ∙ ap (flat_map f) (sym (range_more n))

-- where the first byte is before the second
front_part : (text : List ℕ) (from end : ℕ) → from < end
    → take (end - min from end) (drop (min from end) text) ≡ drop from (take end text)
front_part text from end before =
    let first : min from end ≡ from = omega arith in
    let parts : end ≡ from + (end - from) = omega arith in
    rw first (sym (drop-take from (end - from) text) ∙ ap (λ n. drop from (take n text)) (sym parts))

-- where it is not
no_part : (text : List ℕ) (from end : ℕ) → end ≤ from
    → take (end - min from end) (drop (min from end) text) ≡ drop from (take end text)
no_part text from end behind =
    let none : end - min from end ≡ 0 = omega arith in
    let short : length (take end text) ≤ from = omega (arith, length-take end text) in
    rw none (sym (drop_all from (take end text) short))

-- the part of a text from one byte to another, which is empty where the first is behind the second
pub part_of_front : (text : List ℕ) (from end : ℕ) → end ≤ length text
    → take (end - min from end) (drop (min from end) text) ≡ drop from (take end text)
part_of_front text from end within =
    ⊎_elim (λ before. front_part text from end before) (λ behind. no_part text from end behind)
    (cases_lt from end)

-- the same, where the second is that of the next column, or the text's end before it
pub cell_part : (text : List ℕ) (a b from next end start : ℕ) → from ≡ a → next ≡ b
    → end ≡ min next (length text) → start ≡ min from end
    → take (end - start) (drop start text) ≡ drop a (take b text)
cell_part text a b from next end start first second last begin =
    let within : end ≤ length text = omega arith in
    let whole : take end text ≡ take b text = ap (λ n. take n text) last ∙ take_min next text
    ∙ ap (λ n. take n text) second in
    rw begin (part_of_front text from end within ∙ ap₂ drop first whole)

-- the starts of columns, with one more byte that passes or not
pub starts_more : (p : ℕ → Bool) (first now later : List ℕ) (n : ℕ) (b : Bool) → b ≡ p n
    → now ≡ first ++ filter p (range_with_len 0 n) → later ≡ now ++ cond b (n ∷ []) []
    → later ≡ first ++ filter p (range_with_len 0 (n + 1))
starts_more p first now later n b is before more =
    more ∙ ap₂ (λ x y. x ++ cond y (n ∷ []) []) before is
    ∙ append_assoc first (filter p (range_with_len 0 n)) (cond (p n) (n ∷ []) [])
    ∙ ap (λ x. first ++ x) (sym (filter_range_more p n))
