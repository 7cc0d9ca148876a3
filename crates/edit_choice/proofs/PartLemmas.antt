-- The parts of a text between separators.
use Rattle.std.proofs.Common.{◌≡◌, ◌<◌, ◌≤◌, ◌+◌, ◌-◌, ◌++◌, ◌∷◌, ◌∙◌, [], Bool, List, ℕ, true, false, ap, append_assoc, arith, drop, get_or, inl, inr, length, length-drop, lit<, map, refl, subst, sym, take, ⊎_elim}
use Rattle.std.specs.Prelude.{◌==◌, ◌||◌, ◌⊎◌, if◌then◌else◌}
use Rattle.std.specs.List.{slice_range}
use Rattle.std.specs.Str.{IsCharBoundary, IsUtf8, bytes_eq}
use Rattle.std.proofs.lemmas.Bool.Decides.{Decides-eqb}
use Rattle.std.proofs.lemmas.Grind.{common_steps}
use Rattle.std.proofs.lemmas.List.{drop_more, get_or-drop, take_more}
use Rattle.std.proofs.lemmas.Slice.Eq.{bytes_eq-Decides}
use Rattle.std.proofs.lemmas.Str.{IsCharBoundary-after_ascii}
use denote.Ref.{Bor}
use Rattle.edit_choice.specs.ChoiceTexts.{is_separator, parts_from, with_part}

-- a separator ends a part
ends : (text part : List ℕ) (i : ℕ) → i < length text → is_separator (get_or text i 0) ≡ true
    → parts_from part (drop i text) ≡ with_part part (parts_from [] (drop (i + 1) text))
ends text part i lt is =
    ap (parts_from part) (drop_more text i 0 lt)
    ∙ ap (λ t. if t then with_part part (parts_from [] (drop (i + 1) text))
    else parts_from (part ++ get_or text i 0 ∷ []) (drop (i + 1) text)) is

-- another byte belongs to a part
goes_on : (text part : List ℕ) (i : ℕ) → i < length text → is_separator (get_or text i 0) ≡ false
    → parts_from part (drop i text) ≡ parts_from (part ++ get_or text i 0 ∷ []) (drop (i + 1) text)
goes_on text part i lt is =
    ap (parts_from part) (drop_more text i 0 lt)
    ∙ ap (λ t. if t then with_part part (parts_from [] (drop (i + 1) text))
    else parts_from (part ++ get_or text i 0 ∷ []) (drop (i + 1) text)) is

range_more : (text : List ℕ) (start i : ℕ) → start ≤ i → i < length text
    → slice_range text start (i + 1) ≡ slice_range text start i ++ get_or text i 0 ∷ []
range_more text start i le lt =
    let more : i + 1 - start ≡ i - start + 1 = omega arith in
    let within : i - start < length (drop start text) = omega (arith, length-drop start text) in
    let at : start + (i - start) ≡ i = omega arith in
    ap (λ n. take n (drop start text)) more ∙ take_more (drop start text) (i - start) 0 within
    ∙ ap (λ b. take (i - start) (drop start text) ++ b ∷ [])
    (get_or-drop start text (i - start) 0 ∙ ap (λ n. get_or text n 0) at)

range_empty : (text : List ℕ) (start i : ℕ) → i ≤ start → slice_range text start i ≡ []
range_empty text start i le =
    let none : i - start ≡ 0 = omega arith in ap (λ n. take n (drop start text)) none

with_some : (part : List ℕ) (parts : List (List ℕ)) → 0 < length part → with_part part parts ≡ part ∷ parts
with_some [] parts some = absurd (omega (arith, some))
with_some (b ∷ part) parts some = refl

range_some : (text : List ℕ) (start i : ℕ) → start < i → i ≤ length text → 0 < length (slice_range text start i)
range_some text start i lt le = grind (arith, common_steps)

-- the parts so far, and those of the rest of the text, which begin where the last separator ends
pub record ArePartsSoFar (text : List ℕ) (parts : List (List ℕ)) (start i : ℕ) : Type 0 where
  pub all : parts ++ parts_from (slice_range text start i) (drop i text) ≡ parts_from [] text
  pub order : start ≤ i
  pub boundary : IsCharBoundary text start

pub same_parts : (text : List ℕ) (old parts : List (List ℕ)) (before start i : ℕ) → old ≡ parts → before ≡ start
    → ArePartsSoFar text parts start i → ArePartsSoFar text old before i
same_parts text old parts before start i parts_is start_is are =
    subst (λ (ps : List (List ℕ)). ArePartsSoFar text ps before i) (sym parts_is)
    (subst (λ n. ArePartsSoFar text parts n i) (sym start_is) are)

-- one more byte of a part
pub byte_more : (text : List ℕ) (parts : List (List ℕ)) (start i : ℕ) → i < length text
    → is_separator (get_or text i 0) ≡ false → ArePartsSoFar text parts start i
    → ArePartsSoFar text parts start (i + 1)
byte_more text parts start i lt is are = record {
  all = ap (λ part. parts ++ parts_from part (drop (i + 1) text)) (range_more text start i are.order lt)
      ∙ ap (λ xs. parts ++ xs) (sym (goes_on text (slice_range text start i) i lt is)) ∙ are.all;
  order = omega (arith, are.order);
  boundary = are.boundary;
}

or_cases : (a b : Bool) → (a || b) ≡ true → (a ≡ true) ⊎ (b ≡ true)
or_cases true b is = inl refl
or_cases false b is = inr is

small_by : (k b : ℕ) → k < 128 → (k == b) ≡ true → b < 128
small_by k b small is = subst (λ n. n < 128) ((Decides-eqb k b).0 is) small

false_true : false ≡ true → ⊥
false_true h = cc h

separator_small : (b : ℕ) → is_separator b ≡ true → b < 128
separator_small b is =
    ⊎_elim (small_by 44 b (lit< tt)) (λ r. ⊎_elim (small_by 32 b (lit< tt)) (λ s.
    ⊎_elim (small_by 9 b (lit< tt)) (λ t. ⊎_elim (small_by 13 b (lit< tt)) (λ u.
    ⊎_elim (small_by 10 b (lit< tt)) (λ v. absurd (false_true v)) (or_cases (10 == b) _ u))
    (or_cases (13 == b) _ t)) (or_cases (9 == b) _ s)) (or_cases (32 == b) _ r)) (or_cases (44 == b) _ is)

-- a separator behind a part
pub part_more : (text : List ℕ) (parts : List (List ℕ)) (start i : ℕ) → IsUtf8 text → start < i
    → i < length text → is_separator (get_or text i 0) ≡ true → ArePartsSoFar text parts start i
    → ArePartsSoFar text (parts ++ slice_range text start i ∷ []) (i + 1) (i + 1)
part_more text parts start i utf8 le lt is are =
    let part = slice_range text start i in
    let rest = parts_from [] (drop (i + 1) text) in
    let some : 0 < length part = range_some text start i le (omega arith) in record {
      all = ap (λ p. (parts ++ part ∷ []) ++ parts_from p (drop (i + 1) text))
          (range_empty text (i + 1) (i + 1) (omega arith))
          ∙ append_assoc parts (part ∷ []) rest
          ∙ ap (λ xs. parts ++ xs) (sym (with_some part rest some) ∙ sym (ends text part i lt is)) ∙ are.all;
      order = omega arith;
      boundary = IsCharBoundary-after_ascii text i utf8 lt (separator_small (get_or text i 0) is);
    }

-- a separator at the start of a part
pub part_none : (text : List ℕ) (parts : List (List ℕ)) (start i : ℕ) → IsUtf8 text → i ≤ start
    → i < length text → is_separator (get_or text i 0) ≡ true → ArePartsSoFar text parts start i
    → ArePartsSoFar text parts (i + 1) (i + 1)
part_none text parts start i utf8 le lt is are = record {
  all = ap (λ p. parts ++ parts_from p (drop (i + 1) text)) (range_empty text (i + 1) (i + 1) (omega arith))
      ∙ ap (λ xs. parts ++ xs) (sym (ends text [] i lt is))
      ∙ ap (λ p. parts ++ parts_from p (drop i text)) (sym (range_empty text start i le)) ∙ are.all;
  order = omega arith;
  boundary = IsCharBoundary-after_ascii text i utf8 lt (separator_small (get_or text i 0) is);
}

first_is : (x y : List ℕ) → x ∷ [] ≡ y ∷ [] → x ≡ y
first_is x y is = cc is

-- one part is a word, or not
pub only_by : (parts : List (Bor (List ℕ))) (word : List ℕ) (d : Bor (List ℕ)) (b : Bool) → length parts ≡ 1
    → b ≡ bytes_eq (get_or parts 0 d).now word
    → (b ≡ true → map (λ part. part.now) parts ≡ word ∷ [])
    × (map (λ part. part.now) parts ≡ word ∷ [] → b ≡ true)
only_by [] word d b one is = absurd (omega (arith, one))
only_by (p ∷ []) word d b one is = (
  λ yes. ap (λ t. t ∷ []) ((bytes_eq-Decides p.now word).0 (sym is ∙ yes)),
  λ same. is ∙ (bytes_eq-Decides p.now word).1 (first_is p.now word same),
)
only_by (p ∷ q ∷ parts) word d b one is = absurd (omega (arith, one))
