-- The texts of numbers, ranges and names of rows.
use Rattle.std.proofs.Common.{◌≡◌, ◌≢◌, ◌<◌, ◌≤◌, ◌+◌, ◌*◌, ◌-◌, ◌^◌, ◌++◌, ◌∷◌, ◌∙◌, [], List, ℕ, zero, suc, Bool, Ok, Err, Option, Some, None, true, false, ap, arith, get_or, inl, inr, length, lit<, map, refl, rules, subst, sym, take, ⊎_elim}
use Rattle.std.specs.Prelude.{◌&&◌, MatchOption, Result}
use Rattle.std.specs.Char.{is_ascii_digit}
use Rattle.std.specs.List.{AllZip, fold, list_all}
use Rattle.std.specs.Result.{OkIff}
use Rattle.std.specs.Str.Parse.{ParsesUnsigned}
use Rattle.std.proofs.lemmas.List.{map_push, take_more}
use Rattle.std.proofs.lemmas.List.Folds.{list_all-append}
use Rattle.std.proofs.lemmas.Option.{MatchOption-at_none, MatchOption-at_some}
use Rattle.std.proofs.lemmas.Slice.Zip.{all_zipped_more}
use Rattle.std.proofs.lemmas.Str.Parse.{IsNumeralModel, not_in_digits, numerals_by_fold, parse_digits}
use Rattle.std.proofs.lemmas.Str.Pattern.{IsSplitOnceResult, split_after, split_parts}
use denote.Ref.{Bor}
use Rattle.edit_choice.specs.ChoiceTexts.{AreNumbers, IsItem, IsRange, IsRowNumber, is_name, value_of}
use Rattle.edit_choice.specs.declared.items.RowItem.{RowItem}
use Rattle.edit_choice.specs.declared.items.RowItem.TheVariants as item

-- digits are a numeral of their value
digits : IsNumeralModel (λ (ds : List ℕ). list_all is_ascii_digit ds ≡ true) value_of
digits = numerals_by_fold _ (search rules) (λ n ds. fold (λ m b. m * 10 + (b - 48)) n ds) (search rules)

-- digits that are parsed to a number other than 0
pub number_ok : {E : Type 0} (bs : List ℕ) (r : Result ℕ E) (x : ℕ) → ParsesUnsigned 64 10 bs r
    → list_all is_ascii_digit bs ≡ true → r ≡ Ok x → x ≢ 0 → IsRowNumber bs x
number_ok bs r x h all e some =
    let P : Result ℕ _ → Type 0 = λ z. OkIff z ((0 < length bs) × (value_of bs < 2 ^ 64)) (value_of bs) in
    let k = subst P e (parse_digits digits 64 bs r h all) in
    record {
      digits = all;
      is = k.1;
      first = omega (arith, some);
      last = subst (λ n. n < 2 ^ 64) (sym k.1) k.0.1;
    }

-- digits that are parsed to 0
pub number_zero : {E : Type 0} (bs : List ℕ) (r : Result ℕ E) (x : ℕ) → ParsesUnsigned 64 10 bs r
    → list_all is_ascii_digit bs ≡ true → r ≡ Ok x → x ≡ 0 → (n : ℕ) → IsRowNumber bs n → ⊥
number_zero bs r x h all e zero_is n number =
    let P : Result ℕ _ → Type 0 = λ z. OkIff z ((0 < length bs) × (value_of bs < 2 ^ 64)) (value_of bs) in
    let k = subst P e (parse_digits digits 64 bs r h all) in
    let same : n ≡ 0 = number.is ∙ sym k.1 ∙ zero_is in
    omega (arith, same, number.first)

some_digit : (bs : List ℕ) (n : ℕ) → IsRowNumber bs n → 0 < length bs
some_digit [] n number = absurd (omega (arith, number.is, number.first))
some_digit (b ∷ bs) n number = omega arith

-- digits that are not parsed
pub number_err : {E : Type 0} (bs : List ℕ) (r : Result ℕ E) (x : E) → ParsesUnsigned 64 10 bs r
    → list_all is_ascii_digit bs ≡ true → r ≡ Err x → (n : ℕ) → IsRowNumber bs n → ⊥
number_err bs r x h all e n number =
    let P : Result ℕ _ → Type 0 = λ z. OkIff z ((0 < length bs) × (value_of bs < 2 ^ 64)) (value_of bs) in
    let k = subst P e (parse_digits digits 64 bs r h all) in
    k (some_digit bs n number, subst (λ m. m < 2 ^ 64) number.is number.last)

-- other characters
pub number_other : (bs : List ℕ) → list_all is_ascii_digit bs ≡ false → (n : ℕ) → IsRowNumber bs n → ⊥
number_other bs other n number = let all = number.digits in cc (other, all)

-- numbers that fall
pub numbers_fall : (first last : List ℕ) (a b : ℕ) → IsRowNumber first a → IsRowNumber last b → b < a
    → (m n : ℕ) → IsRowNumber first m → IsRowNumber last n → m ≤ n → ⊥
numbers_fall first last a b a_is b_is fall m n m_is n_is order =
    let one : m ≡ a = m_is.is ∙ sym a_is.is in
    let two : n ≡ b = n_is.is ∙ sym b_is.is in
    omega (arith, one, two)

and_false : (b : Bool) → (b && false) ≡ true → ⊥
and_false true is = cc is
and_false false is = cc is

dash_no_digits : (text first last : List ℕ) → text ≡ first ++ 45 ∷ last
    → list_all is_ascii_digit text ≡ true → ⊥
dash_no_digits text first last is all =
    and_false (list_all is_ascii_digit first)
    (sym (list_all-append is_ascii_digit first (45 ∷ last)) ∙ ap (list_all is_ascii_digit) (sym is) ∙ all)

range_same : (text : List ℕ) (r : Option (Bor (List ℕ) × Bor (List ℕ))) → IsSplitOnceResult 45 text r
    → (m n : ℕ) (range : IsRange text m n)
    → MatchOption r ⊥ (λ x. (x.0.now ≡ range.front) × (x.1.now ≡ range.back))
range_same text r h m n range = split_after 45 text range.front range.back r h (lit< tt) range.is
    (not_in_digits digits range.front 45 range.first_is.digits (λ within. omega (arith, within.0)))

parted : (text first last : List ℕ) (r : Option (ℕ × ℕ)) → text ≡ first ++ 45 ∷ last
    → ((m n : ℕ) (range : IsRange text m n) → (first ≡ range.front) × (last ≡ range.back))
    → MatchOption r ((m n : ℕ) → IsRowNumber first m → IsRowNumber last n → m ≤ n → ⊥)
    (λ x. IsRowNumber first x.0 × IsRowNumber last x.1 × (x.0 ≤ x.1))
    → MatchOption r ((m n : ℕ) → AreNumbers text m n → ⊥) (λ x. AreNumbers text x.0 x.1)
parted text first last None is same none = λ m n are. ⊎_elim
    (λ one. dash_no_digits text first last is one.0.digits)
    (λ range. none m n (subst (λ t. IsRowNumber t m) (sym (same m n range).0) range.first_is)
    (subst (λ t. IsRowNumber t n) (sym (same m n range).1) range.last_is) range.order) are
parted text first last (Some x) is same found = inr (record {
  front = first;
  back = last;
  is = is;
  first_is = found.0;
  last_is = found.1;
  order = found.2;
})

-- a text with `-`: its parts before and behind the first one are the numbers, or none are
pub numbers_parted : (text : List ℕ) (s : Option (Bor (List ℕ) × Bor (List ℕ)))
    (x : Bor (List ℕ) × Bor (List ℕ)) (r : Option (ℕ × ℕ)) → IsSplitOnceResult 45 text s → s ≡ Some x
    → MatchOption r ((m n : ℕ) → IsRowNumber x.0.now m → IsRowNumber x.1.now n → m ≤ n → ⊥)
    (λ y. IsRowNumber x.0.now y.0 × IsRowNumber x.1.now y.1 × (y.0 ≤ y.1))
    → MatchOption r ((m n : ℕ) → AreNumbers text m n → ⊥) (λ y. AreNumbers text y.0 y.1)
numbers_parted text s x r h is found =
    parted text x.0.now x.1.now r (MatchOption-at_some _ _ x is (split_parts 45 text s h (lit< tt))).0
    (λ m n range. MatchOption-at_some _ _ x is (range_same text s h m n range)) found

-- a text without `-` that is no number
pub numbers_none : (text : List ℕ) (s : Option (Bor (List ℕ) × Bor (List ℕ))) → IsSplitOnceResult 45 text s
    → s ≡ None → ((n : ℕ) → IsRowNumber text n → ⊥) → (m n : ℕ) → AreNumbers text m n → ⊥
numbers_none text s h is none m n are =
    ⊎_elim (λ one. none m one.0) (λ range. MatchOption-at_none _ _ is (range_same text s h m n range)) are

-- a text that is neither numbers nor a name
pub no_item : (text : List ℕ) → ((m n : ℕ) → AreNumbers text m n → ⊥) → is_name text ≡ false
    → (chosen : RowItem) → IsItem text chosen → ⊥
no_item text none other (item.Numbers first last) is = none first last is
no_item text none other (item.Name chosen) is = let yes = is.0 in cc (other, yes)

-- one more part that is an item
pub items_more : (parts : List (Bor (List ℕ))) (i : ℕ) (d : Bor (List ℕ)) (items : List RowItem) (x : RowItem)
    → i < length parts → AllZip IsItem (map (λ part. part.now) (take i parts)) items
    → IsItem (get_or parts i d).now x
    → AllZip IsItem (map (λ part. part.now) (take (i + 1) parts)) (items ++ x ∷ [])
items_more parts i d items x lt so_far is =
    subst (λ xs. AllZip IsItem xs (items ++ x ∷ []))
    (sym (ap (map (λ part. part.now)) (take_more parts i d lt)
    ∙ map_push (λ part. part.now) (take i parts) (get_or parts i d)))
    (all_zipped_more IsItem (map (λ part. part.now) (take i parts)) items (get_or parts i d).now x so_far is)

-- a part that is no item
pub no_items : (parts : List (Bor (List ℕ))) (i : ℕ) (d : Bor (List ℕ)) → i < length parts
    → ((x : RowItem) → IsItem (get_or parts i d).now x → ⊥)
    → (items : List RowItem) → AllZip IsItem (map (λ part. part.now) parts) items → ⊥
no_items [] i d lt none items are = omega (arith, lt)
no_items (part ∷ parts) i d lt none [] are = are
no_items (part ∷ parts) zero d lt none (x ∷ items) are = none x are.0
no_items (part ∷ parts) (suc i) d lt none (x ∷ items) are =
    no_items parts i d (omega (arith, lt)) none items are.1
