-- The items of a choice by their numbers and names.
use Rattle.std.proofs.Common.{◌≡◌, ◌<◌, ◌+◌, ◌∙◌, ◌∷◌, ◌++◌, [], ℕ, List, Bool, true, false, ap, arith, eqb, get_or, inl, inr, leb, length, refl, string_bytes, subst, sym, take}
use Rattle.std.specs.Prelude.{◌==◌, ◌&&◌, ◌||◌, is_some, nat_le}
use Rattle.std.specs.List.{list_any}
use Rattle.std.specs.Str.{bytes_eq}
use Rattle.std.proofs.lemmas.Bool.{cases_Bool, eq-eqb, eqb-true, le-leb, leb-false, leb-true, lt-leb, ne_eqb}
use Rattle.std.proofs.lemmas.List.{take_more}
use Rattle.std.proofs.lemmas.List.Folds.{list_any-append}
use Rattle.edit_report.specs.NameSets.{has_name}
use Rattle.edit_report.specs.declared.row.Row.{Row}
use Rattle.edit_choice.specs.ChosenRows.{is_change_of}
use Rattle.edit_choice.specs.Choices.{is_chosen_by}
use Rattle.edit_choice.specs.ItemLookup.{IsLookupOf, IsReach, begins_at, begins_by, end_at, is_name_of}
use Rattle.edit_choice.specs.declared.item_lookup.ItemLookup.{ItemLookup}
use Rattle.edit_choice.specs.declared.items.RowItem.{RowItem}
use Rattle.edit_choice.specs.declared.items.RowItem.TheVariants as item

or_swap : (a b x y : Bool) → ((a || x) || (b || y)) ≡ ((a || b) || (x || y))
or_swap true b x y = refl
or_swap false true true y = refl
or_swap false true false y = refl
or_swap false false true y = refl
or_swap false false false y = refl

-- one of two tests holds of an element where a third one does
pub any_or : {X : Type 0} (p q r : X → Bool) (xs : List X) → ((x : X) → (p x || q x) ≡ r x)
    → (list_any p xs || list_any q xs) ≡ list_any r xs
any_or p q r [] each = refl
any_or p q r (x ∷ xs) each =
    or_swap (p x) (q x) (list_any p xs) (list_any q xs)
    ∙ ap (λ b. b || (list_any p xs || list_any q xs)) (each x)
    ∙ ap (λ b. r x || b) (any_or p q r xs each)

any_same : {X : Type 0} (p q : X → Bool) (xs : List X) → ((x : X) → p x ≡ q x)
    → list_any p xs ≡ list_any q xs
any_same p q [] each = refl
any_same p q (x ∷ xs) each =
    ap (λ b. b || list_any p xs) (each x) ∙ ap (λ b. q x || b) (any_same p q xs each)

or_false : (b : Bool) → (b || false) ≡ b
or_false true = refl
or_false false = refl

-- one more element
any_more : {X : Type 0} (p : X → Bool) (xs : List X) (x : X)
    → list_any p (xs ++ x ∷ []) ≡ (list_any p xs || p x)
any_more p xs x = list_any-append p xs (x ∷ []) ∙ ap (λ b. list_any p xs || b) (or_false (p x))

-- one more element of a list
pub any_take : {X : Type 0} (p : X → Bool) (xs : List X) (i : ℕ) (x d : X) → i < length xs → x ≡ get_or xs i d
    → list_any p (take (i + 1) xs) ≡ (list_any p (take i xs) || p x)
any_take {X} p xs i x d lt is =
    ap (list_any p) (take_more xs i d lt ∙ ap (λ (y : X). take i xs ++ y ∷ []) (sym is))
    ∙ any_more p (take i xs) x

-- one more element that has not the property
pub any_take_none : {X : Type 0} (p : X → Bool) (xs : List X) (i : ℕ) (x d : X) → i < length xs
    → x ≡ get_or xs i d → p x ≡ false → list_any p (take (i + 1) xs) ≡ list_any p (take i xs)
any_take_none p xs i x d lt is none =
    any_take p xs i x d lt is ∙ ap (λ b. list_any p (take i xs) || b) none ∙ or_false (list_any p (take i xs))

-- ---- ranges

and_by : (a b c x : Bool) → (a || b) ≡ c → ((a && x) || (b && x)) ≡ (c && x)
and_by true b c x is = or_first x b ∙ ap (λ y. y && x) is
  where
    or_first : (x b : Bool) → (x || (b && x)) ≡ x
    or_first true b = refl
    or_first false true = refl
    or_first false false = refl
and_by false b c x is = ap (λ y. y && x) is

next_number : (first n : ℕ) → (nat_le first n || (first == (n + 1))) ≡ nat_le first (n + 1)
next_number first n = elim (cases_Bool (leb first n)) [
  | inl below ↦ ap (λ b. b || eqb first (n + 1)) below
      ∙ sym (le-leb first (n + 1) (let le = leb-true first n below in omega (arith, le)))
  | inr past ↦ ap (λ b. b || eqb first (n + 1)) past ∙ (elim (cases_Bool (eqb first (n + 1))) [
    | inl same ↦ same ∙ sym (le-leb first (n + 1)
        (let eq = eqb-true first (n + 1) same in omega (arith, eq)))
    | inr other ↦ other ∙ sym (lt-leb first (n + 1) (above first n (leb-false first n past) other))
  ])
]
  where
    above : (first n : ℕ) → n < first → eqb first (n + 1) ≡ false → n + 1 < first
    above first n lt other =
        elim (cases_Bool (leb first (n + 1))) [
          | inl le ↦ (let small = leb-true first (n + 1) le in
              let same : first ≡ n + 1 = omega (arith, small, lt) in
              let equal = eq-eqb first (n + 1) same in cc (other, equal))
          | inr gt ↦ leb-false first (n + 1) gt
        ]

by_next : (n end : ℕ) (i : RowItem) → (begins_by n end i || begins_at (n + 1) end i) ≡ begins_by (n + 1) end i
by_next n end (item.Numbers first last) =
    and_by (nat_le first n) (first == (n + 1)) (nat_le first (n + 1)) (nat_le end last) (next_number first n)
by_next n end (item.Name name) = refl

-- the reach at the next number
pub reach_more : (items : List RowItem) (lookup : ItemLookup) (n next before reach : ℕ) → next ≡ n + 1
    → IsLookupOf items lookup → IsReach items n before
    → ((end : ℕ) → nat_le end reach ≡ (nat_le end before || nat_le end (end_at lookup.ends next)))
    → IsReach items next reach
reach_more items lookup n next before reach is of reached has = subst (λ k. IsReach items k reach) (sym is)
    (λ end some. has end ∙ ap (λ b. b || nat_le end (end_at lookup.ends next)) (reached end some)
    ∙ ap (λ k. list_any (begins_by n end) items || nat_le end (end_at lookup.ends k)) is
    ∙ ap (λ b. list_any (begins_by n end) items || b) (of.ends (n + 1) end some)
    ∙ any_or (begins_by n end) (begins_at (n + 1) end) (begins_by (n + 1) end) items (by_next n end))

no_number : (first : ℕ) → (first == 0) ≡ nat_le first 0
no_number first = elim (cases_Bool (leb first 0)) [
  | inl below ↦ eq-eqb first 0 (let le = leb-true first 0 below in omega (arith, le)) ∙ sym below
  | inr past ↦ ne_eqb first 0 (λ e. let lt = leb-false first 0 past in omega (arith, e, lt)) ∙ sym past
]

at_none : (end : ℕ) (i : RowItem) → begins_at 0 end i ≡ begins_by 0 end i
at_none end (item.Numbers first last) = ap (λ b. b && nat_le end last) (no_number first)
at_none end (item.Name name) = refl

zero_reach : (end : ℕ) → 0 < end → nat_le end 0 ≡ false
zero_reach end some = lt-leb end 0 some

-- the reach before the first number
pub reach_first : (items : List RowItem) (lookup : ItemLookup) (reach : ℕ) → IsLookupOf items lookup
    → ((end : ℕ) → nat_le end reach ≡ (nat_le end 0 || nat_le end (end_at lookup.ends 0)))
    → IsReach items 0 reach
reach_first items lookup reach of has = λ end some.
    has end ∙ ap (λ b. b || nat_le end (end_at lookup.ends 0)) (zero_reach end some) ∙ of.ends 0 end some
    ∙ any_same (begins_at 0 end) (begins_by 0 end) items (at_none end)

-- ---- names

-- a row that changes is one of this crate where it has its name
pub change_of : (name : List ℕ) (row : Row) → is_some row.change ≡ true
    → is_change_of name row ≡ bytes_eq (string_bytes row.name) name
change_of name row is = ap (λ b. b && bytes_eq (string_bytes row.name) name) is

-- a row that does not change is a change of no crate
pub no_change_of : (name : List ℕ) (row : Row) → is_some row.change ≡ false → is_change_of name row ≡ false
no_change_of name row is = ap (λ b. b && bytes_eq (string_bytes row.name) name) is

-- ---- choices

by_item : (n : ℕ) (name : List ℕ) (i : RowItem)
    → (begins_by n n i || is_name_of name i) ≡ is_chosen_by i n name
by_item n name (item.Numbers first last) = or_false (nat_le first n && nat_le n last)
by_item n name (item.Name chosen) = refl

-- a row is chosen where the reach is its number or more, or its name is among the items
pub chosen_by_lookup : (items : List RowItem) (lookup : ItemLookup) (n reach : ℕ) (name : List ℕ)
    → IsLookupOf items lookup → IsReach items n reach → 0 < n
    → (nat_le n reach || has_name lookup.names name) ≡ list_any (λ i. is_chosen_by i n name) items
chosen_by_lookup items lookup n reach name of is some =
    ap (λ b. b || has_name lookup.names name) (is n some)
    ∙ ap (λ b. list_any (begins_by n n) items || b) (of.names name)
    ∙ any_or (begins_by n n) (is_name_of name) (λ i. is_chosen_by i n name) items (by_item n name)
