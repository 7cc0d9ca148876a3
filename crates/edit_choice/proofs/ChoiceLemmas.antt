-- Rows of which the chosen ones change.
use Rattle.std.proofs.Common.{subst, suc, string_bytes, ◌≡◌, ◌∷◌, [], ◌++◌, ◌+◌, ◌<◌, ◌≤◌, ◌∙◌, List, Bool, true, false, ℕ, Option, Some, None, ap, arith, refl, not, length, sym, take, get_or}
use Rattle.std.specs.Prelude.{◌&&◌, Vec, filter, if◌then◌else◌, is_some, option_to_list}
use Rattle.std.specs.declared.alloc.Global.{Global}
use Rattle.std.specs.List.{filter_map, list_any}
use Rattle.std.proofs.lemmas.List.{length-append, take_more}
use Rattle.std.proofs.lemmas.List.Elements.{filter-append, filter_map-append}
use Rattle.std.proofs.lemmas.Grind.{common_steps}
use Rattle.edit_report.specs.declared.row.Row.{Row}
use Rattle.edit_choice.specs.declared.items.RowChoice.{RowChoice}
use Rattle.edit_choice.specs.declared.items.RowChoice.TheVariants as choice
use Rattle.edit_choice.specs.ChosenRows.{AreChosenFrom, IsTaken, IsUnchanged, count_changes}
use Rattle.edit_choice.specs.Choices.{is_chosen, is_chosen_by}
use Rattle.edit_choice.specs.declared.items.RowItem.{RowItem}

taken_same : (b : Bool) (row : Row) → IsTaken (b && not true) row row
taken_same true row = refl
taken_same false row = refl

-- `all` leaves each row
pub all_chosen : (n : ℕ) (rows : List Row) → AreChosenFrom choice.All n rows rows
all_chosen n [] = tt
all_chosen n (row ∷ rows) = (taken_same (is_some row.change) row, all_chosen _ rows)

-- one more element that gives a text
pub texts_more : {X : Type 0} (h : X → Option (List ℕ)) (xs : List X) (i : ℕ) (d : X) (y : List ℕ)
    (ys : List (List ℕ)) → i < length xs → ys ≡ filter_map h (take i xs) → h (get_or xs i d) ≡ Some y
    → ys ++ y ∷ [] ≡ filter_map h (take (i + 1) xs)
texts_more h xs i d y ys lt so_far gives =
    grind (arith, common_steps, take_more xs i d lt, filter_map-append h (take i xs) (get_or xs i d ∷ []))

-- one more element that gives none
pub texts_same : {X : Type 0} (h : X → Option (List ℕ)) (xs : List X) (i : ℕ) (d : X)
    (ys : List (List ℕ)) → i < length xs → ys ≡ filter_map h (take i xs) → h (get_or xs i d) ≡ None
    → ys ≡ filter_map h (take (i + 1) xs)
texts_same h xs i d ys lt so_far gives =
    grind (arith, common_steps, take_more xs i d lt, filter_map-append h (take i xs) (get_or xs i d ∷ []))

-- one more row that is numbered if it changes
shift : (b : Bool) (n : ℕ) (row : Row) (rows : List Row)
    → n + length (if b then row ∷ rows else rows) ≡ (if b then suc n else n) + length rows
shift true n row rows = omega arith
shift false n row rows = refl

-- one more row, of which the number is known
pub chosen_more : (chosen : RowChoice) (n : ℕ) (rows after : List Row) (row a : Row)
    → AreChosenFrom chosen n rows after
    → IsTaken (is_some row.change && not (is_chosen chosen (n + count_changes rows + 1)
    (string_bytes row.name))) row a
    → AreChosenFrom chosen n (rows ++ row ∷ []) (after ++ a ∷ [])
chosen_more chosen n [] [] row a so_far taken =
    let same : n + 0 + 1 ≡ suc n = omega arith in (
      subst (λ k. IsTaken (is_some row.change && not (is_chosen chosen k (string_bytes row.name))) row a) same
          taken,
      tt,
    )
chosen_more chosen n (r ∷ rows) [] row a so_far taken = absurd so_far
chosen_more chosen n [] (b ∷ after) row a so_far taken = absurd so_far
chosen_more chosen n (r ∷ rows) (b ∷ after) row a so_far taken = (
  so_far.0,
  chosen_more chosen (if is_some r.change then suc n else n) rows after row a so_far.1
      (subst (λ k. IsTaken (is_some row.change && not (is_chosen chosen (k + 1) (string_bytes row.name))) row a)
      (shift (is_some r.change) n r (filter (λ x. is_some x.change) rows)) taken),
)

-- a row without a change stays
pub stays : (b x : Bool) (row : Row) → b ≡ false → IsTaken (b && not x) row row
stays true x row is = absurd (cc is)
stays false x row is = refl

-- a chosen row stays
pub stays_chosen : (b x : Bool) (row : Row) → x ≡ true → IsTaken (b && not x) row row
stays_chosen true true row is = refl
stays_chosen true false row is = absurd (cc is)
stays_chosen false x row is = refl

-- the change of a row that is not chosen is taken back
pub taken_back : (b x : Bool) (row a : Row) → b ≡ true → x ≡ false → IsUnchanged row a
    → IsTaken (b && not x) row a
taken_back true true row a b_is is now = absurd (cc is)
taken_back true false row a b_is is now = now
taken_back false x row a b_is is now = absurd (cc b_is)

-- a choice of items chooses a row as these do
pub chosen_by : (chosen : RowChoice) (items : List RowItem) (v : Vec RowItem Global) (n m : ℕ) (name other : List ℕ)
    → chosen ≡ choice.Items v → items ≡ v.items → n ≡ m → name ≡ other
    → list_any (λ i. is_chosen_by i n name) items ≡ is_chosen chosen m other
chosen_by chosen items v n m name other is items_is n_is name_is =
    ap (λ xs. list_any (λ i. is_chosen_by i n name) xs) items_is
    ∙ ap (λ k. list_any (λ i. is_chosen_by i k name) v.items) n_is
    ∙ ap (λ t. list_any (λ i. is_chosen_by i m t) v.items) name_is
    ∙ ap (λ ch. is_chosen ch m other) (sym is)

count_is : (rows : List Row) (row : Row)
    → count_changes (rows ++ row ∷ []) ≡ count_changes rows + count_changes (row ∷ [])
count_is rows row = ap length (filter-append (λ x. is_some x.change) rows (row ∷ []))
    ∙ length-append (filter (λ x. is_some x.change) rows) (filter (λ x. is_some x.change) (row ∷ []))

count_one : (b : Bool) (row : Row) → b ≡ true → length (if b then row ∷ [] else []) ≡ 1
count_one true row is = refl
count_one false row is = absurd (cc is)

count_none : (b : Bool) (row : Row) → b ≡ false → length (if b then row ∷ [] else []) ≡ 0
count_none true row is = absurd (cc is)
count_none false row is = refl

-- one more row that changes
pub count_change : (rows : List Row) (row : Row) → is_some row.change ≡ true
    → count_changes (rows ++ row ∷ []) ≡ count_changes rows + 1
count_change rows row is =
    count_is rows row ∙ ap (λ n. count_changes rows + n) (count_one (is_some row.change) row is)

-- one more row that does not change
pub count_no_change : (rows : List Row) (row : Row) → is_some row.change ≡ false
    → count_changes (rows ++ row ∷ []) ≡ count_changes rows
count_no_change rows row is =
    count_is rows row ∙ ap (λ n. count_changes rows + n) (count_none (is_some row.change) row is) ∙ omega arith

few : (b : Bool) (n : ℕ) (row : Row) (rows : List Row) → length rows ≤ n
    → length (if b then row ∷ rows else rows) ≤ n + 1
few true n row rows le = omega (arith, le)
few false n row rows le = omega (arith, le)

count_le : (rows : List Row) → count_changes rows ≤ length rows
count_le [] = omega arith
count_le (row ∷ rows) =
    let le = few (is_some row.change) (length rows) row (filter (λ x. is_some x.change) rows) (count_le rows) in
    omega (arith, le)

-- no more rows change than there are
pub few_changes : (passed rest all : List Row) → passed ++ rest ≡ all → count_changes passed ≤ length all
few_changes passed rest all is =
    let le = count_le passed in
    let len = length-append passed rest in
    let same = ap length is in
    omega (arith, le, len, same)
