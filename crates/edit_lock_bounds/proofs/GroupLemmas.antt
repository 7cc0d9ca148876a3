-- What maps by names have at a name, by a view of their items.
use Rattle.std.proofs.Common.{◌≡◌, ◌∷◌, ◌++◌, ◌+◌, ◌<◌, ◌∙◌, ◌≤◌, [], get_or, Bor, Bool, List, ℕ, Option, Some, None, ap, inl, inr, length, map, refl, sym, take}
use Rattle.std.specs.Prelude.{Vec}
use Rattle.std.specs.BTreeMap.{BTreeMap, get_by}
use Rattle.std.specs.Cmp.Lexicographic.{slice_cmp}
use Rattle.std.specs.List.{filter}
use Rattle.std.specs.Option.{option_map_or}
use Rattle.std.specs.Ordering.{nat_cmp}
use Rattle.std.specs.declared.alloc.Global.{Global}
use Rattle.std.proofs.lemmas.Bool.{cases_Bool}
use Rattle.std.proofs.lemmas.List.{map-append, take_all, take_more}
use Rattle.edit_lock_bounds.specs.Views.{items_at}

-- a function after another one on a list
pub map-after : {X Y Z : Type 0} (f : Y → Z) (view : X → Y) (xs : List X)
    → map (λ x. f (view x)) xs ≡ map f (map view xs)
map-after f view [] = refl
map-after f view (x ∷ xs) = ap (λ ys. f (view x) ∷ ys) (map-after f view xs)

-- what is kept of a list by a view of its elements
pub map-kept : {X Y : Type 0} (view : X → Y) (test : Y → Bool) (xs : List X)
    → map view (filter (λ x. test (view x)) xs) ≡ filter test (map view xs)
map-kept view test [] = refl
map-kept view test (x ∷ xs) = elim (cases_Bool (test (view x))) [
  | inl stays ↦ rw stays (ap (λ ys. view x ∷ ys) (map-kept view test xs))
  | inr drops ↦ rw drops (map-kept view test xs)
]

found-after : {X Y Z : Type 0} (f : Y → Z) (view : X → Y) (o : Option (Vec X Global))
    → option_map_or (λ g. map (λ x. f (view x)) g.items) o []
    ≡ map f (option_map_or (λ g. map view g.items) o [])
found-after f view None = refl
found-after f view (Some g) = map-after f view g.items

-- what a map has at a name, by a function after a view
pub items-after : {X Y Z : Type 0} (f : Y → Z) (view : X → Y) (groups : BTreeMap (Bor (List ℕ)) (Vec X Global))
    (name : List ℕ) → items_at (λ x. f (view x)) groups name ≡ map f (items_at view groups name)
items-after f view groups name = found-after f view (get_by (λ k. slice_cmp nat_cmp name k.now) groups)

-- the elements of a list by which a map has items at a name, once the list is at its end
pub kept-all : {X Y : Type 0} (view : X → Y) (test : Y → Bool) (xs : List X) (i : ℕ) → length xs ≤ i
    → map view (filter (λ x. test (view x)) (take i xs)) ≡ filter test (map view xs)
kept-all {X} view test xs i end =
    map-kept view test (take i xs) ∙ ap (λ (ys : List X). filter test (map view ys)) (take_all i xs end)

-- what a function gives of one more of a list's elements
pub mapped-more : {X Y : Type 0} (f : X → Y) (xs : List X) (i : ℕ) (x : X) → i < length xs → x ≡ get_or xs i x
    → map f (take (i + 1) xs) ≡ map f (take i xs) ++ f x ∷ []
mapped-more {X} f xs i x h e =
    ap (map f) (take_more xs i x h ∙ ap (λ (y : X). take i xs ++ y ∷ []) (sym e))
    ∙ map-append f (take i xs) (x ∷ [])
