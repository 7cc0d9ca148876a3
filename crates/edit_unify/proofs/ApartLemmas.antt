-- The names that were found for the rows so far, after one more row.
use Rattle.std.proofs.Common.{◌≡◌, ◌∷◌, ◌++◌, ◌<◌, ◌+◌, ◌∙◌, [], List, ℕ, Bool, true, false, Option, None, Some, ap, append-nil, get_or, length, map, refl, sym, take}
use Rattle.std.specs.Prelude.{◌||◌, String, if◌then◌else◌, string_bytes}
use Rattle.std.specs.BTreeMap.{is_at}
use Rattle.std.specs.Cmp.Lexicographic.{slice_cmp}
use Rattle.std.specs.List.{cons_option, filter_map, list_any}
use Rattle.std.specs.Ordering.{nat_cmp}
use Rattle.std.specs.Str.{bytes_eq}
use Rattle.std.proofs.lemmas.List.{map_push, take_more}
use Rattle.std.proofs.lemmas.List.Elements.{filter_map-append}
use Rattle.std.proofs.lemmas.List.Folds.{list_any-append}
use Rattle.std.proofs.lemmas.Map.Text.{is_eq-slice_cmp}
use Rattle.std.proofs.lemmas.Slice.Eq.{bytes_eq-Decides}
use Rattle.edit_unify.specs.Stands.{Required}

or_if : (a w : Bool) → (w || (a || false)) ≡ (if a then true else w)
or_if true true = refl
or_if true false = refl
or_if false true = refl
or_if false false = refl

true_false : true ≡ false → ⊥
true_false h = cc h

swap_by : (a b : List ℕ) (s t : Bool) → bytes_eq a b ≡ s → bytes_eq b a ≡ t → s ≡ t
swap_by a b true true x y = refl
swap_by a b false false x y = refl
swap_by a b true false x y =
    absurd (true_false (sym ((bytes_eq-Decides b a).1 (sym ((bytes_eq-Decides a b).0 x))) ∙ y))
swap_by a b false true x y =
    absurd (true_false (sym ((bytes_eq-Decides a b).1 (sym ((bytes_eq-Decides b a).0 y))) ∙ x))

pub same_swap : (a b : List ℕ) → bytes_eq a b ≡ bytes_eq b a
same_swap a b = swap_by a b (bytes_eq a b) (bytes_eq b a) refl refl

names_more : {X : Type 0} (v : X → Option Required) (h : Option Required → Option (List ℕ)) (xs : List X) (i : ℕ)
    (d : X) → i < length xs
    → filter_map h (map v (take (i + 1) xs))
    ≡ filter_map h (map v (take i xs)) ++ cons_option (h (v (get_or xs i d))) []
names_more v h xs i d lt =
    ap (λ ys. filter_map h (map v ys)) (take_more xs i d lt)
    ∙ ap (filter_map h) (map_push v (take i xs) (get_or xs i d))
    ∙ filter_map-append h (map v (take i xs)) (v (get_or xs i d) ∷ [])

-- a row that gives no name
pub set_same : {X : Type 0} (v : X → Option Required) (h : Option Required → Option (List ℕ)) (xs : List X) (i : ℕ)
    (d : X) → i < length xs → h (v (get_or xs i d)) ≡ None → (was : List ℕ → Bool)
    → ((q : List ℕ) → was q ≡ list_any (bytes_eq q) (filter_map h (map v (take i xs))))
    → (q : List ℕ) → was q ≡ list_any (bytes_eq q) (filter_map h (map v (take (i + 1) xs)))
set_same v h xs i d lt none was before q =
    let names = filter_map h (map v (take i xs)) in
    before q
    ∙ sym (ap (list_any (bytes_eq q)) (names_more v h xs i d lt
    ∙ ap (λ (o : Option (List ℕ)). names ++ cons_option o []) none ∙ append-nil names))

-- a row that gives a name, which was added
pub set_more : {X : Type 0} (v : X → Option Required) (h : Option Required → Option (List ℕ)) (xs : List X) (i : ℕ)
    (d : X) (name : List ℕ) → i < length xs → h (v (get_or xs i d)) ≡ Some name → (was now : List ℕ → Bool)
    → ((q : List ℕ) → was q ≡ list_any (bytes_eq q) (filter_map h (map v (take i xs))))
    → ((q : List ℕ) → now q ≡ (if bytes_eq name q then true else was q))
    → (q : List ℕ) → now q ≡ list_any (bytes_eq q) (filter_map h (map v (take (i + 1) xs)))
set_more v h xs i d name lt one was now before added q =
    let names = filter_map h (map v (take i xs)) in
    added q ∙ ap (λ (b : Bool). if bytes_eq name q then true else b) (before q)
    ∙ sym (ap (list_any (bytes_eq q)) (names_more v h xs i d lt
    ∙ ap (λ (o : Option (List ℕ)). names ++ cons_option o []) one)
    ∙ list_any-append (bytes_eq q) names (name ∷ [])
    ∙ ap (λ (b : Bool). list_any (bytes_eq q) names || (b || false)) (same_swap q name)
    ∙ or_if (bytes_eq name q) (list_any (bytes_eq q) names))

-- whether a text is among texts, by a set of them
pub text_any : {Y : Type 0} (name : List ℕ) (ks : List (String Y))
    → list_any (bytes_eq name) (map string_bytes ks) ≡ list_any
    (is_at (λ (k : String Y). slice_cmp nat_cmp name (string_bytes k))) ks
text_any name [] = refl
text_any name (k ∷ ks) =
    ap (λ (b : Bool). b || list_any (bytes_eq name) (map string_bytes ks))
    (sym (is_eq-slice_cmp name (string_bytes k)))
    ∙ ap (λ (b : Bool). is_at (λ x. slice_cmp nat_cmp name (string_bytes x)) k || b) (text_any name ks)
