-- The document that consists of a new entry has the tree of the entry.
use Rattle.std.proofs.Common.{◌≡◌, ℕ, zero, suc, ◌+◌, ◌<◌, Bool, true, false, cond, ◌||◌, List, [], ◌∷◌, length, map, Option, Some, None, refl, sym, ap, ◌∙◌, eq-eqb, arith}
use Rattle.std.specs.Prelude.{slice_get, option_map, option_and_then, find}
use Rattle.std.specs.List.{list_any, cons_option, filter_map, flat_map, range_with_len}
use Rattle.std.proofs.lemmas.List.Folds.{list_any-append}
use Rattle.edit_tree.specs.Assertions.{key, index, Place, same_bytes, same_place}
use Rattle.edit_tree.specs.Tree.{View, string}
use Rattle.edit_tree.specs.NewItems.{NewValue, a_string, a_truth, a_list, NewItem, a_value, a_table}
use Rattle.edit_tree.specs.IntendedTrees.{Tree, new_view, item_view}
use Rattle.edit_tree.specs.DocumentViews.{node_at, tree_of}
use Rattle.edit_document.specs.EntryParts.{value_places, entry_places, shown_place, entry_document}
use Rattle.edit_tree.proofs.SamePlace.{same_place_is}
use Rattle.edit_document.proofs.ShownItems.{Pair}

-- a place is among others
abbrev Among : Place → List Place → Type 0
Among q ps = list_any (λ p. same_place p q) ps ≡ true

-- ---- places with what a tree shows there

-- where the tree shows nothing they show nothing
shows_nothing : (t : Tree) (ps : List Place) (q : Place) → t q ≡ None
    → node_at (filter_map (shown_place t) ps) q ≡ None
shows_nothing t [] q e = refl
shows_nothing t (p ∷ ps) q e = go (same_place p q) (t p) refl refl (shows_nothing t ps q e)
  where
    go : (b : Bool) (o : Option View) → same_place p q ≡ b → t p ≡ o
        → node_at (filter_map (shown_place t) ps) q ≡ None
        → node_at (cons_option (option_map (λ v. (p, v)) o) (filter_map (shown_place t) ps)) q ≡ None
    go b None same is ih = ih
    go true (Some v) same is ih =
        let clash : None ≡ Some v = sym e ∙ sym (ap t (same_place_is p q same)) ∙ is in absurd cc
    go false (Some v) same is ih = rw same ih

-- at a place that is among them they show what the tree shows
shows_among : (t : Tree) (ps : List Place) (q : Place) → Among q ps
    → node_at (filter_map (shown_place t) ps) q ≡ t q
shows_among t [] q e = absurd cc
shows_among t (p ∷ ps) q e = go (same_place p q) (t p) refl refl e (shows_among t ps q)
  where
    go : (b : Bool) (o : Option View) → same_place p q ≡ b → t p ≡ o
        → (b || list_any (λ p. same_place p q) ps) ≡ true
        → (Among q ps → node_at (filter_map (shown_place t) ps) q ≡ t q)
        → node_at (cons_option (option_map (λ v. (p, v)) o) (filter_map (shown_place t) ps)) q ≡ t q
    go true (Some v) same is e ih = rw same (sym is ∙ ap t (same_place_is p q same))
    go true None same is e ih =
        let there : t p ≡ t q = ap t (same_place_is p q same) in
        shows_nothing t ps q (sym there ∙ is) ∙ sym is ∙ there
    go false (Some v) same is e ih = rw same (ih e)
    go false None same is e ih = ih e

-- ---- the places of an entry

or_right : (a b : Bool) → b ≡ true → (a || b) ≡ true
or_right true b e = refl
or_right false b e = e

within : (ss : List (List ℕ)) (i : ℕ) (v : View) → option_map string (slice_get ss i) ≡ Some v → i < length ss
within [] i v e = absurd cc
within (s ∷ ss) zero v e = omega arith
within (s ∷ ss) (suc i) v e = omega (arith, within ss i v e)

-- the element of a number is among so many
element_among : (a n i j : ℕ) → j ≡ a + i → i < n
    → Among (index j ∷ []) (map (λ k. index k ∷ []) (range_with_len a n))
element_among a zero i j e h = absurd (omega (arith, h))
element_among a (suc n) zero j e h = rw (eq-eqb a j (omega (arith, e))) refl
element_among a (suc n) (suc i) j e h =
    or_right (same_place (index a ∷ []) (index j ∷ [])) _
    (element_among (a + 1) n i j (omega (arith, e)) (omega (arith, h)))

-- where a new value shows something is one of its places
value_among : (x : NewValue) (q : Place) (v : View) → new_view x q ≡ Some v → Among q (value_places x)
value_among (a_string s) [] v e = refl
value_among (a_string s) (t ∷ q) v e = absurd cc
value_among (a_truth b) [] v e = refl
value_among (a_truth b) (t ∷ q) v e = absurd cc
value_among (a_list ss) [] v e = refl
value_among (a_list ss) (key n ∷ q) v e = absurd cc
value_among (a_list ss) (index i ∷ []) v e = element_among 0 (length ss) i i (omega arith) (within ss i v e)
value_among (a_list ss) (index i ∷ t ∷ q) v e = absurd cc

-- below a name are the places below it
under : (k n : List ℕ) (q : Place) (ps : List Place) → same_bytes k n ≡ true → Among q ps
    → Among (key n ∷ q) (map (λ r. key k ∷ r) ps)
under k n q [] same e = absurd cc
under k n q (p ∷ ps) same e = rw same (go (same_place p q) e (under k n q ps same))
  where
    go : (b : Bool) → (b || list_any (λ p. same_place p q) ps) ≡ true
        → (Among q ps → Among (key n ∷ q) (map (λ r. key k ∷ r) ps))
        → (b || list_any (λ p. same_place p (key n ∷ q)) (map (λ r. key k ∷ r) ps)) ≡ true
    go true e ih = refl
    go false e ih = ih e

-- where the members show something is a place of one of them
member_among : (ms : List Pair) (n : List ℕ) (q : Place) (v : View)
    → option_and_then (λ m. new_view m.1 q) (find (λ m. same_bytes m.0 n) ms) ≡ Some v
    → Among (key n ∷ q) (flat_map (λ m. map (λ r. key m.0 ∷ r) (value_places m.1)) ms)
member_among [] n q v e = absurd cc
member_among (m ∷ ms) n q v e =
    list_any-append (λ p. same_place p (key n ∷ q)) (map (λ r. key m.0 ∷ r) (value_places m.1)) _
    ∙ go (same_bytes m.0 n) refl e (member_among ms n q v)
  where
    others : List Place
    others = flat_map (λ m. map (λ r. key m.0 ∷ r) (value_places m.1)) ms

    go : (b : Bool) → same_bytes m.0 n ≡ b
        → option_and_then (λ m. new_view m.1 q) (cond b (Some m) (find (λ m. same_bytes m.0 n) ms)) ≡ Some v
        → (option_and_then (λ m. new_view m.1 q) (find (λ m. same_bytes m.0 n) ms) ≡ Some v
        → Among (key n ∷ q) others)
        → (list_any (λ p. same_place p (key n ∷ q)) (map (λ r. key m.0 ∷ r) (value_places m.1))
        || list_any (λ p. same_place p (key n ∷ q)) others) ≡ true
    go true same e ih = rw (under m.0 n q (value_places m.1) same (value_among m.1 q v e)) refl
    go false same e ih = or_right _ _ (ih e)

-- where a new entry shows something is one of its places
entry_among : (item : NewItem) (q : Place) (v : View) → item_view false item q ≡ Some v
    → Among q (entry_places item)
entry_among (a_value x) q v e = value_among x q v e
entry_among (a_table by_dots ms) [] v e = refl
entry_among (a_table by_dots ms) (index i ∷ q) v e = absurd cc
entry_among (a_table by_dots ms) (key n ∷ q) v e = member_among ms n q v e

-- ---- the entry as a document

-- it shows what the entry shows
pub entry_tree : (item : NewItem) (q : Place) → tree_of (entry_document item) q ≡ item_view false item q
unfolding entry_document
entry_tree item q = go (item_view false item q) refl
  where
    go : (o : Option View) → item_view false item q ≡ o
        → tree_of (entry_document item) q ≡ item_view false item q
    go None e = shows_nothing (item_view false item) (entry_places item) q e ∙ sym e
    go (Some v) e = shows_among (item_view false item) (entry_places item) q (entry_among item q v e)
