-- A node has the tree of a new entry where its names and children match.
use Rattle.std.proofs.Common.{◌≡◌, ℕ, zero, suc, Bool, true, false, cond, not, ◌||◌, List, [], ◌∷◌, ◌++◌, length, map, Option, Some, None, refl, sym, ap, ◌∙◌, append-nil, arith}
use Rattle.std.specs.Bool.{Decides}
use Rattle.std.specs.Prelude.{slice_get, option_map, option_and_then, find}
use Rattle.std.proofs.lemmas.Option.{same_Some, slice_get-map}
use Rattle.edit_tree.specs.Assertions.{Step, key, index, Place, at, same_bytes}
use Rattle.edit_tree.specs.Tree.{View, string, truth, whole, fractional, moment, static_array, table_array, inline_table, table}
use Rattle.edit_tree.specs.NewItems.{NewValue, NewItem, a_value, a_table}
use Rattle.edit_tree.specs.IntendedTrees.{new_view, view_of_members, item_view}
use Rattle.edit_tree.specs.DocumentViews.{DocumentViews, tree_of}
use Rattle.edit_document.specs.Items.{key_names, names_in, node_place, node_view, IsNodeIndex}
use Rattle.edit_document.specs.Compared.{kind_of, nth_part, AreSteps, AreKeys, AreApart, ShowsValue, ShowsMembers, ShowsItem, members_tree}
use Rattle.edit_tree.proofs.SamePlace.{same_bytes_self, same_bytes_is}
use Rattle.edit_document.proofs.SameParts.{one_down, NothingElse, NoneBelow}
use Rattle.edit_document.proofs.MemberViews.{names_keys}
use Rattle.edit_document.proofs.ShownValues.{new_some, shown_at, unshown_at}

-- a name and a new value
abbrev pub Pair : Type 0
Pair = List ℕ × NewValue

-- ---- the first pair of a name

-- where a name is found
pub found : (ms : List Pair) (n : List ℕ) (m : Pair) → find (λ x. same_bytes x.0 n) ms ≡ Some m
    → (i : ℕ) × (slice_get ms i ≡ Some m) × (m.0 ≡ n)
found [] n m e = absurd cc
found (x ∷ ms) n m e = go (same_bytes x.0 n) refl e (found ms n m)
  where
    go : (b : Bool) → same_bytes x.0 n ≡ b → cond b (Some x) (find (λ x. same_bytes x.0 n) ms) ≡ Some m
        → (find (λ x. same_bytes x.0 n) ms ≡ Some m → (i : ℕ) × (slice_get ms i ≡ Some m) × (m.0 ≡ n))
        → (i : ℕ) × (slice_get (x ∷ ms) i ≡ Some m) × (m.0 ≡ n)
    go true t e ih =
        let same : x ≡ m = same_Some x m e in
        (0, ap Some same, ap (λ (p : Pair). p.0) (sym same) ∙ same_bytes_is x.0 n t)
    go false t e ih = let r = ih e in (suc r.0, r.1, r.2)

same_self : (k n : List ℕ) → k ≡ n → same_bytes k n ≡ true
same_self k n same = ap (λ (b : List ℕ). same_bytes b n) same ∙ same_bytes_self n

missed : (ms : List Pair) (n : List ℕ) (i : ℕ) → find (λ x. same_bytes x.0 n) ms ≡ None
    → slice_get (map (λ (m : Pair). m.0) ms) i ≡ Some n → ⊥
missed [] n i e f = cc
missed (x ∷ ms) n i e f = go (same_bytes x.0 n) refl i e f (λ j. missed ms n j)
  where
    go : (b : Bool) → same_bytes x.0 n ≡ b → (i : ℕ) → cond b (Some x) (find (λ x. same_bytes x.0 n) ms)
        ≡ None
        → slice_get (map (λ (m : Pair). m.0) (x ∷ ms)) i ≡ Some n
        → ((j : ℕ) → find (λ x. same_bytes x.0 n) ms ≡ None
        → slice_get (map (λ (m : Pair). m.0) ms) j ≡ Some n → ⊥) → ⊥
    go true t i e f ih = cc
    go false t zero e f ih = let clash : false ≡ true = sym t ∙ same_self x.0 n (same_Some x.0 n f) in cc
    go false t (suc i) e f ih = ih i e f

-- names of which none stands twice
abbrev Once : List Pair → Type 0
Once ms = (i j : ℕ) (n : List ℕ) → slice_get (map (λ (m : Pair). m.0) ms) i ≡ Some n
    → slice_get (map (λ (m : Pair). m.0) ms) j ≡ Some n → i ≡ j

only : (ms : List Pair) (i : ℕ) (m : Pair) → Once ms → slice_get ms i ≡ Some m
    → find (λ x. same_bytes x.0 m.0) ms ≡ Some m
only ms i m once e = go (find (λ x. same_bytes x.0 m.0) ms) refl
  where
    name_of : (j : ℕ) (p : Pair) → slice_get ms j ≡ Some p
        → slice_get (map (λ (m : Pair). m.0) ms) j ≡ Some p.0
    name_of j p e = slice_get-map (λ (m : Pair). m.0) ms j ∙ ap (option_map (λ (m : Pair). m.0)) e

    go : (o : Option Pair) → find (λ x. same_bytes x.0 m.0) ms ≡ o
        → find (λ x. same_bytes x.0 m.0) ms ≡ Some m
    go None f = absurd (missed ms m.0 i f (name_of i m e))
    go (Some p) f =
        let r = found ms m.0 p f in
        let here : i ≡ r.0 = once i r.0 m.0 (name_of i m e) (name_of r.0 p r.1 ∙ ap Some r.2) in
        let same : m ≡ p = same_Some m p (sym e ∙ ap (slice_get ms) here ∙ r.1) in
        f ∙ ap Some (sym same)

-- ---- views

tables_is : (v : View) (b : Bool) (ns : List (List ℕ)) → AreKeys v → kind_of v ≡ cond b 8 9 → names_in v ≡ ns
    → v ≡ cond b (inline_table (map key ns)) (table (map key ns))
tables_is (inline_table ms) true ns keys k e = ap inline_table (keys ∙ ap (map key) e)
tables_is (table ms) false ns keys k e = ap table (keys ∙ ap (map key) e)
tables_is (inline_table ms) false ns keys k e = absurd cc
tables_is (table ms) true ns keys k e = absurd cc
tables_is (string s) true ns keys k e = absurd cc
tables_is (string s) false ns keys k e = absurd cc
tables_is (truth true) true ns keys k e = absurd cc
tables_is (truth true) false ns keys k e = absurd cc
tables_is (truth false) true ns keys k e = absurd cc
tables_is (truth false) false ns keys k e = absurd cc
tables_is (whole s) true ns keys k e = absurd cc
tables_is (whole s) false ns keys k e = absurd cc
tables_is (fractional s) true ns keys k e = absurd cc
tables_is (fractional s) false ns keys k e = absurd cc
tables_is (moment s) true ns keys k e = absurd cc
tables_is (moment s) false ns keys k e = absurd cc
tables_is (static_array n) true ns keys k e = absurd cc
tables_is (static_array n) false ns keys k e = absurd cc
tables_is (table_array n) true ns keys k e = absurd cc
tables_is (table_array n) false ns keys k e = absurd cc

steps_map : (ms : List Pair) → map (λ (m : Pair). key m.0) ms ≡ map key (map (λ (m : Pair). m.0) ms)
steps_map [] = refl
steps_map (m ∷ ms) = ap (λ (ss : List Step). key m.0 ∷ ss) (steps_map ms)

view_cond : (b : Bool) (ms : List Pair)
    → view_of_members b ms ≡ cond b (inline_table (map key (map (λ (m : Pair). m.0) ms)))
    (table (map key (map (λ (m : Pair). m.0) ms)))
view_cond true ms = ap inline_table (steps_map ms)
view_cond false ms = ap table (steps_map ms)

pub members_kind : (b : Bool) (ms : List Pair) → kind_of (view_of_members b ms) ≡ cond b 8 9
members_kind true ms = refl
members_kind false ms = refl

pub members_names : (b : Bool) (ms : List Pair) → names_in (view_of_members b ms) ≡ map (λ (m : Pair). m.0) ms
members_names true ms = ap key_names (steps_map ms) ∙ names_keys (map (λ (m : Pair). m.0) ms)
members_names false ms = ap key_names (steps_map ms) ∙ names_keys (map (λ (m : Pair). m.0) ms)

-- names that are those of pairs
same_names : (ms : List Pair) (ns : List (List ℕ)) → length ns ≡ length ms
    → ((i : ℕ) (m : Pair) → slice_get ms i ≡ Some m → slice_get ns i ≡ Some m.0)
    → ns ≡ map (λ (m : Pair). m.0) ms
same_names [] [] e h = refl
same_names [] (y ∷ ys) e h = absurd cc
same_names (m ∷ ms) [] e h = absurd cc
same_names (m ∷ ms) (y ∷ ys) e h =
    let head : y ≡ m.0 = same_Some y m.0 (h 0 m refl) in
    let tail : ys ≡ map (λ (m : Pair). m.0) ms = same_names ms ys (omega (arith, e))
    (λ i p f. h (suc i) p f) in
    ap (λ (n : List ℕ). n ∷ ys) head ∙ ap (λ (ns : List (List ℕ)). m.0 ∷ ns) tail

key_part : (ms : List Pair) (j : ℕ) (t : Step) → slice_get (map (λ (m : Pair). key m.0) ms) j ≡ Some t
    → (k : List ℕ) × (slice_get (map (λ (m : Pair). m.0) ms) j ≡ Some k) × (t ≡ key k)
key_part [] j t e = absurd cc
key_part (m ∷ ms) zero t e = (m.0, refl, sym (same_Some (key m.0) t e))
key_part (m ∷ ms) (suc j) t e = key_part ms j t e

-- ---- nodes

abbrev At : DocumentViews → ℕ → Type 0
At d n = tree_of d (node_place d n) ≡ Some (node_view d n)

-- a member of the node has the name of this pair, and its value
abbrev pub ShowsPair : DocumentViews → ℕ → ℕ → Pair → Type 0
ShowsPair d n i m =
    (slice_get (names_in (node_view d n)) i ≡ Some m.0)
    × ShowsValue d (at (node_place d n) (key m.0)) m.1

module _ (d : DocumentViews) (n : ℕ) (here : At d n) (b : Bool) (ms : List Pair) where
  pub members_view : ShowsMembers d (node_place d n) b ms → view_of_members b ms ≡ node_view d n
  members_view h =
      same_Some (view_of_members b ms) (node_view d n)
      (sym (h []) ∙ ap (tree_of d) (append-nil (node_place d n)) ∙ here)

  pub members_count : ShowsMembers d (node_place d n) b ms
      → names_in (node_view d n) ≡ map (λ (m : Pair). m.0) ms
  members_count h = ap names_in (sym (members_view h)) ∙ members_names b ms

  -- each member of a table of new values has its pair
  pub members_pair : AreApart (node_view d n) → (i : ℕ) (m : Pair)
      → ShowsMembers d (node_place d n) b ms
      → slice_get ms i ≡ Some m → ShowsPair d n i m
  members_pair distinct i m h e =
      let names = members_count h in
      let once : Once ms = λ i j k x y. distinct i j k
      (ap (λ (ns : List (List ℕ)). slice_get ns i) names ∙ x)
      (ap (λ (ns : List (List ℕ)). slice_get ns j) names ∙ y) in
      let first = only ms i m once e in (
        ap (λ (ns : List (List ℕ)). slice_get ns i) names ∙ slice_get-map (λ (m : Pair). m.0) ms i
            ∙ ap (option_map (λ (m : Pair). m.0)) e,
        λ q. one_down d (node_place d n) (key m.0) q ∙ h (key m.0 ∷ q)
            ∙ ap (λ (o : Option Pair). option_and_then (λ m. new_view m.1 q) o) first,
      )

  -- and a node whose members have the pairs is such a table
  pub members_show : NoneBelow d → NothingElse d n → AreKeys (node_view d n)
      → AreSteps (node_view d n)
      → kind_of (node_view d n) ≡ cond b 8 9 → length (names_in (node_view d n)) ≡ length ms
      → ((i : ℕ) (m : Pair) → slice_get ms i ≡ Some m → ShowsPair d n i m)
      → ShowsMembers d (node_place d n) b ms
  members_show below else keys steps kind count each = shows
    where
      names : names_in (node_view d n) ≡ map (λ (m : Pair). m.0) ms
      names = same_names ms (names_in (node_view d n)) count (λ i m e. (each i m e).0)

      view : node_view d n ≡ view_of_members b ms
      view = tables_is (node_view d n) b (map (λ (m : Pair). m.0) ms) keys kind names ∙
          sym (view_cond b ms)

      none : (t : Step) (q : Place) → ((j : ℕ) → nth_part (node_view d n) j ≡ Some t → ⊥)
          → tree_of d (node_place d n ++ t ∷ q) ≡ None
      none t q no_part = sym (one_down d (node_place d n) t q) ∙
          below (at (node_place d n) t) q (else t no_part)

      -- every part is a name
      named_part : (t : Step) (j : ℕ) → nth_part (node_view d n) j ≡ Some t
          → (k : List ℕ) × (slice_get (map (λ (m : Pair). m.0) ms) j ≡ Some k) × (t ≡ key k)
      named_part t j h = go b view
        where
          go : (b : Bool) → node_view d n ≡ view_of_members b ms
              → (k : List ℕ) × (slice_get (map (λ (m : Pair). m.0) ms) j ≡ Some k) × (t ≡ key k)
          go true v = key_part ms j t (ap (λ (w : View). nth_part w j) (sym v) ∙ h)
          go false v = key_part ms j t (ap (λ (w : View). nth_part w j) (sym v) ∙ h)

      member : (k : List ℕ) (q : Place) (o : Option Pair) → find (λ x. same_bytes x.0 k) ms ≡ o
          → tree_of d (node_place d n ++ key k ∷ q) ≡ option_and_then (λ m. new_view m.1 q) o
      member k q (Some m) e =
          let r = found ms k m e in
          sym (one_down d (node_place d n) (key k) q)
          ∙ ap (λ (j : List ℕ). tree_of d (at (node_place d n) (key j) ++ q)) (sym r.2) ∙
          (each r.0 m r.1).1 q
      member k q None e = none (key k) q (λ j h.
          let p = named_part (key k) j h in
          let same : p.0 ≡ k = (let s : key k ≡ key p.0 = p.2 in cc) in
          missed ms k j e (p.1 ∙ ap Some same))

      shows : ShowsMembers d (node_place d n) b ms
      shows [] = ap (tree_of d) (append-nil (node_place d n)) ∙ here ∙ ap Some view
      shows (key k ∷ q) =
          member k q (find (λ x. same_bytes x.0 k) ms) refl
      shows (index i ∷ q) = none (index i) q (λ j h. let p = named_part (index i) j h in
          let clash : index i ≡ key p.0 = p.2 in cc)

-- ---- entries

pub item_members : (inside by_dots : Bool) (ms : List Pair) (q : Place)
    → members_tree (inside || not by_dots) ms q ≡ item_view inside (a_table by_dots ms) q
item_members inside by_dots ms [] = refl
item_members inside by_dots ms (t ∷ q) = refl

pub shows_table : (d : DocumentViews) (p : Place) (inside by_dots b : Bool) (ms : List Pair) (r : Bool)
    → b ≡ (inside || not by_dots) → Decides r (ShowsMembers d p b ms)
    → Decides r (ShowsItem d p inside (a_table by_dots ms))
shows_table d p inside by_dots b ms r is decided = (
  λ t q. decided.0 t q ∙ ap (λ (c : Bool). members_tree c ms q) is ∙ item_members inside by_dots ms q,
  λ h. decided.1 (λ q. h q ∙ sym (item_members inside by_dots ms q) ∙
      ap (λ (c : Bool). members_tree c ms q) (sym is)),
)

-- something is shown at the place of an entry
pub item_some : (inside : Bool) (item : NewItem) → item_view inside item [] ≡ None → ⊥
item_some inside (a_value v) e = new_some v e
item_some inside (a_table by_dots ms) e = cc

-- ---- the parts of a member

abbrev Pairs : DocumentViews → Place → Option (List ℕ) → Pair → Type 0
Pairs d p o m = (o ≡ Some m.0) × ShowsValue d (at p (key m.0)) m.1

-- a member that is found
pub pair_found : (d : DocumentViews) (p : Place) (o : Option (List ℕ)) (m : Pair) (n : ℕ) (r : Bool)
    → o ≡ Some m.0
    → IsNodeIndex d (at p (key m.0)) (Some n) → Decides r (ShowsValue d (node_place d n) m.1)
    → Decides r (Pairs d p o m)
pair_found d p o m n r name numbers decided =
    let there : Decides r (ShowsValue d (at p (key m.0)) m.1) =
    shown_at d (at p (key m.0)) n m.1 r numbers decided in
    (λ t. (name, there.0 t), λ h. there.1 h.1)

-- and one that is not
pub pair_missed : (d : DocumentViews) (p : Place) (o : Option (List ℕ)) (m : Pair)
    → tree_of d (at p (key m.0)) ≡ None
    → Pairs d p o m → ⊥
pair_missed d p o m none h = unshown_at d (at p (key m.0)) m.1 none h.1
