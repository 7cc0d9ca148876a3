-- Assertions after some leaves get other values and what was below these is removed.
use Rattle.std.proofs.Common.{◌≡◌, ℕ, suc, Bool, true, false, cond, List, [], ◌∷◌, ◌++◌, map, Option, None, Some, refl, sym, ap, ◌∙◌, subst, append_assoc}
use Rattle.std.proofs.lemmas.Bool.{or_left, or_right}
use Rattle.std.specs.List.{AllByRecursion}
use Rattle.edit_syntax.specs.Strings.{Key}
use Rattle.edit_syntax.specs.Grammar.{Value, basic, literal, multi_basic, multi_literal, boolean, integer, float, datetime, array, inline, Elements, no_elements, last_element, element, Members, no_members, last_member, member}
use Rattle.edit_tree.specs.EditBytes.{is_within}
use Rattle.edit_tree.specs.Assertions.{Place, key, index, at, same_place, Kind, leaf, Assertion, asserts, names, named, of_key, of_value, of_elements, of_members, of_pair, is_array}
use Rattle.edit_tree.specs.Tree.{view_of_value, count_elements, static_array}
use Rattle.edit_tree.specs.Literals.{literal_of}
use Rattle.edit_tree.specs.Replaces.{Edits, new_text, written_or, put, replaced_inside, replaced_elements, replaced_members, is_below, is_below_any}
use Rattle.edit_tree.proofs.SamePlaces.{within_same, below_at, within_at, within_named}
use Rattle.edit_syntax.proofs.Cases.{by_test}
use Rattle.edit_tree.proofs.SamePlace.{same_place_is}

abbrev pub is_leaf : Kind → Bool
is_leaf (leaf v) = true
is_leaf _ = false

-- the values show the same
abbrev pub SameView : Place → Value → Value → Type 0
SameView p v w = (made : List Assertion) → view_of_value made p v ≡ view_of_value made p w

-- the second value stands for the first: the literal where a text is to be written, else a value that shows
-- the same
pub record StandsFor (edits : Edits) (p : Place) (v w : Value) : Type 0 where
  pub unwritten : new_text edits p ≡ None → SameView p v w
  pub written : (said : List ℕ) → new_text edits p ≡ Some said → w ≡ literal_of said

pub data Thin (edits : Edits) : List Assertion → List Assertion → Type 0 where
  none : Thin edits [] []
  keep : (x : Assertion) (xs ys : List Assertion) → is_leaf x.kind ≡ false → Thin edits xs ys
      → Thin edits (x ∷ xs) (x ∷ ys)
  swap : (by p : Place) (v w : Value) (xs ys : List Assertion) → StandsFor edits p v w → Thin edits xs ys
      → Thin edits (asserts by p (leaf v) ∷ xs) (asserts by p (leaf w) ∷ ys)
  lose : (x : Assertion) (xs ys : List Assertion) → is_below_any edits x.place ≡ true
      → is_array x.kind ≡ false → Thin edits xs ys → Thin edits (x ∷ xs) ys

abbrev pub HasNoLeaf : List Assertion → Type 0
HasNoLeaf xs = AllByRecursion (λ x. is_leaf x.kind ≡ false) xs

pub thin_same : (edits : Edits) (xs : List Assertion) → HasNoLeaf xs → Thin edits xs xs
thin_same edits [] h = none
thin_same edits (x ∷ xs) h = keep x xs xs h.0 (thin_same edits xs h.1)

pub thin_append : (edits : Edits) (xs ys us vs : List Assertion) → Thin edits xs ys → Thin edits us vs
    → Thin edits (xs ++ us) (ys ++ vs)
thin_append edits xs ys us vs none more = more
thin_append edits xs ys us vs (keep x ps qs n t) more = keep x _ _ n (thin_append edits ps qs us vs t more)
thin_append edits xs ys us vs (swap by p v w ps qs e t) more =
    swap by p v w _ _ e (thin_append edits ps qs us vs t more)
thin_append edits xs ys us vs (lose x ps qs b k t) more =
    lose x _ _ b k (thin_append edits ps qs us vs t more)

-- ---- what a value asserts lies below it

data Lost (target : Place) : List Assertion → Type 0 where
  no_more : Lost target []
  one_more : (x : Assertion) (xs : List Assertion) → is_below target x.place ≡ true → is_array x.kind ≡ false
      → Lost target xs → Lost target (x ∷ xs)

lost_append : (target : Place) (xs ys : List Assertion) → Lost target xs → Lost target ys
    → Lost target (xs ++ ys)
lost_append target xs ys no_more more = more
lost_append target xs ys (one_more x zs b k l) more = one_more x _ b k (lost_append target zs ys l more)

lost_key : (target : Place) (w : Bool) (by p : Place) (ns : List (List ℕ)) (v : Value)
    → is_within target p ≡ true → Lost target (of_key w by p ns v)
lost_key target w by p [] v e = no_more
lost_key target w by p (n ∷ []) v e = one_more _ [] (below_at target p (key n) e) refl no_more
lost_key target w by p (n ∷ m ∷ ns) v e = one_more _ _ (below_at target p (key n) e) refl
    (lost_key target w by (at p (key n)) (m ∷ ns) v (within_at target p (key n) e))

mutual
  lost_value : (target p : Place) (v : Value) → is_within target p ≡ true → Lost target (of_value p v)
  lost_value target p (basic ps) e = no_more
  lost_value target p (literal text) e = no_more
  lost_value target p (multi_basic ps) e = no_more
  lost_value target p (multi_literal ps) e = no_more
  lost_value target p (boolean b) e = no_more
  lost_value target p (integer n) e = no_more
  lost_value target p (float f) e = no_more
  lost_value target p (datetime d) e = no_more
  lost_value target p (array g es) e = lost_elements target p 0 es e
  lost_value target p (inline g ms) e = lost_members target p ms e

  lost_elements : (target p : Place) (i : ℕ) (es : Elements) → is_within target p ≡ true
      → Lost target (of_elements p i es)
  lost_elements target p i no_elements e = no_more
  lost_elements target p i (last_element v g) e = one_more _ _ (below_at target p (index i) e) refl
      (lost_value target (at p (index i)) v (within_at target p (index i) e))
  lost_elements target p i (element v g h es) e =
      one_more _ _ (below_at target p (index i) e) refl
      (lost_append target _ _ (lost_value target (at p (index i)) v (within_at target p (index i) e))
      (lost_elements target p (suc i) es e))

  lost_members : (target p : Place) (ms : Members) → is_within target p ≡ true → Lost target (of_members p ms)
  lost_members target p no_members e = no_more
  lost_members target p (last_member k a b v c) e =
      lost_append target _ _ (lost_key target true (named p (names k)) p (names k) v e)
      (lost_value target (named p (names k)) v (within_named target p (names k) e))
  lost_members target p (member k a b v c d ms) e =
      lost_append target _ _
      (lost_append target _ _ (lost_key target true (named p (names k)) p (names k) v e)
      (lost_value target (named p (names k)) v (within_named target p (names k) e)))
      (lost_members target p ms e)

-- ---- where a text is written, what stood below is gone

pub edited_below : (edits : Edits) (p q : Place) (said : List ℕ) → new_text edits p ≡ Some said
    → is_below p q ≡ true → is_below_any edits q ≡ true
edited_below [] p q said e low = absurd cc
edited_below (x ∷ edits) p q said e low =
    by_test (same_place x.0 p)
    (λ h. or_left (is_below x.0 q) (is_below_any edits q) (ap (λ r. is_below r q) (same_place_is x.0 p h) ∙
    low))
    (λ h. or_right (is_below x.0 q) (is_below_any edits q)
    (edited_below edits p q said (sym (ap (λ c. cond c (Some x.1) (new_text edits p)) h) ∙ e) low))

thin_lost : (edits : Edits) (p : Place) (said : List ℕ) (xs : List Assertion) → new_text edits p ≡ Some said
    → Lost p xs → Thin edits xs []
thin_lost edits p said xs e no_more = none
thin_lost edits p said xs e (one_more x zs b k l) = lose x zs [] (edited_below edits p x.place said e b) k
    (thin_lost edits p said zs e l)

thin_put : (edits : Edits) (p : Place) (v u : Value) → Thin edits (of_value p v) (of_value p u)
    → Thin edits (of_value p v) (of_value p (put literal_of edits p u))
thin_put edits p v u t = go (new_text edits p) refl
  where
    go : (o : Option (List ℕ)) → new_text edits p ≡ o
        → Thin edits (of_value p v) (of_value p (written_or literal_of o u))
    go None e = t
    go (Some said) e = thin_lost edits p said (of_value p v) e (lost_value p p v (within_same p))

stands_put : (edits : Edits) (p : Place) (v u : Value) → SameView p v u
    → StandsFor edits p v (put literal_of edits p u)
stands_put edits p v u same =
    record { unwritten = unwritten (new_text edits p); written = literal_there (new_text edits p) }
  where
    unwritten : (o : Option (List ℕ)) → o ≡ None → SameView p v (written_or literal_of o u)
    unwritten None e = same
    unwritten (Some said) e = absurd cc

    literal_there : (o : Option (List ℕ)) (said : List ℕ) → o ≡ Some said
        → written_or literal_of o u ≡ literal_of said
    literal_there None said e = absurd cc
    literal_there (Some new) said e = let is : new ≡ said = cc in ap literal_of is

-- ---- a value that is replaced inside shows the same

same_count : (edits : Edits) (p : Place) (i : ℕ) (es : Elements)
    → count_elements es ≡ count_elements (replaced_elements literal_of edits p i es)
same_count edits p i no_elements = refl
same_count edits p i (last_element v g) = refl
same_count edits p i (element v g h es) = ap suc (same_count edits p (suc i) es)

same_inside : (edits : Edits) (p : Place) (v : Value) → SameView p v (replaced_inside literal_of edits p v)
same_inside edits p (basic ps) made = refl
same_inside edits p (literal text) made = refl
same_inside edits p (multi_basic ps) made = refl
same_inside edits p (multi_literal ps) made = refl
same_inside edits p (boolean b) made = refl
same_inside edits p (integer n) made = refl
same_inside edits p (float f) made = refl
same_inside edits p (datetime d) made = refl
same_inside edits p (array g es) made = ap static_array (same_count edits p 0 es)
same_inside edits p (inline g ms) made = refl

stands_replaced : (edits : Edits) (p : Place) (v : Value)
    → StandsFor edits p v (put literal_of edits p (replaced_inside literal_of edits p v))
stands_replaced edits p v = stands_put edits p v (replaced_inside literal_of edits p v)
    (same_inside edits p v)

-- ---- a replaced value thins the assertions

thin_key : (edits : Edits) (w : Bool) (by p : Place) (ns : List (List ℕ)) (u v : Value)
    → StandsFor edits (named p ns) u v → Thin edits (of_key w by p ns u) (of_key w by p ns v)
thin_key edits w by p [] u v e = none
thin_key edits w by p (n ∷ []) u v e = swap by (at p (key n)) u v [] [] e none
thin_key edits w by p (n ∷ m ∷ ns) u v e = keep _ _ _ refl
    (thin_key edits w by (at p (key n)) (m ∷ ns) u v
    (subst (λ q. StandsFor edits q u v) (sym (append_assoc p (key n ∷ []) (map key (m ∷ ns)))) e))

mutual
  thin_inside : (edits : Edits) (p : Place) (v : Value)
      → Thin edits (of_value p v) (of_value p (replaced_inside literal_of edits p v))
  thin_inside edits p (basic ps) = none
  thin_inside edits p (literal text) = none
  thin_inside edits p (multi_basic ps) = none
  thin_inside edits p (multi_literal ps) = none
  thin_inside edits p (boolean b) = none
  thin_inside edits p (integer n) = none
  thin_inside edits p (float f) = none
  thin_inside edits p (datetime d) = none
  thin_inside edits p (array g es) = thin_elements edits p 0 es
  thin_inside edits p (inline g ms) = thin_members edits p ms

  thin_elements : (edits : Edits) (p : Place) (i : ℕ) (es : Elements)
      → Thin edits (of_elements p i es) (of_elements p i (replaced_elements literal_of edits p i es))
  thin_elements edits p i no_elements = none
  thin_elements edits p i (last_element v g) =
      let q = at p (index i) in
      swap q q v (put literal_of edits q (replaced_inside literal_of edits q v)) _ _
      (stands_replaced edits q v)
      (thin_put edits q v (replaced_inside literal_of edits q v) (thin_inside edits q v))
  thin_elements edits p i (element v g h es) =
      let q = at p (index i) in
      swap q q v (put literal_of edits q (replaced_inside literal_of edits q v)) _ _
      (stands_replaced edits q v)
      (thin_append edits _ _ _ _
      (thin_put edits q v (replaced_inside literal_of edits q v) (thin_inside edits q v))
      (thin_elements edits p (suc i) es))

  thin_members : (edits : Edits) (p : Place) (ms : Members)
      → Thin edits (of_members p ms) (of_members p (replaced_members literal_of edits p ms))
  thin_members edits p no_members = none
  thin_members edits p (last_member k a b v c) =
      let q = named p (names k) in
      thin_append edits _ _ _ _ (thin_key edits true q p (names k) v _ (stands_replaced edits q v))
      (thin_put edits q v (replaced_inside literal_of edits q v) (thin_inside edits q v))
  thin_members edits p (member k a b v c d ms) =
      let q = named p (names k) in
      thin_append edits _ _ _ _
      (thin_append edits _ _ _ _ (thin_key edits true q p (names k) v _ (stands_replaced edits q v))
      (thin_put edits q v (replaced_inside literal_of edits q v) (thin_inside edits q v)))
      (thin_members edits p ms)

pub thin_pair : (edits : Edits) (p : Place) (k : Key) (v : Value)
    → Thin edits (of_pair p k v)
    (of_pair p k (put literal_of edits (named p (names k))
    (replaced_inside literal_of edits (named p (names k)) v)))
thin_pair edits p k v =
    let q = named p (names k) in
    thin_append edits _ _ _ _ (thin_key edits false q p (names k) v _ (stands_replaced edits q v))
    (thin_put edits q v (replaced_inside literal_of edits q v) (thin_inside edits q v))
