-- The model nodes of the assertions of a text have its tree.
use Rattle.std.proofs.Common.{◌≡◌, ℕ, ◌<◌, Bool, true, false, cond, not, List, [], ◌∷◌, length, Option, Some, None, is_some, refl, sym, ap, subst, ◌∙◌}
use Rattle.std.specs.Prelude.{map, option_map, slice_get}
use Rattle.std.specs.List.{AllByRecursion, filter}
use Rattle.edit_syntax.specs.Grammar.{Value, basic, literal, multi_basic, multi_literal, boolean, integer, float, datetime, array, inline, Between, Elements}
use Rattle.edit_tree.specs.Assertions.{Step, key, index, Place, at, same_step, Kind, dotted, leaf, super, header_kind, array_kind, element_kind, Assertion, elements_at}
use Rattle.edit_tree.specs.Tree.{once, members_of, View, static_array, count_elements, inline_table, table, table_array, view_of_value, view_of_kind, kind_at, view_in}
use Rattle.edit_tree.specs.DocumentViews.{node_at}
use Rattle.edit_document.specs.Items.{key_names}
use Rattle.edit_document.specs.DocumentLayout.{shape_of_value, Placed}
use Rattle.edit_tree.specs.Nodes.{ModelNode, names_of, view_of_shape, model_node_view}
use Rattle.edit_tree.proofs.SamePlace.{same_step_self}
use Rattle.edit_tree.proofs.MoreAssertions.{first_kind, first_is}
use Rattle.edit_tree.proofs.MoreMembers.{is_headed, steps, has, has_step}
use Rattle.edit_document.proofs.AssertedModels.{Lists, shape_of_kind, Tells, Stands}
use Rattle.edit_document.proofs.Arrays.{elements_full}
use Rattle.edit_tree.proofs.ArrayCounts.{IsEven}
use Rattle.edit_document.proofs.Views.{node_first, node_none}
use Rattle.edit_syntax.proofs.Cases.{or_false}

-- ---- the members of a table are keys

abbrev IsKeyStep : Step → Type 0
IsKeyStep (key n) = Unit {0}
IsKeyStep (index i) = ⊥

all_filter : (test : Step → Bool) (xs : List Step) → AllByRecursion IsKeyStep xs
    → AllByRecursion IsKeyStep (filter test xs)
all_filter test [] h = tt
all_filter test (x ∷ xs) h = go (test x) (all_filter test xs h.1)
  where
    go : (b : Bool) → AllByRecursion IsKeyStep (filter test xs)
        → AllByRecursion IsKeyStep (cond b (x ∷ filter test xs) (filter test xs))
    go true ih = (h.0, ih)
    go false ih = ih

all_once : (xs : List Step) → AllByRecursion IsKeyStep xs → AllByRecursion IsKeyStep (once xs)
all_once [] h = tt
all_once (x ∷ xs) h = (h.0, all_filter (λ t. not (same_step x t)) (once xs) (all_once xs h.1))

all_keys : (xs : List Step) → ((i : ℕ) → has (index i) xs ≡ false) → AllByRecursion IsKeyStep xs
all_keys [] h = tt
all_keys (key n ∷ xs) h =
    (tt, all_keys xs (λ i. (or_false (same_step (key n) (index i)) (has (index i) xs) (h i)).1))
all_keys (index j ∷ xs) h =
    let self : same_step (index j) (index j) ≡ true = same_step_self (index j) in
    let clash : true ≡ false = sym self ∙
    (or_false (same_step (index j) (index j)) (has (index j) xs) (h j)).0 in
    absurd cc

keys_back : (xs : List Step) → AllByRecursion IsKeyStep xs → xs ≡ map key (key_names xs)
keys_back [] h = refl
keys_back (key n ∷ xs) h = ap (λ (ys : List Step). key n ∷ ys) (keys_back xs h.1)
keys_back (index i ∷ xs) h = absurd h.0

-- of what has no elements
members_keys : (made : List Assertion) (written : List Placed) (models : List ModelNode) (p : Place) (k : Kind)
    → Stands made written models → first_kind made p ≡ Some k → ((i : ℕ) → Lists k i → ⊥)
    → members_of made p ≡ map key (key_names (members_of made p))
members_keys made written models p k st first other = keys_back (members_of made p)
    (all_once (steps made p)
    (all_keys (steps made p) (λ i. has_step made p (index i) ∙ none i (kind_at made (at p (index i))) refl)))
  where
    none : (i : ℕ) (o : Option Kind) → kind_at made (at p (index i)) ≡ o
        → is_some (kind_at made (at p (index i))) ≡ false
    none i None e = ap is_some e
    none i (Some j) e =
        let l = st.indexed p i j e in
        let same : l.kind ≡ k = (let both : Some l.kind ≡ Some k = sym l.first ∙ first in cc) in
        absurd (other i (subst (λ (x : Kind). Lists x i) same l.lists))

-- ---- views

-- so many elements
abbrev IsCount : Value → ℕ → Type 0
IsCount (array g es) n = n ≡ count_elements es
IsCount v n = Unit {0}

value_view : (made : List Assertion) (p : Place) (v : Value) (names : List (List ℕ)) (n : ℕ)
    → (((i : ℕ) → Lists (leaf v) i → ⊥) → members_of made p ≡ map key names) → IsCount v n
    → view_of_shape (shape_of_value v) names n ≡ view_of_value made p v
value_view made p (basic ps) names n e c = refl
value_view made p (literal text) names n e c = refl
value_view made p (multi_basic ps) names n e c = refl
value_view made p (multi_literal ps) names n e c = refl
value_view made p (boolean b) names n e c = refl
value_view made p (integer i) names n e c = refl
value_view made p (float f) names n e c = refl
value_view made p (datetime d) names n e c = refl
value_view made p (array g es) names n e c = ap static_array c
value_view made p (inline g ms) names n e c = ap (λ (ss : List Step). inline_table ss) (sym (e (λ i h. h)))

abbrev IsCounted : List Assertion → Place → Kind → ℕ → Type 0
IsCounted made p (leaf v) n = IsCount v n
IsCounted made p k n = n ≡ elements_at made p

kind_view : (made : List Assertion) (p : Place) (k : Kind) (names : List (List ℕ)) (n : ℕ)
    → (((i : ℕ) → Lists k i → ⊥) → members_of made p ≡ map key names) → IsCounted made p k n
    → view_of_shape (shape_of_kind k) names n ≡ view_of_kind made p k
kind_view made p (leaf v) names n e c = value_view made p v names n e c
kind_view made p (dotted true) names n e c = ap (λ (ss : List Step). inline_table ss) (sym (e (λ i h. h)))
kind_view made p (dotted false) names n e c = ap (λ (ss : List Step). table ss) (sym (e (λ i h. h)))
kind_view made p super names n e c = ap (λ (ss : List Step). table ss) (sym (e (λ i h. h)))
kind_view made p header_kind names n e c = ap (λ (ss : List Step). table ss) (sym (e (λ i h. h)))
kind_view made p element_kind names n e c = ap (λ (ss : List Step). table ss) (sym (e (λ i h. h)))
kind_view made p array_kind names n e c = ap (λ (m : ℕ). table_array m) c

-- each array has all of its elements
abbrev pub AreFull : List Assertion → Type 0
AreFull made = (p : Place) (g : List Between) (es : Elements) (i : ℕ)
    → kind_at made p ≡ Some (leaf (array g es)) → i < count_elements es → kind_at made (at p (index i)) ≡ None
    → ⊥

model_view : (made : List Assertion) (written : List Placed) (models : List ModelNode) (n : ℕ) (s : ModelNode)
    → Stands made written models → IsEven made → AreFull made → slice_get models n ≡ Some s
    → (t : Tells made written s) → view_of_shape s.shape (names_of s) (length s.elements)
    ≡ view_of_kind made s.place t.kind
model_view made written models n s st even full e t =
    ap (λ x. view_of_shape x (names_of s) (length s.elements)) t.shape
    ∙ kind_view made s.place t.kind (names_of s) (length s.elements)
    (λ other. members_keys made written models s.place t.kind st t.first other ∙ ap (map key) (sym t.names))
    (counted t.kind refl)
  where
    listed : (v : Value) → t.kind ≡ leaf v → IsCount v (length s.elements)
    listed (array g es) k =
        let first : first_kind made s.place ≡ Some (leaf (array g es)) = t.first ∙
        ap (λ (x : Kind). Some x) k in
        let inner : s.place ≡ [] → ⊥ = λ root. let clash : Some header_kind ≡ Some (leaf (array g es)) =
        ap (first_kind made) (sym root) ∙ first in cc in
        elements_full made written models n s g es st e first
        (λ i lt none. full s.place g es i (sym (first_is made s.place inner) ∙ first) lt none)
    listed (basic ps) k = tt
    listed (literal text) k = tt
    listed (multi_basic ps) k = tt
    listed (multi_literal ps) k = tt
    listed (boolean b) k = tt
    listed (integer i) k = tt
    listed (float f) k = tt
    listed (datetime d) k = tt
    listed (inline g ms) k = tt

    counted : (k : Kind) → t.kind ≡ k → IsCounted made s.place k (length s.elements)
    counted (leaf v) same = listed v same
    counted (dotted b) same = t.count (ap is_headed same) ∙ sym (even s.place)
    counted super same = t.count (ap is_headed same) ∙ sym (even s.place)
    counted header_kind same = t.count (ap is_headed same) ∙ sym (even s.place)
    counted array_kind same = t.count (ap is_headed same) ∙ sym (even s.place)
    counted element_kind same = t.count (ap is_headed same) ∙ sym (even s.place)

pub tree_shown : (made : List Assertion) (written : List Placed) (models : List ModelNode) (p : Place)
    → Stands made written models → IsEven made → AreFull made
    → node_at (map model_node_view models) p ≡ view_in made p
tree_shown made written models [] st even full =
    let r = st.tree.root in
    let t = st.tells 0 r.0 r.1 in
    let kind : header_kind ≡ t.kind =
    (let same : Some header_kind ≡ Some t.kind = ap (first_kind made) (sym r.2) ∙ t.first in cc) in
    ap (node_at (map model_node_view models)) (sym r.2) ∙
    node_first models 0 r.0 r.1 (λ i u g same. st.tree.unique i 0 u r.0 g r.1 same)
    ∙ ap (λ (v : View). Some v) (model_view made written models 0 r.0 st even full r.1 t ∙
    ap (view_of_kind made r.0.place) (sym kind) ∙ ap (λ (q : Place). view_of_kind made q header_kind) r.2)
tree_shown made written models (x ∷ xs) st even full = go (kind_at made (x ∷ xs)) refl
  where
    go : (o : Option Kind) → kind_at made (x ∷ xs) ≡ o → node_at (map model_node_view models) (x ∷ xs)
        ≡ option_map (view_of_kind made (x ∷ xs)) (kind_at made (x ∷ xs))
    go (Some k) e =
        let c = st.covers (x ∷ xs) k e in
        let s = c.1.0 in
        let t = st.tells c.0 s c.1.1 in
        let kind : t.kind ≡ k = (let same : Some t.kind ≡ Some k = sym t.first ∙ ap (first_kind made) c.1.2 ∙
        e in cc) in
        ap (node_at (map model_node_view models)) (sym c.1.2) ∙
        node_first models c.0 s c.1.1 (λ i u g same. st.tree.unique i c.0 u s g c.1.1 same)
        ∙ ap (λ (v : View). Some v) (model_view made written models c.0 s st even full c.1.1 t ∙
        ap (view_of_kind made s.place) kind ∙ ap (λ (q : Place). view_of_kind made q k) c.1.2)
        ∙ sym (ap (option_map (view_of_kind made (x ∷ xs))) e)
    go None e = node_none models (x ∷ xs) (λ i u g same.
        let t = st.tells i u g in
        let some : kind_at made (x ∷ xs) ≡ Some t.kind = ap (first_kind made) (sym same) ∙ t.first in
        let clash : None ≡ Some t.kind = sym e ∙ some in
        cc) ∙ sym (ap (option_map (view_of_kind made (x ∷ xs))) e)
