-- The children of a node have indices, and what a document determines about a node.
use Rattle.std.proofs.Common.{◌≡◌, ℕ, ◌≤◌, true, false, List, [], ◌∷◌, length, map, Some, None, refl, sym, ap, subst, ◌∙◌, ◌⊎◌, inl, inr, arith}
use Rattle.std.specs.Prelude.{slice_get, option_map, IsUtf8, string_bytes}
use Rattle.std.proofs.lemmas.Option.{slice_get-map, slice_get_within, same_Some}
use Rattle.edit_document.specs.declared.document.Document.TheInside.{Inside}
use Rattle.edit_syntax.specs.Grammar.{array, inline, basic, literal, multi_basic, multi_literal, boolean, integer, float, datetime}
use Rattle.edit_tree.specs.Assertions.{Step, key, index, Place, at, Kind, dotted, leaf, super, header_kind, array_kind, element_kind, Assertion, assertions}
use Rattle.edit_tree.specs.Tree.{View, kind_at}
use Rattle.edit_tree.specs.Written.{values}
use Rattle.edit_document.specs.DocumentLayout.{placed, Placed, IsRead}
use Rattle.edit_tree.specs.Nodes.{Shape, listed, inline as inlined, section, sections, ModelNode, names_of, view_of_shape, below, IsTree}
use Rattle.edit_document.specs.Items.{node_view}
use Rattle.edit_tree.specs.DocumentViews.{DocumentViews, tree_of, node_at}
use Rattle.edit_document.specs.Compared.{nth_part, AreSteps, AreNames, AreKeys, IsWhole}
use Rattle.edit_tree.proofs.SamePlace.{not_root, last_same}
use Rattle.edit_syntax.proofs.ListElements.{slice_get_same}
use Rattle.edit_document.proofs.Views.{view_of_model, Opened, opened, Found, view_model, tree_model, node_none}
use Rattle.edit_tree.specs.declared.nodes.Node.{Node}
use Rattle.edit_document.specs.DocumentLayout.{document_view_of}
use Rattle.edit_tree.proofs.MoreAssertions.{first_kind}
use Rattle.edit_tree.specs.Assertions.{AreCompatible}
use Rattle.edit_tree.proofs.Keyed.{tabular, AreUnder, under_tables, first_table, found_under}
use Rattle.edit_document.proofs.AssertedModels.{Stands, Lists, shape_of_kind, was_asserted, short_at}
use Rattle.edit_document.proofs.Wholes.{stands_of, name_at, element_is, keys_below, named_below, numbered_below}

-- ---- every part below a model node is numbered

shape_tabular : (k : Kind) → tabular k ≡ true → (shape_of_kind k ≡ section) ⊎ (shape_of_kind k ≡ inlined)
shape_tabular (dotted true) e = inr refl
shape_tabular (dotted false) e = inl refl
shape_tabular super e = inl refl
shape_tabular header_kind e = inl refl
shape_tabular element_kind e = inl refl
shape_tabular array_kind e = absurd cc
shape_tabular (leaf (inline g ms)) e = inr refl
shape_tabular (leaf (array g es)) e = absurd cc
shape_tabular (leaf (basic ps)) e = absurd cc
shape_tabular (leaf (literal text)) e = absurd cc
shape_tabular (leaf (multi_basic ps)) e = absurd cc
shape_tabular (leaf (multi_literal ps)) e = absurd cc
shape_tabular (leaf (boolean b)) e = absurd cc
shape_tabular (leaf (integer n)) e = absurd cc
shape_tabular (leaf (float f)) e = absurd cc
shape_tabular (leaf (datetime d)) e = absurd cc

-- names stand below tables alone
keyed : (made : List Assertion) (p : Place) (k l : Kind) (name : List ℕ) → AreCompatible made
    → AreUnder made made
    → first_kind made p ≡ Some k → kind_at made (at p (key name)) ≡ Some l → (shape_of_kind k ≡ section)
    ⊎ (shape_of_kind k ≡ inlined)
keyed made [] k l name clash under here below = let same : header_kind ≡ k = same_Some header_kind k here in
    inl (ap shape_of_kind (sym same))
keyed made (x ∷ xs) k l name clash under here below =
    elim (found_under made made (x ∷ xs) name l under below) [
      | inl root ↦ absurd cc
      | inr h ↦ shape_tabular k (first_table made (x ∷ xs) k clash h here)
    ]

lists_shape : (k : Kind) (i : ℕ) → Lists k i → (shape_of_kind k ≡ listed) ⊎ (shape_of_kind k ≡ sections)
lists_shape array_kind i h = inr refl
lists_shape (leaf (array g es)) i h = inl refl
lists_shape (leaf (basic ps)) i h = absurd h
lists_shape (leaf (literal text)) i h = absurd h
lists_shape (leaf (multi_basic ps)) i h = absurd h
lists_shape (leaf (multi_literal ps)) i h = absurd h
lists_shape (leaf (boolean b)) i h = absurd h
lists_shape (leaf (integer n)) i h = absurd h
lists_shape (leaf (float f)) i h = absurd h
lists_shape (leaf (datetime d)) i h = absurd h
lists_shape (leaf (inline g ms)) i h = absurd h
lists_shape (dotted b) i h = absurd h
lists_shape super i h = absurd h
lists_shape header_kind i h = absurd h
lists_shape element_kind i h = absurd h

below_listed : (models : List ModelNode) (tree : IsTree models) (n : ℕ) (s : ModelNode) (x : Step)
    → slice_get models n ≡ Some s → (j : ℕ) (t : ModelNode) → slice_get models j ≡ Some t
    → t.place ≡ at s.place x
    → (m : ℕ) × (below s x ≡ Some m)
below_listed models tree n s x here j t there p =
    elim (tree.up j t there) [
      | inl root ↦ absurd (not_root s.place x (sym p ∙ root))
      | inr m ↦
          let same = last_same m.upper.place s.place m.step x (sym m.place_is ∙ p) in
          let number : m.above ≡ n = tree.unique m.above n m.upper s m.stands here same.0 in
          let model : m.upper ≡ s = slice_get_same models n m.upper s (ap (slice_get models) (sym number) ∙
          m.stands) here in
          (j, ap (λ (u : ModelNode). below u x) (sym model) ∙ ap (below m.upper) (sym same.1) ∙ m.listed)
    ]

-- another shape equal to that of a model node
in_shape : (s : ModelNode) (a : Shape) (i : ℕ) (step : Step) → s.shape ≡ a
    → nth_part (view_of_shape a (names_of s) (length s.elements)) i ≡ Some step
    → nth_part (view_of_model s) i ≡ Some step
in_shape s a i step e h =
    ap (λ (x : Shape). nth_part (view_of_shape x (names_of s) (length s.elements)) i) e ∙ h

pub unnumbered : (made : List Assertion) (written : List Placed) (models : List ModelNode) (n : ℕ) (s : ModelNode)
    (step : Step) → AreUnder made made → Stands made written models → slice_get models n ≡ Some s
    → ((i : ℕ) → nth_part (view_of_model s) i ≡ Some step → ⊥)
    → (j : ℕ) (t : ModelNode) → slice_get models j ≡ Some t → t.place ≡ at s.place step → ⊥
unnumbered made written models n s (index i) under st here none j t there p =
    let k = st.tells n s here in
    let b = below_listed models st.tree n s (index i) here j t there p in
    let l = st.indexed s.place i (st.tells j t there).kind
    (ap (kind_at made) (sym p) ∙ was_asserted (st.tells j t there)
    (λ root. not_root s.place (index i) (sym p ∙ root))) in
    let same : l.kind ≡ k.kind = same_Some l.kind k.kind (sym l.first ∙ k.first) in
    let lt = slice_get_within s.elements i b.0 b.1 in
    elim (lists_shape k.kind i (subst (λ (x : Kind). Lists x i) same l.lists)) [
      | inl e ↦ none i (in_shape s listed i (index i) (k.shape ∙ e) (element_is (length s.elements) i lt))
      | inr e ↦ none i (in_shape s sections i (index i) (k.shape ∙ e) (element_is (length s.elements) i lt))
    ]
unnumbered made written models n s (key name) under st here none j t there p =
    let k = st.tells n s here in
    let b = below_listed models st.tree n s (key name) here j t there p in
    let at_name = name_at s.members name b.0 b.1 in
    let member_defined : kind_at made (at s.place (key name)) ≡ Some (st.tells j t there).kind =
    ap (kind_at made) (sym p) ∙ was_asserted (st.tells j t there)
    (λ root. not_root s.place (key name) (sym p ∙ root)) in
    let named : slice_get (map key (names_of s)) at_name.0 ≡ Some (key name) =
    slice_get-map key (names_of s) at_name.0 ∙ ap (option_map key) at_name.1 in
    elim (keyed made s.place k.kind (st.tells j t there).kind name st.clear.apart under k.first member_defined) [
      | inl e ↦ none at_name.0 (in_shape s section at_name.0 (key name) (k.shape ∙ e) named)
      | inr e ↦ none at_name.0 (in_shape s inlined at_name.0 (key name) (k.shape ∙ e) named)
    ]

-- a place that stands is short
pub short_model : (made : List Assertion) (written : List Placed) (models : List ModelNode) (n : ℕ) (s : ModelNode)
    → Stands made written models → slice_get models n ≡ Some s → length s.place ≤ 80
short_model made written models n s st here = go s.place refl
  where
    go : (p : Place) → s.place ≡ p → length s.place ≤ 80
    go [] e = subst (λ (q : Place). length q ≤ 80) (sym e) (omega arith)
    go (x ∷ xs) e = short_at made s.place (st.tells n s here).kind st.clear.short
        (was_asserted (st.tells n s here) (λ root. let clash : x ∷ xs ≡ [] = sym e ∙ root in cc))

-- ---- what a document says of a node

whole_of : (d : DocumentViews) (nodes : List Node) (made : List Assertion) (written : List Placed) (n : ℕ)
    (node : Node) (opens : Opened d nodes) → Found d nodes opens.models n node → AreUnder made made
    → Stands made written opens.models → IsWhole d n
whole_of d nodes made written n node opens f under st = record {
  parts = λ step none.
      ap (λ (p : Place). tree_of d (at p step)) f.place
      ∙ ap (λ (ns : List (Place × View)). node_at ns (at f.model.place step)) opens.nodes_are
      ∙ node_none opens.models (at f.model.place step)
      (unnumbered made written opens.models n f.model step under st f.stands
      (λ i e. none i (ap (λ (v : View). nth_part v i) view ∙ e)));
  stands = λ step i with_index none.
      let b = numbered_below made written opens.models n f.model st f.stands i step
      (sym (ap (λ (v : View). nth_part v i) view) ∙ with_index) in
      let s = opens.tree.down n b.0.0 f.model step f.stands b.0.1 in
      let clash : None ≡ Some (view_of_model s.0) = sym none ∙
      ap (λ (p : Place). tree_of d (at p step)) f.place ∙ ap (tree_of d) (sym s.2) ∙
      tree_model d opens.models b.0.0 s.0 opens.nodes_are opens.tree s.1 in
      cc;
  steps = subst AreSteps (sym view)
      (λ i step e. (numbered_below made written opens.models n f.model st f.stands i step e).1);
  names = subst AreNames (sym view) (named_below made written opens.models n f.model st f.stands);
  keys = subst AreKeys (sym view) (keys_below made written opens.models n f.model st f.stands);
  short = subst (λ (p : Place). length p ≤ 80) (sym f.place)
      (short_model made written opens.models n f.model st f.stands);
}
  where
    view : node_view d n ≡ view_of_model f.model
    view = view_model d opens.models n f.model opens.nodes_are opens.tree f.stands

pub whole : (inside : Inside) (d : DocumentViews) (n : ℕ) (node : Node) (read : IsRead inside)
    (view : document_view_of inside ≡ d) → IsUtf8 (string_bytes inside.text)
    → Found d inside.nodes.items (opened inside d read view).models n node → IsWhole d n
unfolding opened
whole inside d n node read view u f = whole_of d inside.nodes.items (assertions read.form)
    (map placed (values read.form)) n node (opened inside d read view) f (under_tables read.form)
    (stands_of inside read u)
