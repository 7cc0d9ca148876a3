-- The span of a node is the range of the value at its place.
use Rattle.std.proofs.Common.{◌≡◌, ℕ, ◌-◌, ◌<◌, Bool, true, false, cond, List, [], ◌∷◌, map, length, get_or, Option, None, Some, option_map, refl, sym, ap, subst, ◌∙◌, inl, inr}
use Rattle.std.specs.Prelude.{string_bytes}
use Rattle.edit_tree.specs.declared.nodes.Node.{Node}
use Rattle.edit_syntax.specs.declared.span.Span.{Span}
use Rattle.edit_document.specs.declared.document.Document.TheInside.{Inside}
use Rattle.edit_syntax.specs.Grammar.{Text, text}
use Rattle.edit_tree.specs.Assertions.{Place, same_place, Assertion, Kind, assertions, IsDocument}
use Rattle.edit_tree.specs.Tree.{View, table, members_of, view_of_kind, kind_at, view_in, is_value_at}
use Rattle.edit_tree.specs.DocumentViews.{DocumentViews, tree_of}
use Rattle.edit_tree.specs.Nodes.{RepresentsNodes}
use Rattle.edit_document.specs.DocumentLayout.{span_of, placed, span_at, document_view_of, IsRead}
use Rattle.edit_document.specs.Items.{node_place}
use Rattle.edit_tree.specs.Written.{PlacedValue, values, IsWrittenAt}
use Rattle.edit_tree.proofs.SamePlace.{same_place_self, same_place_is}
use Rattle.edit_syntax.proofs.Members.{Among, among_contained}
use Rattle.edit_tree.proofs.UniqueValues.{value_listed}
use Rattle.edit_tree.proofs.ReplacedStrings.{value_written}
use Rattle.edit_document.proofs.ShownForms.{shown_bytes, form_same, open_models, shows_tree}
use Rattle.edit_document.proofs.Views.{Opened, found}
use Rattle.edit_syntax.proofs.Cases.{by_test}

-- ---- the span at a place is that of a value there

span_value : (ws : List PlacedValue) (p : Place) (s : Span) → span_at (map placed ws) p ≡ Some s
    → (w : PlacedValue)
    × Among w ws × (w.place ≡ p) × (s ≡ span_of w.value w.after)
span_value [] p s e = absurd cc
span_value (w ∷ ws) p s e = go (same_place w.place p) refl e (span_value ws p s)
  where
    go : (b : Bool) → same_place w.place p ≡ b
        → cond b (Some (span_of w.value w.after)) (span_at (map placed ws) p) ≡ Some s
        → (span_at (map placed ws) p ≡ Some s → (v : PlacedValue) × Among v ws × (v.place ≡ p)
        × (s ≡ span_of v.value v.after)) → (v : PlacedValue) × Among v (w ∷ ws) × (v.place ≡ p)
        × (s ≡ span_of v.value v.after)
    go true t h ih = (
      w,
      inl refl,
      same_place_is w.place p t,
      (let is : span_of w.value w.after ≡ s = cc in
          sym is),
    )
    go false t h ih = let r = ih h in (r.0, inr r.1, r.2, r.3)

span_found : (ws : List PlacedValue) (w : PlacedValue) (p : Place) → Among w ws → w.place ≡ p → (s : Span)
    × (span_at (map placed ws) p ≡ Some s)
span_found [] w p m e = absurd m
span_found (v ∷ ws) w p m e = go (same_place v.place p) refl m (λ h. span_found ws w p h e)
  where
    go : (b : Bool) → same_place v.place p ≡ b → Among w (v ∷ ws)
        → (Among w ws → (s : Span) × (span_at (map placed ws) p ≡ Some s)) → (s : Span)
        × (cond b (Some (span_of v.value v.after)) (span_at (map placed ws) p) ≡ Some s)
    go true t h ih = (span_of v.value v.after, refl)
    go false t (inl h) ih =
        let same : same_place v.place p ≡ true = ap (λ (q : Place). same_place q p)
        (ap (λ (z : PlacedValue). z.place) (sym h) ∙ e) ∙ same_place_self p in
        let clash : true ≡ false = sym same ∙ t in
        absurd cc
    go false t (inr h) ih = ih h

-- ---- what is a value is shown, and has a span

view_some : (made : List Assertion) (p : Place) (k : Kind) → kind_at made p ≡ Some k → (v : View)
    × (view_in made p ≡ Some v)
view_some made [] k e = (table (members_of made []), refl)
view_some made (s ∷ ss) k e =
    (view_of_kind made (s ∷ ss) k, ap (λ (o : Option Kind). option_map (view_of_kind made (s ∷ ss)) o) e)

value_span : (form : Text) (bytes : List ℕ) (p : Place) → IsDocument bytes form → is_value_at form p ≡ true
    → (s : Span) × (span_at (map placed (values form)) p ≡ Some s)
value_span form bytes p manifest h = let w = value_listed form p manifest.no_clash h in
    span_found (values form) w.0 p w.1 w.2

-- where nothing stands there is no value
pub none_value : (inside : Inside) (shown : DocumentViews) (form : Text) (p : Place) → IsRead inside
    → document_view_of inside ≡ shown → IsDocument shown.bytes form → tree_of shown p ≡ None
    → is_value_at form p ≡ false
none_value inside shown form p read view manifest none =
    by_test (is_value_at form p)
    (λ h. let v = value_written form p manifest.no_clash h in
    let some = view_some (assertions form) p _ v.1 in
    absurd (none_view some.0 (sym none ∙ shows_tree inside shown form read view manifest p ∙ some.1)))
    (λ h. h)
  where
    none_view : (w : View) → None ≡ Some w → ⊥
    none_view w h = cc

-- ---- nodes

-- the span of a node is the one at its place
node_span : (inside : Inside) (shown : DocumentViews) (n : ℕ) (node : Node) (form : Text) (p : Place)
    → (read : IsRead inside) → document_view_of inside ≡ shown → IsDocument shown.bytes form
    → node_place shown n ≡ p → n < length shown.nodes → node ≡ get_or inside.nodes.items n node
    → node.span ≡ span_at (map placed (values form)) p
node_span inside shown n node form p read view manifest there lt is =
    let opens : Opened shown inside.nodes.items =
    record {
      models = read.models;
      nodes_are = open_models inside shown read view;
      holds = subst (λ (b : List ℕ). RepresentsNodes b inside.nodes.items read.models)
          (shown_bytes inside shown view) read.holds;
      tree = read.tree;
    } in
    let f = found shown inside.nodes.items n node opens lt is in
    f.keeps.span ∙ read.spans n f.model f.stands ∙ ap (span_at (map placed (values read.form)))
    (sym f.place ∙ there) ∙ ap (λ (t : Text). span_at (map placed (values t)) p)
    (sym (form_same inside shown form read view manifest))

-- nor is one where a node has no span
pub spanless_value : (inside : Inside) (shown : DocumentViews) (form : Text) (p : Place) (n : ℕ) (node : Node)
    → IsRead inside → document_view_of inside ≡ shown → IsDocument shown.bytes form → node_place shown n ≡ p
    → n < length shown.nodes
    → node ≡ get_or inside.nodes.items n node → node.span ≡ None → is_value_at form p ≡ false
spanless_value inside shown form p n node read view manifest there lt is none =
    by_test (is_value_at form p)
    (λ h. let s = value_span form shown.bytes p manifest h in
    absurd (none_span s.0 (sym none ∙ node_span inside shown n node form p read view manifest there lt is ∙
    s.1)))
    (λ h. h)
  where
    none_span : (t : Span) → None ≡ Some t → ⊥
    none_span t h = cc

-- and where it has one, the span is where the value is written
pub spanned_value : (inside : Inside) (shown : DocumentViews) (form : Text) (p : Place) (n : ℕ) (node : Node)
    (s : Span) (len : ℕ) → IsRead inside → document_view_of inside ≡ shown → IsDocument shown.bytes form
    → node_place shown n ≡ p → n < length shown.nodes
    → node ≡ get_or inside.nodes.items n node → node.span ≡ Some s → len ≡ length (string_bytes inside.text)
    → IsWrittenAt form p (len - s.from) (len - s.to)
spanned_value inside shown form p n node s len read view manifest there lt is some size =
    let whole : len ≡ length (text form) = size ∙
    ap length (shown_bytes inside shown view ∙ manifest.grammar.spelled) in
    let w = span_value (values form) p s
    (sym (node_span inside shown n node form p read view manifest there lt is) ∙ some) in
    record {
      placed_value = w.0;
      listed = among_contained w.0 (values form) w.1;
      there = w.2;
      starts = ap (λ (k : ℕ). k - s.from) whole ∙ ap (λ (z : Span). length (text form) - z.from) w.3;
      ends = ap (λ (k : ℕ). k - s.to) whole ∙ ap (λ (z : Span). length (text form) - z.to) w.3;
    }
