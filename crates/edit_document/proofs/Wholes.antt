-- What is below a node: its members and its elements, and nothing else.
use Rattle.std.proofs.Common.{◌≡◌, ℕ, zero, suc, ◌<◌, Bool, true, false, nat_lt, cond, List, [], ◌∷◌, length, map, Option, Some, None, refl, sym, ap, subst, ◌∙◌, ◌⊎◌, inl, inr}
use Rattle.std.specs.Prelude.{slice_get, option_map, IsUtf8, string_bytes}
use Rattle.std.specs.Map.{lookup}
use Rattle.std.specs.Str.{bytes_eq}
use Rattle.std.proofs.lemmas.Option.{slice_get-map, slice_get-get_or, same_Some}
use Rattle.std.proofs.lemmas.Slice.Eq.{bytes_eq-Decides}
use Rattle.std.proofs.lemmas.Bool.{lt-ltb, ltb-true}
use Rattle.edit_document.specs.declared.document.Document.TheInside.{Inside}
use Rattle.edit_syntax.specs.Grammar.{Value, Text, array, inline, basic, literal, multi_basic, multi_literal, boolean, integer, float, datetime}
use Rattle.edit_tree.specs.Assertions.{Step, key, index, Kind, dotted, leaf, super, header_kind, array_kind, element_kind, Assertion, assertions}
use Rattle.edit_tree.specs.Tree.{View}
use Rattle.edit_syntax.specs.Reading.{◌>>=◌}
use Rattle.edit_tree.specs.Walk.{State, start, state_after}
use Rattle.edit_syntax.specs.SyntaxTokens.{tokens_of_text}
use Rattle.edit_tree.specs.Written.{values}
use Rattle.edit_document.specs.DocumentLayout.{placed, Placed, model_nodes_of, IsRead, shape_of_value}
use Rattle.edit_tree.specs.Nodes.{Shape, scalar, listed, inline as inlined, section, sections, ModelNode, names_of, view_of_shape, below}
use Rattle.edit_document.specs.Items.{names_in, key_names}
use Rattle.edit_document.specs.Compared.{element_step, nth_part, AreNames, AreKeys}
use Rattle.edit_document.proofs.Views.{view_of_model}
use Rattle.edit_document.proofs.MemberViews.{names_keys}
use Rattle.edit_tree.proofs.Shallow.{manifest_form}
use Rattle.edit_document.proofs.AssertedModels.{Stands, shape_of_kind}
use Rattle.edit_document.proofs.WalkedLines.{Walked as Walks, ended, stuck}
use Rattle.edit_document.proofs.Documents.{read_of, walk_of}

-- the model nodes of a document that was read represent its assertions
pub stands_of : (inside : Inside) → (read : IsRead inside) → IsUtf8 (string_bytes inside.text)
    → Stands (assertions read.form) (map placed (values read.form)) read.models
stands_of inside read u = go (walk_of bytes form (read_of bytes form read.manifest u))
  where
    bytes : List ℕ
    bytes = string_bytes inside.text

    form : Text
    form = read.form

    go : Walks (assertions form) (map placed (values form)) (state_after bytes (tokens_of_text form) start)
        → Stands (assertions form) (map placed (values form)) read.models
    go (ended now tables e st) =
        let made : model_nodes_of bytes ≡ Some now =
        ap (λ (o : Option Text). o >>= λ f. state_after bytes (tokens_of_text f) start >>= λ s. Some s.models)
        (manifest_form bytes form read.manifest) ∙ ap (λ (o : Option State). o >>= λ s. Some s.models) e in
        subst (λ (ss : List ModelNode). Stands (assertions form) (map placed (values form)) ss)
        (same_Some now read.models (sym made ∙ read.found)) st
    go (stuck e clash) =
        absurd (clash (record {
          apart = read.manifest.no_clash;
          short = read.manifest.short;
        }))

-- ---- names and numbers

pub name_at : (ms : List (List ℕ × ℕ)) (name : List ℕ) (j : ℕ) → lookup (λ n. bytes_eq name n) ms ≡ Some j
    → (i : ℕ) × (slice_get (map (λ (e : List ℕ × ℕ). e.0) ms) i ≡ Some name)
name_at [] name j e = absurd cc
name_at (m ∷ ms) name j e = go (bytes_eq name m.0) (bytes_eq-Decides name m.0).0 e (name_at ms name j)
  where
    go : (b : Bool) → (b ≡ true → name ≡ m.0) → cond b (Some m.1) (lookup (λ n. bytes_eq name n) ms) ≡ Some j
        → (lookup (λ n. bytes_eq name n) ms ≡ Some j → (i : ℕ)
        × (slice_get (map (λ (e : List ℕ × ℕ). e.0) ms) i ≡ Some name))
        → (i : ℕ) × (slice_get (map (λ (e : List ℕ × ℕ). e.0) (m ∷ ms)) i ≡ Some name)
    go true same e ih = (0, ap Some (sym (same refl)))
    go false same e ih = let r = ih e in (suc r.0, r.1)

pub number_at : (ms : List (List ℕ × ℕ)) (name : List ℕ) (i : ℕ)
    → slice_get (map (λ (e : List ℕ × ℕ). e.0) ms) i ≡ Some name → (j : ℕ)
    × (lookup (λ n. bytes_eq name n) ms ≡ Some j)
number_at [] name i e = absurd cc
number_at (m ∷ ms) name zero e = let same : name ≡ m.0 = sym (same_Some m.0 name e) in (
  m.1,
  ap (λ (b : Bool). cond b (Some m.1) (lookup (λ n. bytes_eq name n) ms))
      ((bytes_eq-Decides name m.0).1 same),
)
number_at (m ∷ ms) name (suc i) e = go (bytes_eq name m.0) (number_at ms name i e)
  where
    go : (b : Bool) → ((j : ℕ) × (lookup (λ n. bytes_eq name n) ms ≡ Some j)) → (j : ℕ)
        × (cond b (Some m.1) (lookup (λ n. bytes_eq name n) ms) ≡ Some j)
    go true r = (m.1, refl)
    go false r = r

-- ---- steps

pub element_is : (n i : ℕ) → i < n → element_step n i ≡ Some (index i)
element_is n i lt = ap (λ (b : Bool). cond b (Some (index i)) None) (lt-ltb i n lt)

pub element_was : (n i : ℕ) (step : Step) → element_step n i ≡ Some step → (i < n) × (step ≡ index i)
element_was n i step e = go (nat_lt i n) refl e
  where
    go : (b : Bool) → nat_lt i n ≡ b → cond b (Some (index i)) None ≡ Some step → (i < n) × (step ≡ index i)
    go true t e = (ltb-true i n t, sym (same_Some (index i) step e))
    go false t e = absurd cc

key_was : (names : List (List ℕ)) (i : ℕ) (step : Step) → slice_get (map key names) i ≡ Some step
    → (name : List ℕ) × (slice_get names i ≡ Some name) × (step ≡ key name)
key_was [] i step e = absurd cc
key_was (n ∷ ns) zero step e = (n, refl, sym (same_Some (key n) step e))
key_was (n ∷ ns) (suc i) step e = key_was ns i step e

-- the parts of a shape
abbrev Parts : ModelNode → Shape → Type 0
Parts s shape = (i : ℕ) (step : Step) → nth_part (view_of_shape shape (names_of s) (length s.elements)) i
    ≡ Some step
    → ((m : ℕ) × (below s step ≡ Some m))
    × (((name : List ℕ) × (slice_get (names_in (view_of_shape shape (names_of s) (length s.elements))) i
    ≡ Some name) × (step ≡ key name))
    ⊎ ((slice_get (names_in (view_of_shape shape (names_of s) (length s.elements))) i ≡ None)
    × (step ≡ index i)))

parts_tabular : (s : ModelNode) (i : ℕ) (step : Step) → slice_get (map key (names_of s)) i ≡ Some step
    → ((m : ℕ) × (below s step ≡ Some m))
    × ((name : List ℕ) × (slice_get (key_names (map key (names_of s))) i ≡ Some name) × (step ≡ key name))
parts_tabular s i step e =
    let k = key_was (names_of s) i step e in
    let j = number_at s.members k.0 i k.1 in (
      (j.0, ap (below s) k.2 ∙ j.1),
      (k.0, ap (λ (ns : List (List ℕ)). slice_get ns i) (names_keys (names_of s)) ∙ k.1, k.2),
    )

parts_listed : (s : ModelNode) (i : ℕ) (step : Step) → element_step (length s.elements) i ≡ Some step
    → ((m : ℕ) × (below s step ≡ Some m)) × (step ≡ index i)
parts_listed s i step e =
    let k = element_was (length s.elements) i step e in
    ((_, ap (below s) k.1 ∙ slice_get-get_or s.elements i 0 k.0), k.1)

-- nothing stands below it
abbrev IsBare : View → Type 0
IsBare v = (names_in v ≡ []) × ((i : ℕ) → nth_part v i ≡ None) × AreKeys v

bare_by : (w v : View) → scalar w ≡ scalar v → IsBare w → IsBare v
bare_by w v e h = let same : w ≡ v = cc in subst IsBare same h

value_bare : (x : Value) (v : View) → shape_of_value x ≡ scalar v → IsBare v
value_bare (basic ps) v e = bare_by _ v e (refl, λ i. refl, tt)
value_bare (literal text) v e = bare_by _ v e (refl, λ i. refl, tt)
value_bare (multi_basic ps) v e = bare_by _ v e (refl, λ i. refl, tt)
value_bare (multi_literal ps) v e = bare_by _ v e (refl, λ i. refl, tt)
value_bare (boolean b) v e = bare_by _ v e (refl, λ i. refl, tt)
value_bare (integer n) v e = bare_by _ v e (refl, λ i. refl, tt)
value_bare (float f) v e = bare_by _ v e (refl, λ i. refl, tt)
value_bare (datetime d) v e = bare_by _ v e (refl, λ i. refl, tt)
value_bare (array g es) v e = absurd cc
value_bare (inline g ms) v e = absurd cc

scalar_bare : (k : Kind) (v : View) → shape_of_kind k ≡ scalar v → IsBare v
scalar_bare (leaf x) v e = value_bare x v e
scalar_bare (dotted true) v e = absurd cc
scalar_bare (dotted false) v e = absurd cc
scalar_bare super v e = absurd cc
scalar_bare header_kind v e = absurd cc
scalar_bare array_kind v e = absurd cc
scalar_bare element_kind v e = absurd cc

parts_of : (s : ModelNode) (shape : Shape) → ((v : View) → shape ≡ scalar v → IsBare v) → Parts s shape
parts_of s (scalar v) bare i step e = absurd (let clash : None ≡ Some step = sym ((bare v refl).1 i) ∙ e in
    cc)
parts_of s listed bare i step e = let p = parts_listed s i step e in (p.0, inr (refl, p.1))
parts_of s sections bare i step e = let p = parts_listed s i step e in (p.0, inr (refl, p.1))
parts_of s inlined bare i step e = let p = parts_tabular s i step e in (p.0, inl p.1)
parts_of s section bare i step e = let p = parts_tabular s i step e in (p.0, inl p.1)

name_tabular : (names : List (List ℕ)) (i : ℕ) (name : List ℕ)
    → slice_get (key_names (map key names)) i ≡ Some name → slice_get (map key names) i ≡ Some (key name)
name_tabular names i name e = slice_get-map key names i ∙
    ap (option_map key) (ap (λ (ns : List (List ℕ)). slice_get ns i) (sym (names_keys names)) ∙ e)

names_of_shape : (s : ModelNode) (shape : Shape) → ((v : View) → shape ≡ scalar v → IsBare v)
    → AreNames (view_of_shape shape (names_of s) (length s.elements))
names_of_shape s (scalar v) bare i name e =
    absurd (let clash : None ≡ Some name = sym (ap (λ (ns : List (List ℕ)). slice_get ns i) (bare v refl).0) ∙
    e in cc)
names_of_shape s listed bare i name e = absurd cc
names_of_shape s sections bare i name e = absurd cc
names_of_shape s inlined bare i name e = name_tabular (names_of s) i name e
names_of_shape s section bare i name e = name_tabular (names_of s) i name e

keys_of_shape : (s : ModelNode) (shape : Shape) → ((v : View) → shape ≡ scalar v → IsBare v)
    → AreKeys (view_of_shape shape (names_of s) (length s.elements))
keys_of_shape s (scalar v) bare = (bare v refl).2
keys_of_shape s listed bare = tt
keys_of_shape s sections bare = tt
keys_of_shape s inlined bare = ap (map key) (sym (names_keys (names_of s)))
keys_of_shape s section bare = ap (map key) (sym (names_keys (names_of s)))

pub keys_below : (made : List Assertion) (written : List Placed) (models : List ModelNode) (n : ℕ) (s : ModelNode)
    → Stands made written models → slice_get models n ≡ Some s → AreKeys (view_of_model s)
keys_below made written models n s st here = let t = st.tells n s here in
    keys_of_shape s s.shape (λ v e. scalar_bare t.kind v (sym t.shape ∙ e))

pub named_below : (made : List Assertion) (written : List Placed) (models : List ModelNode) (n : ℕ) (s : ModelNode)
    → Stands made written models → slice_get models n ≡ Some s → AreNames (view_of_model s)
named_below made written models n s st here = let t = st.tells n s here in
    names_of_shape s s.shape (λ v e. scalar_bare t.kind v (sym t.shape ∙ e))

-- each part that a view numbers has a node below that of the view
pub numbered_below : (made : List Assertion) (written : List Placed) (models : List ModelNode) (n : ℕ) (s : ModelNode)
    → Stands made written models → slice_get models n ≡ Some s → Parts s s.shape
numbered_below made written models n s st here = let t = st.tells n s here in
    parts_of s s.shape (λ v e. scalar_bare t.kind v (sym t.shape ∙ e))
