-- What the table of nodes determines about a document.
use Rattle.std.proofs.Common.{◌≡◌, ℕ, zero, suc, ◌<◌, Bool, true, false, List, [], ◌∷◌, length, get_or, Option, Some, None, refl, sym, ap, subst, ◌∙◌, arith}
use Rattle.std.specs.Prelude.{map, slice_get, option_map, unwrap_or, string_bytes}
use Rattle.std.proofs.lemmas.Option.{slice_get-map, slice_get_read, same_Some}
use Rattle.std.proofs.lemmas.List.{length-map}
use Rattle.edit_tree.specs.declared.nodes.Node.{Node}
use Rattle.edit_document.specs.declared.document.Document.TheInside.{Inside}
use Rattle.edit_tree.specs.Assertions.{Place, same_place}
use Rattle.edit_tree.specs.Tree.{View, table}
use Rattle.edit_tree.specs.DocumentViews.{DocumentViews, node_at, tree_of}
use Rattle.edit_tree.specs.Nodes.{ModelNode, Shape, names_of, view_of_shape, model_node_view, shape_of, entries_of, elements_of, names_in as names_among, RepresentsNode, RepresentsNodes, IsTree}
use Rattle.edit_document.specs.DocumentLayout.{model_nodes_of, node_views, document_view_by, document_view_of, IsRead}
use Rattle.edit_document.specs.Items.{viewed, node_place, node_view}
use Rattle.edit_tree.proofs.SamePlace.{same_place_self, same_place_is, other_place}
use Rattle.edit_tree.proofs.ModelNodes.{model_of_node}

-- a document that is open: its model nodes, and the nodes that represent them
pub record Opened (shown : DocumentViews) (nodes : List Node) : Type 0 where
  pub models : List ModelNode
  pub nodes_are : shown.nodes ≡ map model_node_view models
  pub holds : RepresentsNodes shown.bytes nodes models
  pub tree : IsTree models

unfoldable pub opened : (inside : Inside) (shown : DocumentViews) → IsRead inside → document_view_of inside ≡ shown
    → Opened shown inside.nodes.items
unfolding document_view_by
opened inside shown read view =
    let seen : shown.nodes ≡ node_views (model_nodes_of (string_bytes inside.text)) =
    ap (λ (s : DocumentViews). s.nodes) (sym view) in
    let here : string_bytes inside.text ≡ shown.bytes = ap (λ (s : DocumentViews). s.bytes) view in
    record {
      models = read.models;
      nodes_are = seen ∙ ap node_views read.found;
      holds = subst (λ (b : List ℕ). RepresentsNodes b inside.nodes.items read.models) here read.holds;
      tree = read.tree;
    }

-- the view of a model node
abbrev pub view_of_model : ModelNode → View
view_of_model s = view_of_shape s.shape (names_of s) (length s.elements)

-- what stands at a place

pub node_first : (models : List ModelNode) (n : ℕ) (s : ModelNode) → slice_get models n ≡ Some s
    → ((i : ℕ) (t : ModelNode) → slice_get models i ≡ Some t → t.place ≡ s.place → i ≡ n)
    → node_at (map model_node_view models) s.place ≡ Some (view_of_model s)
node_first [] n s e one = absurd cc
node_first (t ∷ ts) zero s e one =
    let here : t ≡ s = same_Some t s e in
    rw here (rw (same_place_self s.place) refl)
node_first (t ∷ ts) (suc n) s e one = go (same_place t.place s.place) refl
    (node_first ts n s e (λ i x g p. down (one (suc i) x g p)))
  where
    down : {i : ℕ} → suc i ≡ suc n → i ≡ n
    down h = cc

    go : (b : Bool) → same_place t.place s.place ≡ b → node_at (map model_node_view ts) s.place
        ≡ Some (view_of_model s) → node_at (map model_node_view (t ∷ ts)) s.place ≡ Some (view_of_model s)
    go true h ih = absurd (let z : 0 ≡ suc n = one 0 t refl (same_place_is t.place s.place h) in cc)
    go false h ih = rw h ih

pub node_none : (models : List ModelNode) (place : Place)
    → ((i : ℕ) (t : ModelNode) → slice_get models i ≡ Some t → t.place ≡ place → ⊥)
    → node_at (map model_node_view models) place ≡ None
node_none [] place none = refl
node_none (t ∷ ts) place none =
    rw (other_place t.place place (none 0 t refl)) (node_none ts place (λ i x g. none (suc i) x g))

-- ---- a node of a document

abbrev pub names_of_node : List ℕ → Node → List (List ℕ)
names_of_node text node = names_among (entries_of text node.members)

abbrev pub view_of_node : List ℕ → Node → View
view_of_node text node = view_of_shape (shape_of text node.content) (names_of_node text node)
    (length (elements_of node.members))

pub record Found (shown : DocumentViews) (nodes : List Node) (models : List ModelNode) (n : ℕ) (node : Node) : Type 0 where
  pub model : ModelNode
  pub stands : slice_get models n ≡ Some model
  pub keeps : RepresentsNode shown.bytes node model
  pub place : node_place shown n ≡ model.place
  pub here : tree_of shown model.place ≡ Some (view_of_model model)
  pub view : node_view shown n ≡ view_of_node shown.bytes node

stand : (shown : DocumentViews) (models : List ModelNode) (n : ℕ) (s : ModelNode)
    → shown.nodes ≡ map model_node_view models
    → slice_get models n ≡ Some s → slice_get shown.nodes n ≡ Some (model_node_view s)
stand shown models n s e g = rw e (slice_get-map model_node_view models n ∙ ap (option_map model_node_view) g)

pub tree_model : (shown : DocumentViews) (models : List ModelNode) (n : ℕ) (s : ModelNode)
    → shown.nodes ≡ map model_node_view models
    → IsTree models → slice_get models n ≡ Some s → tree_of shown s.place ≡ Some (view_of_model s)
tree_model shown models n s e tree g = rw e (node_first models n s g (λ i t h p. tree.unique i n t s h g p))

pub place_model : (shown : DocumentViews) (models : List ModelNode) (n : ℕ) (s : ModelNode)
    → shown.nodes ≡ map model_node_view models
    → slice_get models n ≡ Some s → node_place shown n ≡ s.place
place_model shown models n s e g = ap (λ (o : Option (Place × View)). (unwrap_or o ([], table [])).0)
    (stand shown models n s e g)

pub view_model : (shown : DocumentViews) (models : List ModelNode) (n : ℕ) (s : ModelNode)
    → shown.nodes ≡ map model_node_view models
    → IsTree models → slice_get models n ≡ Some s → node_view shown n ≡ view_of_model s
view_model shown models n s e tree g = ap (λ (p : Place). viewed (tree_of shown p))
    (place_model shown models n s e g) ∙ ap viewed (tree_model shown models n s e tree g)

pub within : (shown : DocumentViews) (nodes : List Node) (len n : ℕ) → Opened shown nodes → len ≡ length nodes
    → n < length shown.nodes → n < len
within shown nodes len n opens size lt =
    let l = opens.holds.len in
    let m : length shown.nodes ≡ length opens.models = ap length opens.nodes_are ∙
    length-map opens.models model_node_view in
    omega arith

text_remains : {text : List ℕ} {node : Node} {model : ModelNode} → RepresentsNode text node model
    → view_of_node text node ≡ view_of_model model
text_remains {text} {node} {model} k =
    ap (λ (s : Shape). view_of_shape s (names_of_node text node) (length (elements_of node.members))) k.shape
    ∙ ap (λ (ns : List (List ℕ)). view_of_shape model.shape ns (length (elements_of node.members)))
    (ap names_among k.members)
    ∙ ap (λ (es : List ℕ). view_of_shape model.shape (names_of model) (length es)) k.elements

pub found : (shown : DocumentViews) (nodes : List Node) (n : ℕ) (node : Node) → (opens : Opened shown nodes)
    → n < length shown.nodes → node ≡ get_or nodes n node → Found shown nodes opens.models n node
found shown nodes n node opens lt is =
    let e = slice_get_read nodes (length nodes) n node refl
    (within shown nodes (length nodes) n opens refl lt) is in
    let s = model_of_node nodes opens.models n node opens.holds.len e in
    record {
      model = s.0;
      stands = s.1;
      keeps = opens.holds.each n node s.0 e s.1;
      place = place_model shown opens.models n s.0 opens.nodes_are s.1;
      here = tree_model shown opens.models n s.0 opens.nodes_are opens.tree s.1;
      view = view_model shown opens.models n s.0 opens.nodes_are opens.tree s.1 ∙
          sym (text_remains (opens.holds.each n node s.0 e s.1));
    }
