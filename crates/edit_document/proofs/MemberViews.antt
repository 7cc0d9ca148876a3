-- The views of a node's members, and the walk along a place.
use Rattle.std.proofs.Common.{◌≡◌, ℕ, ◌+◌, ◌<◌, ◌≤◌, Bool, List, [], ◌∷◌, ◌++◌, length, get_or, take, drop, Option, Some, None, refl, sym, ap, subst, ◌∙◌, ◌⊎◌, inl, inr, arith, append_assoc, append-nil}
use Rattle.std.specs.Prelude.{map, slice_get, MatchOption, IfSome}
use Rattle.std.specs.Option.{option_copied}
use Rattle.std.specs.Borrow.{Bor}
use Rattle.std.proofs.lemmas.Option.{slice_get_past, slice_get_within, slice_get_read}
use Rattle.std.proofs.lemmas.List.{length-map, map-append, take_more, take-append-drop}
use Rattle.edit_syntax.specs.declared.span.Span.{Span}
use Rattle.edit_tree.specs.declared.nodes.DecodedText.{DecodedText}
use Rattle.edit_tree.specs.declared.nodes.Content.{Content}
use Rattle.edit_tree.specs.declared.nodes.Content.TheVariants as content
use Rattle.edit_tree.specs.declared.nodes.Node.{Node}
use Rattle.edit_document.specs.declared.document.Datum.{Datum}
use Rattle.edit_tree.specs.declared.place.Step.{Step as WrittenStep}
use Rattle.edit_tree.specs.Assertions.{Step, key, index, Place, at}
use Rattle.edit_tree.specs.Tree.{View}
use Rattle.edit_tree.specs.DocumentViews.{DocumentViews, tree_of}
use Rattle.edit_tree.specs.Nodes.{ModelNode, view_of_shape, model_node_view, shape_of, entries_of, elements_of, number_in, below, IsTree}
use Rattle.edit_document.specs.Items.{step_view, place_view, viewed, node_place, node_view, key_names, names_in, count_in, IsNodeIndex, Shows}
use Rattle.edit_tree.proofs.SamePlace.{last_same, not_root}
use Rattle.edit_syntax.proofs.ListElements.{slice_get_same}
use Rattle.edit_tree.proofs.ModelNodes.{below_node}
use Rattle.edit_document.proofs.Views.{Opened, view_of_model, node_none, names_of_node, Found, tree_model, place_model, view_model}

-- ---- members

-- the names of keys are the keys' names
pub names_keys : (names : List (List ℕ)) → key_names (map key names) ≡ names
names_keys [] = refl
names_keys (n ∷ ns) = ap (λ (m : List (List ℕ)). n ∷ m) (names_keys ns)

-- how many members there are
pub count_members : (text : List ℕ) (node : Node) → length (map key (names_of_node text node))
    ≡ length (entries_of text node.members)
count_members text node = length-map (names_of_node text node) key ∙
    length-map (entries_of text node.members) (λ e. e.0)

abbrev pub IsText : Content → Type 0
IsText x = (s : DecodedText) × (x ≡ content.Text s)

abbrev pub IsTruth : Content → Type 0
IsTruth x = (b : Bool) × (x ≡ content.Truth b)

abbrev pub IsInteger : Content → Type 0
IsInteger x = (s : Span) × (x ≡ content.Integer s)

abbrev pub IsFloat : Content → Type 0
IsFloat x = (s : Span) × (x ≡ content.Float s)

abbrev pub IsDateTime : Content → Type 0
IsDateTime x = (s : Span) × (x ≡ content.DateTime s)

-- a string, a boolean, a number, a date or a time
abbrev pub IsScalar : Content → Type 0
IsScalar x = IsText x ⊎ (IsTruth x ⊎ (IsInteger x ⊎ (IsFloat x ⊎ IsDateTime x)))

names_of_content : (shown : DocumentViews) (nodes : List Node) (models : List ModelNode) (n : ℕ) (node : Node) (x : Content)
    → Found shown nodes models n node → node.content ≡ x → names_in (node_view shown n)
    ≡ names_in (view_of_shape (shape_of shown.bytes x) (names_of_node shown.bytes node)
    (length (elements_of node.members)))
names_of_content shown nodes models n node x f is = ap names_in f.view ∙
    ap (λ (y : Content). names_in (view_of_shape (shape_of shown.bytes y) (names_of_node shown.bytes node)
    (length (elements_of node.members)))) is

-- what shows no names, and what does
pub names_none : (shown : DocumentViews) (nodes : List Node) (models : List ModelNode) (n : ℕ) (node : Node)
    → Found shown nodes models n node → IsText node.content
    ⊎ (IsTruth node.content
    ⊎ (IsInteger node.content
    ⊎ (IsFloat node.content
    ⊎ (IsDateTime node.content ⊎ ((node.content ≡ content.Array) ⊎ (node.content ≡ content.Tables))))))
    → names_in (node_view shown n) ≡ []
names_none shown nodes models n node f (inl t) = names_of_content shown nodes models n node
    (content.Text t.0) f t.1
names_none shown nodes models n node f (inr (inl t)) = names_of_content shown nodes models n node
    (content.Truth t.0) f t.1
names_none shown nodes models n node f (inr (inr (inl t))) =
    names_of_content shown nodes models n node (content.Integer t.0) f t.1
names_none shown nodes models n node f (inr (inr (inr (inl t)))) =
    names_of_content shown nodes models n node (content.Float t.0) f t.1
names_none shown nodes models n node f (inr (inr (inr (inr (inl t))))) =
    names_of_content shown nodes models n node (content.DateTime t.0) f t.1
names_none shown nodes models n node f (inr (inr (inr (inr (inr (inl t)))))) =
    names_of_content shown nodes models n node content.Array f t
names_none shown nodes models n node f (inr (inr (inr (inr (inr (inr t)))))) =
    names_of_content shown nodes models n node content.Tables f t

pub names_tabular : (shown : DocumentViews) (nodes : List Node) (models : List ModelNode) (n : ℕ) (node : Node)
    → Found shown nodes models n node → (node.content ≡ content.Inline) ⊎ (node.content ≡ content.Table)
    → names_in (node_view shown n) ≡ names_of_node shown.bytes node
names_tabular shown nodes models n node f (inl t) =
    names_of_content shown nodes models n node content.Inline f t ∙ names_keys (names_of_node shown.bytes node)
names_tabular shown nodes models n node f (inr t) =
    names_of_content shown nodes models n node content.Table f t ∙ names_keys (names_of_node shown.bytes node)

-- a node of this content has so many parts
pub count_shown : (shown : DocumentViews) (nodes : List Node) (models : List ModelNode) (n : ℕ) (node : Node) (x : Content)
    → Found shown nodes models n node → node.content ≡ x → count_in (node_view shown n)
    ≡ count_in (view_of_shape (shape_of shown.bytes x) (names_of_node shown.bytes node)
    (length (elements_of node.members)))
count_shown shown nodes models n node x f is = ap count_in f.view ∙
    ap (λ (y : Content). count_in (view_of_shape (shape_of shown.bytes y) (names_of_node shown.bytes node)
    (length (elements_of node.members)))) is

pub count_scalar : (shown : DocumentViews) (nodes : List Node) (models : List ModelNode) (n : ℕ) (node : Node)
    → Found shown nodes models n node → IsScalar node.content → count_in (node_view shown n) ≡ 0
count_scalar shown nodes models n node f (inl t) = count_shown shown nodes models n node
    (content.Text t.0) f t.1
count_scalar shown nodes models n node f (inr (inl t)) = count_shown shown nodes models n node
    (content.Truth t.0) f t.1
count_scalar shown nodes models n node f (inr (inr (inl t))) =
    count_shown shown nodes models n node (content.Integer t.0) f t.1
count_scalar shown nodes models n node f (inr (inr (inr (inl t)))) =
    count_shown shown nodes models n node (content.Float t.0) f t.1
count_scalar shown nodes models n node f (inr (inr (inr (inr t)))) =
    count_shown shown nodes models n node (content.DateTime t.0) f t.1

pub count_elements : (shown : DocumentViews) (nodes : List Node) (models : List ModelNode) (n : ℕ) (node : Node)
    → Found shown nodes models n node → (node.content ≡ content.Array) ⊎ (node.content ≡ content.Tables)
    → count_in (node_view shown n) ≡ length (elements_of node.members)
count_elements shown nodes models n node f (inl t) = count_shown shown nodes models n node content.Array f t
count_elements shown nodes models n node f (inr t) = count_shown shown nodes models n node content.Tables f t

pub count_tabular : (shown : DocumentViews) (nodes : List Node) (models : List ModelNode) (n : ℕ) (node : Node)
    → Found shown nodes models n node → (node.content ≡ content.Inline) ⊎ (node.content ≡ content.Table)
    → count_in (node_view shown n) ≡ length (entries_of shown.bytes node.members)
count_tabular shown nodes models n node f (inl t) = count_shown shown nodes models n node content.Inline f t ∙
    count_members shown.bytes node
count_tabular shown nodes models n node f (inr t) = count_shown shown nodes models n node content.Table f t ∙
    count_members shown.bytes node

-- what a node shows
abbrev pub shows_content : List ℕ → Node → Content → Datum → Type 0
shows_content text node x s =
    Shows (view_of_shape (shape_of text x) (names_of_node text node) (length (elements_of node.members))) s

pub shows : (shown : DocumentViews) (nodes : List Node) (models : List ModelNode) (n : ℕ) (node : Node) (x : Content)
    (s : Datum) → Found shown nodes models n node → node.content ≡ x → shows_content shown.bytes node x s
    → Shows (node_view shown n) s
shows shown nodes models n node x s f is h = subst (λ (v : View). Shows v s) (sym f.view)
    (subst (λ (y : Content). shows_content shown.bytes node y s) (sym is) h)

-- what a slice gives at an index
pub got : (xs : List ℕ) (i : ℕ) (Q : Bor ℕ → Type 0) (r : Option (Bor ℕ))
    → MatchOption r (length xs ≤ i) (λ x. (i < length xs) × Q x) → IfSome r (λ x. x.now ≡ get_or xs i x.now)
    → option_copied r ≡ slice_get xs i
got xs i Q None h k = sym (slice_get_past xs i h)
got xs i Q (Some x) h k = sym (slice_get_read xs (length xs) i x.now refl h.0 k)

-- nothing stands one step below a node that has no such part
absent : (models : List ModelNode) (tree : IsTree models) (n : ℕ) (s : ModelNode) (x : Step)
    → slice_get models n ≡ Some s
    → below s x ≡ None → (i : ℕ) (t : ModelNode) → slice_get models i ≡ Some t → t.place ≡ at s.place x → ⊥
absent models tree n s x stands none i t g p =
    elim (tree.up i t g) [
      | inl root ↦ not_root s.place x (sym p ∙ root)
      | inr m ↦
          let same = last_same m.upper.place s.place m.step x (sym m.place_is ∙ p) in
          let number : m.above ≡ n = tree.unique m.above n m.upper s m.stands stands same.0 in
          let model : m.upper ≡ s = slice_get_same models n m.upper s (ap (slice_get models) (sym number) ∙
          m.stands) stands in
          let some : below s x ≡ Some i = ap (λ (u : ModelNode). below u x) (sym model) ∙
          ap (below m.upper) (sym same.1) ∙ m.listed in
          let clash : None ≡ Some i = sym none ∙ some in
          absurd cc
    ]

-- the number of what stands one step below a node
pub part_here : (shown : DocumentViews) (nodes : List Node) (n : ℕ) (node : Node) (x : Step) (r : Option ℕ)
    → (opens : Opened shown nodes) → (f : Found shown nodes opens.models n node) → r ≡ below f.model x
    → IsNodeIndex shown (at (node_place shown n) x) r
part_here shown nodes n node x None opens f e = rw (f.place, opens.nodes_are)
    (node_none opens.models (at f.model.place x) (absent opens.models opens.tree n f.model x f.stands (sym e)))
part_here shown nodes n node x (Some m) opens f e =
    let s = opens.tree.down n m f.model x f.stands (sym e) in
    let place : s.0.place ≡ at (node_place shown n) x = s.2 ∙ ap (λ (p : Place). at p x) (sym f.place) in
    let tree = tree_model shown opens.models m s.0 opens.nodes_are opens.tree s.1 in
    let view = view_model shown opens.models m s.0 opens.nodes_are opens.tree s.1 in
    let lt = slice_get_within opens.models m s.0 s.1 in
    let l : length shown.nodes ≡ length opens.models = ap length opens.nodes_are ∙
    length-map opens.models model_node_view in (
      ap (tree_of shown) (sym place) ∙ tree ∙ ap (λ (v : View). Some v) (sym view),
      place_model shown opens.models m s.0 opens.nodes_are s.1 ∙ place,
      omega arith,
    )

pub member_here : (shown : DocumentViews) (nodes : List Node) (n : ℕ) (node : Node) (name : List ℕ) (r : Option ℕ)
    → (opens : Opened shown nodes) → Found shown nodes opens.models n node
    → r ≡ number_in (entries_of shown.bytes node.members) name
    → IsNodeIndex shown (at (node_place shown n) (key name)) r
member_here shown nodes n node name r opens f e = part_here shown nodes n node (key name) r opens f
    (e ∙ sym (below_node node f.model name f.keeps))

pub element_here : (shown : DocumentViews) (nodes : List Node) (n : ℕ) (node : Node) (i : ℕ) (r : Option ℕ)
    → (opens : Opened shown nodes) → Found shown nodes opens.models n node
    → r ≡ slice_get (elements_of node.members) i
    → IsNodeIndex shown (at (node_place shown n) (index i)) r
element_here shown nodes n node i r opens f e = part_here shown nodes n node (index i) r opens f
    (e ∙ ap (λ (es : List ℕ). slice_get es i) f.keeps.elements)

-- a node stands at its place
pub node_stands : (shown : DocumentViews) (nodes : List Node) (n : ℕ) (node : Node) (opens : Opened shown nodes)
    → Found shown nodes opens.models n node → tree_of shown (node_place shown n)
    ≡ Some (node_view shown n)
node_stands shown nodes n node opens f = ap (tree_of shown) f.place ∙ f.here ∙
    ap (λ (v : View). Some v) (sym (ap viewed (ap (tree_of shown) f.place ∙ f.here)))

-- nothing stands below a place where nothing stands
step_none : (shown : DocumentViews) (nodes : List Node) (place : Place) (x : Step) → Opened shown nodes
    → tree_of shown place ≡ None → tree_of shown (at place x) ≡ None
step_none shown nodes place x opens none = rw opens.nodes_are
    (node_none opens.models (at place x) (λ j t g p. elim (opens.tree.up j t g) [
      | inl root ↦ not_root place x (sym p ∙ root)
      | inr m ↦
          let same = last_same m.upper.place place m.step x (sym m.place_is ∙ p) in
          let some = tree_model shown opens.models m.above m.upper opens.nodes_are opens.tree m.stands in
          let no : None ≡ Some (view_of_model m.upper) = sym none ∙ ap (tree_of shown) (sym same.0) ∙ some in
          absurd cc
    ]))

pub nothing_below : (shown : DocumentViews) (nodes : List Node) (more place : Place) → Opened shown nodes
    → tree_of shown place ≡ None → tree_of shown (place ++ more) ≡ None
nothing_below shown nodes [] place opens none = ap (tree_of shown) (append-nil place) ∙ none
nothing_below shown nodes (x ∷ more) place opens none =
    ap (tree_of shown) (sym (append_assoc place (x ∷ []) more)) ∙
    nothing_below shown nodes more (at place x) opens (step_none shown nodes place x opens none)

pub root_stands : (shown : DocumentViews) (nodes : List Node) → Opened shown nodes → (0 < length shown.nodes)
    × (node_place shown 0 ≡ [])
root_stands shown nodes opens =
    let r = opens.tree.root in
    let l : length shown.nodes ≡ length opens.models = ap length opens.nodes_are ∙
    length-map opens.models model_node_view in
    let lt = slice_get_within opens.models 0 r.0 r.1 in
    (omega arith, place_model shown opens.models 0 r.0 opens.nodes_are r.1 ∙ r.2)

-- ---- the walk along a place

pub place_more : (steps : List WrittenStep) (i : ℕ) (step : WrittenStep) → i < length steps
    → step ≡ get_or steps i step → place_view (take (i + 1) steps)
    ≡ at (place_view (take i steps)) (step_view step)
place_more steps i step lt is =
    ap (map step_view) (take_more steps i step lt) ∙ map-append step_view (take i steps)
    (get_or steps i step ∷ []) ∙ ap (λ (x : WrittenStep). at (place_view (take i steps)) (step_view x))
    (sym is)

-- nothing stands at a place where nothing stands on the way
pub walk_none : (shown : DocumentViews)
    → ((place more : Place) → tree_of shown place ≡ None → tree_of shown (place ++ more) ≡ None)
    → (steps : List WrittenStep) (i : ℕ) (step : WrittenStep) → i < length steps → step ≡ get_or steps i step
    → (p : Place) → p ≡ place_view (take i steps) → tree_of shown (at p (step_view step)) ≡ None
    → tree_of shown (place_view steps) ≡ None
walk_none shown below steps i step lt is p here none =
    let front : at p (step_view step) ≡ place_view (take (i + 1) steps) =
    ap (λ (q : Place). at q (step_view step)) here ∙ sym (place_more steps i step lt is) in
    let whole : place_view steps ≡ place_view (take (i + 1) steps) ++ place_view (drop (i + 1) steps) =
    ap (map step_view) (sym (take-append-drop (i + 1) steps)) ∙
    map-append step_view (take (i + 1) steps) (drop (i + 1) steps) in
    ap (tree_of shown) whole ∙ below (place_view (take (i + 1) steps)) (place_view (drop (i + 1) steps))
    (ap (tree_of shown) (sym front) ∙ none)
