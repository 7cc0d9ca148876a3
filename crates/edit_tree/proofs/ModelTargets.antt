-- The node that an assertion extends, and nodes with one more member or element.
use Rattle.std.proofs.Common.{◌≡◌, ℕ, ◌+◌, ◌<◌, ◌≤◌, true, false, List, [], ◌∷◌, ◌++◌, length, get_or, Option, Some, None, refl, sym, ap, subst, ◌∙◌, arith}
use Rattle.std.specs.Prelude.{slice_get, slice_set, nat_le, unwrap_or}
use Rattle.std.proofs.lemmas.Bool.Decides.{nat_tests}
use Rattle.std.proofs.lemmas.List.{length_push}
use Rattle.std.proofs.lemmas.Option.{slice_get_past}
use Rattle.edit_tree.specs.declared.nodes.Node.{Node}
use Rattle.edit_syntax.specs.declared.span.Span.{Span}
use Rattle.edit_tree.specs.declared.nodes.Content.{Content}
use Rattle.edit_tree.specs.declared.nodes.DefinedBy.{DefinedBy}
use Rattle.edit_tree.specs.declared.nodes.DefinedBy.TheVariants.{Dotted, Value, Super, Header, Array, Element}
use Rattle.edit_tree.specs.Assertions.{key, index, Place, at}
use Rattle.edit_tree.specs.Nodes.{Shape, ModelNode, shape_of, entries_of, elements_of, IsIndexed, RepresentsNode, RepresentsNodes}
use Rattle.edit_tree.specs.Walk.{last_table, model_node_at, target_of, with_member, with_element, member_added, element_added}
use Rattle.edit_tree.proofs.ModelNodes.{holds_set, holds_push, model_at}

-- ---- targets

pub target_past : {text : List ℕ} (nodes : List Node) (models : List ModelNode) (t : ℕ)
    → RepresentsNodes text nodes models
    → length nodes ≤ t → target_of models t Super ≡ t
unfolding target_of
target_past nodes models t holds le = rw (slice_get_past models t (let l = holds.len in omega arith)) refl

pub target_is : (models : List ModelNode) (t : ℕ) (s : ModelNode) → slice_get models t ≡ Some s
    → target_of models t Super ≡ unwrap_or (last_table s.shape s.elements) t
unfolding target_of
target_is models t s e = rw e refl

pub target_found : {text : List ℕ} (nodes : List Node) (models : List ModelNode) (t : ℕ) (node : Node)
    → RepresentsNodes text nodes models → t < length nodes → node ≡ get_or nodes t node
    → target_of models t Super ≡ unwrap_or (last_table (shape_of text node.content) (elements_of node.members)) t
target_found {text} nodes models t node holds lt is =
    let k = model_at nodes models t node holds lt is in
    target_is models t k.model k.model_is ∙ ap (λ (x : Shape). unwrap_or (last_table x k.model.elements) t)
    (sym k.keeps.shape) ∙ ap (λ (ns : List ℕ). unwrap_or (last_table (shape_of text node.content) ns) t)
    (sym k.keeps.elements)

pub target_other : (models : List ModelNode) (t : ℕ) (taken : DefinedBy) → (taken ≡ Super → ⊥)
    → target_of models t taken ≡ t
unfolding target_of
target_other models t Super ne = absurd (ne refl)
target_other models t Dotted ne = refl
target_other models t Value ne = refl
target_other models t Header ne = refl
target_other models t Array ne = refl
target_other models t Element ne = refl

-- ---- a member more, and an element more

pub deepest : (n : ℕ) → nat_le 80 n ≡ true → 80 ≤ n
deepest n e = grind (arith, nat_tests)

pub not_deepest : (n : ℕ) → nat_le 80 n ≡ false → n < 80
not_deepest n e = grind (arith, nat_tests)

pub added_past : {text : List ℕ} (nodes : List Node) (models : List ModelNode) (t : ℕ) (name : List ℕ)
    (shape : Shape) (taken : DefinedBy) (span : Option Span) → RepresentsNodes text nodes models → length nodes ≤ t
    → member_added models t name shape taken span ≡ None
unfolding member_added
added_past nodes models t name shape taken span holds le =
    rw (slice_get_past models t (let l = holds.len in omega arith)) refl

pub added_long : (models : List ModelNode) (t : ℕ) (name : List ℕ) (shape : Shape) (taken : DefinedBy)
    (span : Option Span) (s : ModelNode) → slice_get models t ≡ Some s → 80 ≤ length s.place
    → member_added models t name shape taken span ≡ None
unfolding member_added
added_long models t name shape taken span s e le = let test : nat_le 80 (length s.place) ≡ true =
    grind (arith, nat_tests) in rw (e, test) refl

pub added_made : (models : List ModelNode) (t : ℕ) (name : List ℕ) (shape : Shape) (taken : DefinedBy)
    (span : Option Span) (s : ModelNode) → slice_get models t ≡ Some s → length s.place < 80
    → member_added models t name shape taken span
    ≡ Some (
      slice_set models t (with_member s name (length models)) ++ model_node_at
          (at s.place (key name)) shape taken span ∷ [],
      length models,
    )
unfolding member_added
added_made models t name shape taken span s e lt = let test : nat_le 80 (length s.place) ≡ false =
    grind (arith, nat_tests) in rw (e, test) refl

pub add_stopped : {text : List ℕ} (nodes : List Node) (models : List ModelNode) (t : ℕ) (node : Node)
    (name : List ℕ) (shape : Shape) (taken : DefinedBy) (span : Option Span) → RepresentsNodes text nodes models
    → t < length nodes → node ≡ get_or nodes t node → 80 ≤ node.steps
    → member_added models t name shape taken span ≡ None
add_stopped nodes models t node name shape taken span holds lt is le =
    let k = model_at nodes models t node holds lt is in
    added_long models t name shape taken span k.model k.model_is (let e = k.keeps.steps in omega arith)

-- a node into whose members a name was inserted, where it was not
pub record Inserted (text : List ℕ) (old new : Node) (name : List ℕ) (count : ℕ) : Type 0 where
  pub content : new.content ≡ old.content
  pub taken : new.taken ≡ old.taken
  pub steps : new.steps ≡ old.steps
  pub span : new.span ≡ old.span
  pub elements : elements_of new.members ≡ elements_of old.members
  pub entries : entries_of text new.members ≡ entries_of text old.members ++ (name, count) ∷ []
  pub indexed : IsIndexed text new.members

-- a node without members, one step below another
pub record Starts (text : List ℕ) (new : Node) (content : Content) (taken : DefinedBy) (steps : ℕ)
    (span : Option Span) : Type 0 where
  pub content_is : new.content ≡ content
  pub taken_is : new.taken ≡ taken
  pub steps_are : new.steps ≡ steps + 1
  pub span_is : new.span ≡ span
  pub empty : entries_of text new.members ≡ []
  pub indexed : IsIndexed text new.members
  pub none : elements_of new.members ≡ []

starts_keeps : (text : List ℕ) (new : Node) (content : Content) (taken : DefinedBy) (steps : ℕ)
    (span : Option Span) (place : Place) → Starts text new content taken steps span → length place ≡ steps + 1
    → RepresentsNode text new (model_node_at place (shape_of text content) taken span)
starts_keeps text new content taken steps span place h e = record {
  shape = ap (shape_of text) h.content_is;
  taken = h.taken_is;
  steps = h.steps_are ∙ sym e;
  members = h.empty;
  indexed = h.indexed;
  elements = h.none;
  span = h.span_is;
}

gained_keeps : {text : List ℕ} (old new : Node) (name : List ℕ) (count : ℕ) (s : ModelNode)
    → RepresentsNode text old s
    → Inserted text old new name count → RepresentsNode text new (with_member s name count)
gained_keeps {text} old new name count s keeps i =
    record {
      shape = ap (shape_of text) i.content ∙ keeps.shape;
      taken = i.taken ∙ keeps.taken;
      steps = i.steps ∙ keeps.steps;
      members = i.entries ∙ ap (λ (ms : List (List ℕ × ℕ)). ms ++ (name, count) ∷ []) keeps.members;
      indexed = i.indexed;
      elements = i.elements ∙ keeps.elements;
      span = i.span ∙ keeps.span;
    }

pub add_done : {text : List ℕ} (nodes nodes2 : List Node) (models : List ModelNode) (t count : ℕ)
    (old node2 last : Node) (name : List ℕ) (content : Content) (taken : DefinedBy) (span : Option Span)
    → RepresentsNodes text nodes models → t < count → count ≡ length nodes
    → old ≡ get_or nodes t old → old.steps < 80 → Inserted text old node2 name count
    → Starts text last content taken old.steps span → nodes2 ≡ slice_set nodes t node2 ++ last ∷ []
    → (made : List ModelNode) × (member_added models t name (shape_of text content) taken span ≡ Some (made, count))
    × RepresentsNodes text nodes2 made
add_done {text} nodes nodes2 models t count old node2 last name content taken span holds lt size was few
    inserted starts made =
    let lt2 : t < length nodes = omega arith in
    let k = model_at nodes models t old holds lt2 was in
    let number : count ≡ length models = size ∙ holds.len in
    let long : length (at k.model.place (key name)) ≡ old.steps + 1 = length_push k.model.place (key name) ∙
    ap (λ (n : ℕ). n + 1) (sym k.keeps.steps) in
    let first = holds_set nodes models t node2 (with_member k.model name count) holds lt2
    (gained_keeps old node2 name count k.model k.keeps inserted) in
    let both = holds_push (slice_set nodes t node2) (slice_set models t (with_member k.model name count)) last
    (model_node_at (at k.model.place (key name)) (shape_of text content) taken span) first
    (starts_keeps text last content taken old.steps span (at k.model.place (key name)) starts long) in
    let fits : length k.model.place < 80 = (let e = k.keeps.steps in omega arith) in (
      slice_set models t (with_member k.model name count) ++ model_node_at (at k.model.place (key name))
          (shape_of text content) taken span ∷ [],
      added_made models t name (shape_of text content) taken span k.model k.model_is fits
          ∙ ap (λ (n : ℕ). Some (
            slice_set models t (with_member k.model name n) ++ model_node_at (at k.model.place (key name))
                (shape_of text content) taken span ∷ [],
            n,
          )) (sym number),
      subst (λ (ns : List Node). RepresentsNodes text ns (slice_set models t (with_member k.model name count) ++ model_node_at
          (at k.model.place (key name)) (shape_of text content) taken span ∷ [])) (sym made) both,
    )

pub element_past : {text : List ℕ} (nodes : List Node) (models : List ModelNode) (t : ℕ) (shape : Shape)
    (taken : DefinedBy) (span : Option Span) → RepresentsNodes text nodes models → length nodes ≤ t
    → element_added models t shape taken span ≡ None
unfolding element_added
element_past nodes models t shape taken span holds le =
    rw (slice_get_past models t (let l = holds.len in omega arith)) refl

pub element_long : (models : List ModelNode) (t : ℕ) (shape : Shape) (taken : DefinedBy) (span : Option Span) (s : ModelNode)
    → slice_get models t ≡ Some s → 80 ≤ length s.place → element_added models t shape taken span ≡ None
unfolding element_added
element_long models t shape taken span s e le = let test : nat_le 80 (length s.place) ≡ true =
    grind (arith, nat_tests) in rw (e, test) refl

pub element_made : (models : List ModelNode) (t : ℕ) (shape : Shape) (taken : DefinedBy) (span : Option Span) (s : ModelNode)
    → slice_get models t ≡ Some s → length s.place < 80
    → element_added models t shape taken span
    ≡ Some (
      slice_set models t (with_element s (length models)) ++ model_node_at
          (at s.place (index (length s.elements))) shape taken span ∷ [],
      length models,
    )
unfolding element_added
element_made models t shape taken span s e lt = let test : nat_le 80 (length s.place) ≡ false =
    grind (arith, nat_tests) in rw (e, test) refl

pub element_stopped : {text : List ℕ} (nodes : List Node) (models : List ModelNode) (t : ℕ) (node : Node)
    (shape : Shape) (taken : DefinedBy) (span : Option Span) → RepresentsNodes text nodes models → t < length nodes
    → node ≡ get_or nodes t node → 80 ≤ node.steps → element_added models t shape taken span ≡ None
element_stopped nodes models t node shape taken span holds lt is le =
    let k = model_at nodes models t node holds lt is in
    element_long models t shape taken span k.model k.model_is (let e = k.keeps.steps in omega arith)

-- a node with an element more
pub record Extended (text : List ℕ) (old new : Node) (count : ℕ) : Type 0 where
  pub content : new.content ≡ old.content
  pub taken : new.taken ≡ old.taken
  pub steps : new.steps ≡ old.steps
  pub span : new.span ≡ old.span
  pub entries : entries_of text new.members ≡ entries_of text old.members
  pub indexed : IsIndexed text old.members → IsIndexed text new.members
  pub elements : elements_of new.members ≡ elements_of old.members ++ count ∷ []

extended_keeps : {text : List ℕ} (old new : Node) (count : ℕ) (s : ModelNode) → RepresentsNode text old s
    → Extended text old new count → RepresentsNode text new (with_element s count)
extended_keeps {text} old new count s keeps i = record {
  shape = ap (shape_of text) i.content ∙ keeps.shape;
  taken = i.taken ∙ keeps.taken;
  steps = i.steps ∙ keeps.steps;
  members = i.entries ∙ keeps.members;
  indexed = i.indexed keeps.indexed;
  elements = i.elements ∙ ap (λ (ns : List ℕ). ns ++ count ∷ []) keeps.elements;
  span = i.span ∙ keeps.span;
}

pub element_done : {text : List ℕ} (nodes nodes2 : List Node) (models : List ModelNode) (t count : ℕ)
    (old node2 last : Node) (content : Content) (taken : DefinedBy) (span : Option Span) → RepresentsNodes text nodes models
    → t < count → count ≡ length nodes → old ≡ get_or nodes t old → old.steps < 80
    → Extended text old node2 count
    → Starts text last content taken old.steps span → nodes2 ≡ slice_set nodes t node2 ++ last ∷ []
    → (made : List ModelNode) × (element_added models t (shape_of text content) taken span ≡ Some (made, count))
    × RepresentsNodes text nodes2 made
element_done {text} nodes nodes2 models t count old node2 last content taken span holds lt size was few
    extended starts made =
    let lt2 : t < length nodes = omega arith in
    let k = model_at nodes models t old holds lt2 was in
    let number : count ≡ length models = size ∙ holds.len in
    let place = at k.model.place (index (length k.model.elements)) in
    let long : length (at k.model.place (index (length k.model.elements))) ≡ old.steps + 1 =
    length_push k.model.place (index (length k.model.elements)) ∙ ap (λ (n : ℕ). n + 1) (sym k.keeps.steps) in
    let first = holds_set nodes models t node2 (with_element k.model count) holds lt2
    (extended_keeps old node2 count k.model k.keeps extended) in
    let keeps : RepresentsNode text last (model_node_at place (shape_of text content) taken span) =
    starts_keeps text last content taken old.steps span place starts long in
    let both = holds_push (slice_set nodes t node2) (slice_set models t (with_element k.model count)) last
    (model_node_at place (shape_of text content) taken span) first keeps in
    let fits : length k.model.place < 80 = (let e = k.keeps.steps in omega arith) in (
      slice_set models t (with_element k.model count) ++ model_node_at place (shape_of text content) taken span ∷ [],
      element_made models t (shape_of text content) taken span k.model k.model_is fits ∙
          ap (λ (n : ℕ). Some (
            slice_set models t (with_element k.model n) ++ model_node_at place
                (shape_of text content) taken span ∷ [],
            n,
          )) (sym number),
      subst (λ (ns : List Node). RepresentsNodes text ns (slice_set models t (with_element k.model count) ++ model_node_at place
          (shape_of text content) taken span ∷ [])) (sym made) both,
    )
