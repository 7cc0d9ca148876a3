-- How assertions change the model and the nodes that represent it.
use Rattle.std.proofs.Common.{◌≡◌, ℕ, zero, suc, ◌+◌, ◌<◌, ◌≤◌, true, false, List, [], ◌∷◌, ◌++◌, length, get_or, Some, None, refl, sym, ap, subst, ◌∙◌, arith}
use Rattle.std.specs.Prelude.{slice_get, slice_set}
use Rattle.std.specs.Map.{lookup}
use Rattle.std.specs.Str.{bytes_eq}
use Rattle.std.proofs.lemmas.List.{length-set, length_push}
use Rattle.std.proofs.lemmas.Option.{slice_get_past, slice_get_read, same_Some}
use Rattle.edit_tree.specs.declared.nodes.Node.{Node}
use Rattle.edit_tree.specs.declared.nodes.DefinedBy.{DefinedBy}
use Rattle.edit_tree.specs.Assertions.{key}
use Rattle.edit_tree.specs.Redefinition.{can_extend, merged_definition}
use Rattle.edit_tree.specs.Nodes.{ModelNode, entries_of, number_in, RepresentsNode, RepresentsNodes, below}
use Rattle.edit_tree.specs.Walk.{child, with_definition, node_extended}
use Rattle.edit_tree.specs.WalkState.{HasNodes}
use Rattle.edit_syntax.proofs.ListElements.{OneMore, OneSet, changed, in_push, in_set, newest, other, stood}

-- ---- nodes and model nodes

pub holds_set : {text : List ℕ} (nodes : List Node) (models : List ModelNode) (t : ℕ) (new : Node) (s : ModelNode)
    → RepresentsNodes text nodes models → t < length nodes → RepresentsNode text new s
    → RepresentsNodes text (slice_set nodes t new) (slice_set models t s)
holds_set {text} nodes models t new s holds lt keeps = record {
  len = length-set nodes t new ∙ holds.len ∙ sym (length-set models t s);
  each = λ i node model a b. go i node model (in_set nodes t new i node lt a)
      (in_set models t s i model (let l = holds.len in omega arith) b);
}
  where
    go : (i : ℕ) (node : Node) (model : ModelNode) → OneSet nodes t new i node → OneSet models t s i model
        → RepresentsNode text node model
    go i node model (changed a e) (changed b f) = subst (λ (y : ModelNode). RepresentsNode text node y) (sym f)
        (subst (λ (y : Node). RepresentsNode text y s) (sym e) keeps)
    go i node model (changed a e) (other b f) = absurd (b a)
    go i node model (other a e) (changed b f) = absurd (a b)
    go i node model (other a e) (other b f) = holds.each i node model e f

pub holds_push : {text : List ℕ} (nodes : List Node) (models : List ModelNode) (last : Node) (s : ModelNode)
    → RepresentsNodes text nodes models → RepresentsNode text last s
    → RepresentsNodes text (nodes ++ last ∷ []) (models ++ s ∷ [])
holds_push {text} nodes models last s holds keeps = record {
  len = length_push nodes last ∙ ap (λ (n : ℕ). n + 1) holds.len ∙ sym (length_push models s);
  each = λ i node model a b. go i node model (in_push nodes last i node a) (in_push models s i model b);
}
  where
    go : (i : ℕ) (node : Node) (model : ModelNode) → OneMore nodes last i node → OneMore models s i model
        → RepresentsNode text node model
    go i node model (stood a e) (stood b f) = holds.each i node model e f
    go i node model (stood a e) (newest b f) = absurd (let l = holds.len in omega arith)
    go i node model (newest a e) (stood b f) = absurd (let l = holds.len in omega arith)
    go i node model (newest a e) (newest b f) = subst (λ (y : ModelNode). RepresentsNode text node y) (sym f)
        (subst (λ (y : Node). RepresentsNode text y s) (sym e) keeps)

pub model_of_node : (nodes : List Node) (models : List ModelNode) (n : ℕ) (node : Node)
    → length nodes ≡ length models
    → slice_get nodes n ≡ Some node → (s : ModelNode) × (slice_get models n ≡ Some s)
model_of_node [] [] n node l e = absurd cc
model_of_node [] (s ∷ ss) n node l e = absurd cc
model_of_node (x ∷ xs) [] n node l e = absurd (omega arith)
model_of_node (x ∷ xs) (s ∷ ss) zero node l e = (s, refl)
model_of_node (x ∷ xs) (s ∷ ss) (suc n) node l e = model_of_node xs ss n node (omega arith) e

-- the node at a number that is read, and its model node
pub record HasModel (text : List ℕ) (nodes : List Node) (models : List ModelNode) (t : ℕ) (node : Node) : Type 0 where
  pub stands : slice_get nodes t ≡ Some node
  pub model : ModelNode
  pub model_is : slice_get models t ≡ Some model
  pub keeps : RepresentsNode text node model

pub model_at : {text : List ℕ} (nodes : List Node) (models : List ModelNode) (t : ℕ) (node : Node)
    → RepresentsNodes text nodes models → t < length nodes → node ≡ get_or nodes t node
    → HasModel text nodes models t node
model_at nodes models t node holds lt is =
    let there = slice_get_read nodes (length nodes) t node refl lt is in
    let s = model_of_node nodes models t node holds.len there in
    record { stands = there; model = s.0; model_is = s.1; keeps = holds.each t node s.0 there s.1 }

-- ---- a place that is taken again

pub again_past : {text : List ℕ} (nodes : List Node) (models : List ModelNode) (t : ℕ) (taken : DefinedBy)
    → RepresentsNodes text nodes models → length nodes ≤ t → node_extended models t taken ≡ None
unfolding node_extended
again_past nodes models t taken holds le = rw (slice_get_past models t (let l = holds.len in omega arith)) refl

pub again_stopped : {text : List ℕ} (nodes : List Node) (models : List ModelNode) (t : ℕ) (node : Node)
    (taken : DefinedBy) → RepresentsNodes text nodes models → t < length nodes → node ≡ get_or nodes t node
    → can_extend node.taken taken ≡ false → node_extended models t taken ≡ None
unfolding node_extended
again_stopped nodes models t node taken holds lt is failure =
    let k = model_at nodes models t node holds lt is in
    let test : can_extend k.model.taken taken ≡ false = ap (λ (b : DefinedBy). can_extend b taken) (sym k.keeps.taken) ∙
    failure in
    rw (k.model_is, test) refl

pub again_done : {text : List ℕ} (nodes : List Node) (models : List ModelNode) (t : ℕ) (node old : Node)
    (taken now : DefinedBy) → RepresentsNodes text nodes models → t < length nodes → node ≡ get_or nodes t node
    → old ≡ get_or nodes t old → can_extend node.taken taken ≡ true → now ≡ merged_definition node.taken taken
    → HasNodes text (slice_set nodes t (record old { taken = now })) (node_extended models t taken) true
unfolding node_extended
again_done {text} nodes models t node old taken now holds lt is was granted strong =
    let k = model_at nodes models t node holds lt is in
    let one : old ≡ node = same_Some old node (sym (slice_get_read nodes (length nodes) t old refl lt was) ∙
    k.stands) in
    let test : can_extend k.model.taken taken ≡ true = ap (λ (b : DefinedBy). can_extend b taken) (sym k.keeps.taken) ∙
    granted in
    let keeps : RepresentsNode text (record old { taken = now }) (with_definition k.model taken) =
    subst (λ (n : Node). RepresentsNode text (record n { taken = now }) (with_definition k.model taken)) (sym one)
    (record {
      shape = k.keeps.shape;
      taken = strong ∙ ap (λ (b : DefinedBy). merged_definition b taken) k.keeps.taken;
      steps = k.keeps.steps;
      members = k.keeps.members;
      indexed = k.keeps.indexed;
      elements = k.keeps.elements;
      span = k.keeps.span;
    }) in (
      slice_set models t (with_definition k.model taken),
      rw (k.model_is, test) refl,
      holds_set nodes models t (record old { taken = now }) (with_definition k.model taken) holds lt keeps,
    )

-- ---- members by name

pub below_node : {text : List ℕ} (node : Node) (s : ModelNode) (name : List ℕ) → RepresentsNode text node s
    → below s (key name) ≡ number_in (entries_of text node.members) name
below_node node s name k = ap (lookup (λ n. bytes_eq name n)) (sym k.members)

pub child_past : {text : List ℕ} (nodes : List Node) (models : List ModelNode) (t : ℕ) (name : List ℕ)
    → RepresentsNodes text nodes models → length nodes ≤ t → child models t name ≡ None
unfolding child
child_past nodes models t name holds le = rw (slice_get_past models t (let l = holds.len in omega arith)) refl

pub child_is : (models : List ModelNode) (t : ℕ) (s : ModelNode) (name : List ℕ) → slice_get models t ≡ Some s
    → child models t name ≡ below s (key name)
unfolding child
child_is models t s name e = rw e refl

pub child_found : {text : List ℕ} (nodes : List Node) (models : List ModelNode) (t : ℕ) (node : Node)
    (name : List ℕ) → RepresentsNodes text nodes models → t < length nodes → node ≡ get_or nodes t node
    → child models t name ≡ number_in (entries_of text node.members) name
child_found nodes models t node name holds lt is =
    let k = model_at nodes models t node holds lt is in
    child_is models t k.model name k.model_is ∙ below_node node k.model name k.keeps
