-- What the nodes of a document decide about the statements that name their places.
use Rattle.std.proofs.Common.{◌≡◌, ℕ, true, false, List, [], ◌∷◌, length, Option, Some, None, refl, sym, ap, subst, ◌∙◌, arith}
use Rattle.std.specs.Prelude.{map, slice_get, IsUtf8, string_bytes}
use Rattle.std.proofs.lemmas.Option.{same_Some}
use Rattle.edit_syntax.specs.Grammar.{Text}
use Rattle.edit_document.specs.declared.document.Document.TheInside.{Inside}
use Rattle.edit_tree.specs.declared.nodes.Node.{Node}
use Rattle.edit_tree.specs.declared.nodes.DefinedBy.{DefinedBy}
use Rattle.edit_tree.specs.declared.nodes.DefinedBy.TheVariants.{Dotted, Value, Super, Header, Array, Element}
use Rattle.edit_document.specs.declared.one_statement.Statements.TheVariants.{AsMember}
use Rattle.edit_tree.specs.Assertions.{Step, key, Place, at, assertions, IsDocument}
use Rattle.edit_document.specs.Compared.{AreNames, nth_part}
use Rattle.edit_document.specs.DocumentLayout.{placed, IsRead, document_view_of}
use Rattle.edit_tree.specs.EditBytes.{is_one_statement}
use Rattle.edit_document.specs.Items.{names_in, node_place, node_view, IsNodeIndex}
use Rattle.edit_tree.specs.Nodes.{names_of}
use Rattle.edit_document.specs.OneStatement.{HasMember, IsStatementCount}
use Rattle.edit_tree.specs.DocumentViews.{DocumentViews, tree_of}
use Rattle.edit_tree.specs.Written.{values}
use Rattle.edit_document.proofs.AssertedModels.{Stands}
use Rattle.edit_document.proofs.NodeStatements.{value_states, super_states, array_states, headed_states, names_seen, only_states, other_states}
use Rattle.edit_tree.proofs.Shallow.{one_form}
use Rattle.edit_document.proofs.ShownForms.{shown_bytes}
use Rattle.edit_document.proofs.Views.{Opened, opened, Found, view_model}
use Rattle.edit_document.proofs.Wholes.{stands_of}

-- the model nodes of a document represent the assertions of its form
pub stood : (inside : Inside) (d : DocumentViews) (read : IsRead inside) (view : document_view_of inside ≡ d)
    → IsUtf8 (string_bytes inside.text) → (form : Text) → IsDocument d.bytes form
    → Stands (assertions form) (map placed (values form)) (opened inside d read view).models
unfolding opened
stood inside d read view u form manifest =
    subst (λ g. Stands (assertions g) (map placed (values g)) read.models)
    (one_form d.bytes read.form form
    (subst (λ b. IsDocument b read.form) (shown_bytes inside d view) read.manifest) manifest)
    (stands_of inside read u)

-- a node that is a member
module _ (d : DocumentViews) (nodes : List Node) (opens : Opened d nodes) (n : ℕ) (node : Node)
    (f : Found d nodes opens.models n node) (form : Text)
    (st : Stands (assertions form) (map placed (values form)) opens.models) (upper : Place) (name : List ℕ)
    (place : node_place d n ≡ at upper (key name)) where
  there : f.model.place ≡ at upper (key name)
  there = sym f.place ∙ place

  here_is : is_one_statement form (node_place d n) ≡ is_one_statement form f.model.place
  here_is = ap (λ p. is_one_statement form p) f.place

  taken : (t : DefinedBy) → node.taken ≡ t → f.model.taken ≡ t
  taken t e = sym f.keeps.taken ∙ e

  pub value_answer : node.taken ≡ Value → is_one_statement form (node_place d n) ≡ true
  value_answer e = here_is ∙ value_states form opens.models n f.model st f.stands upper name there
      (taken Value e)

  pub super_answer : node.taken ≡ Super → is_one_statement form (node_place d n) ≡ false
  super_answer e = here_is ∙ super_states form opens.models n f.model st f.stands upper name there
      (taken Super e)

  pub array_answer : node.taken ≡ Array → is_one_statement form (node_place d n) ≡ false
  array_answer e = here_is ∙ array_states form opens.models n f.model st f.stands upper name there
      (taken Array e)

  pub header_answer : node.taken ≡ Header → is_one_statement form (node_place d n) ≡ false
  header_answer e = here_is ∙ headed_states form opens.models n f.model st f.stands upper name there Header
      (taken Header e) refl refl

  pub element_answer : node.taken ≡ Element → is_one_statement form (node_place d n) ≡ false
  element_answer e = here_is ∙ headed_states form opens.models n f.model st f.stands upper name there Element
      (taken Element e) refl refl

  -- the names in the view are those of the model node
  names_are : node.taken ≡ Dotted → names_in (node_view d n) ≡ names_of f.model
  names_are e =
      ap (λ v. names_in v) (view_model d opens.models n f.model opens.nodes_are opens.tree f.stands)
      ∙ names_seen form opens.models n f.model st f.stands upper name there (taken Dotted e)

  pub only_answer : node.taken ≡ Dotted → (m : ℕ) → HasMember d n (Some m)
      → IsStatementCount form d n (AsMember m)
  only_answer e m h = (
    here_is ∙ only_states form opens.models n f.model st f.stands upper name there (taken Dotted e) h.0
        (sym (names_are e) ∙ h.1)
        ∙ ap (λ p. is_one_statement form (at p (key h.0))) (sym f.place) ∙
        ap (λ p. is_one_statement form p) (sym h.2.1),
    (h.0, h.2),
  )

  pub other_answer : node.taken ≡ Dotted → HasMember d n None
      → is_one_statement form (node_place d n) ≡ false
  other_answer e h =
      here_is ∙ other_states form opens.models n f.model st f.stands upper name there (taken Dotted e)
      (λ one. h (ap length (names_are e) ∙ one))

-- ---- the only member

single : (ns : List (List ℕ)) (name : List ℕ) → length ns ≡ 1 → slice_get ns 0 ≡ Some name → ns ≡ name ∷ []
single [] name e f = absurd cc
single (m ∷ []) name e f = ap (λ x. x ∷ []) (same_Some m name f)
single (m ∷ l ∷ ns) name e f = absurd (omega (arith, e))

pub first_none : (ns : List (List ℕ)) → slice_get ns 0 ≡ None → length ns ≡ 1 → ⊥
first_none [] e f = omega (arith, f)
first_none (m ∷ ns) e f = cc

pub only_found : (d : DocumentViews) (n : ℕ) (name : List ℕ) (r : Option ℕ)
    → length (names_in (node_view d n)) ≡ 1 → slice_get (names_in (node_view d n)) 0 ≡ Some name
    → ((step : Step) (i : ℕ) → nth_part (node_view d n) i ≡ Some step
    → tree_of d (at (node_place d n) step) ≡ None → ⊥) → AreNames (node_view d n)
    → IsNodeIndex d (at (node_place d n) (key name)) r → HasMember d n r
only_found d n name None one first stands names none = absurd (stands (key name) 0 (names 0 name first) none)
only_found d n name (Some m) one first stands names h =
    (name, single (names_in (node_view d n)) name one first, (h.2, h.1))
