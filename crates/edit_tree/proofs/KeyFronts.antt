-- Defining members and the front parts of a key, as the code does it.
use Rattle.std.proofs.Common.{◌≡◌, ℕ, ◌+◌, ◌<◌, true, List, [], ◌∷◌, length, drop, get_or, Option, Some, None, refl, sym, ap, subst, ◌∙◌}
use Rattle.std.specs.Prelude.{map}
use Rattle.std.proofs.lemmas.Option.{slice_get_read}
use Rattle.edit_tree.specs.declared.nodes.Node.{Node}
use Rattle.edit_syntax.specs.declared.span.Span.{Span}
use Rattle.edit_tree.specs.declared.nodes.DefinedBy.{DefinedBy}
use Rattle.edit_tree.specs.declared.nodes.DecodedText.{DecodedText}
use Rattle.edit_syntax.specs.Reading.{◌>>=◌}
use Rattle.edit_tree.specs.Nodes.{Shape, ModelNode, bytes_of, RepresentsNodes}
use Rattle.edit_tree.specs.Walk.{child, target_of, node_extended, member_added, member_defined_at, member_defined, with_index, fronts_followed}
use Rattle.edit_tree.specs.WalkState.{HasNodes, HasNodeAt}
use Rattle.edit_syntax.proofs.ListElements.{drop_from}

-- ---- members asserted

pub asserted_new : (models : List ModelNode) (t : ℕ) (name : List ℕ) (shape : Shape) (taken : DefinedBy)
    (span : Option Span) → child models t name ≡ None → member_defined models t name shape taken span
    ≡ member_added models t name shape taken span
unfolding member_defined
asserted_new models t name shape taken span e =
    ap (λ (o : Option ℕ). member_defined_at o models t name shape taken span) e

pub asserted_old : (models : List ModelNode) (t j : ℕ) (name : List ℕ) (shape : Shape) (taken : DefinedBy)
    (span : Option Span) → child models t name ≡ Some j
    → member_defined models t name shape taken span ≡ member_defined_at (Some j) models t name shape taken span
unfolding member_defined
asserted_old models t j name shape taken span e =
    ap (λ (o : Option ℕ). member_defined_at o models t name shape taken span) e

pub asserted_refused : (models : List ModelNode) (t j place : ℕ) (name : List ℕ) (shape : Shape) (taken : DefinedBy)
    (span : Option Span) → child models t name ≡ Some j → place ≡ target_of models j taken
    → node_extended models place taken ≡ None
    → member_defined models t name shape taken span ≡ None
asserted_refused models t j place name shape taken span some is none =
    asserted_old models t j name shape taken span some ∙
    ap (λ (o : Option (List ModelNode)). with_index (target_of models j taken) o)
    (ap (λ (n : ℕ). node_extended models n taken) (sym is) ∙ none)

pub asserted_again : (text : List ℕ) (nodes : List Node) (models : List ModelNode) (t j place : ℕ) (name : List ℕ)
    (shape : Shape) (taken : DefinedBy) (span : Option Span) → child models t name ≡ Some j
    → place ≡ target_of models j taken
    → HasNodes text nodes (node_extended models place taken) true
    → HasNodeAt text nodes (member_defined models t name shape taken span) (Some place)
asserted_again text nodes models t j place name shape taken span some is (models2, made, holds) = (
  models2,
  asserted_old models t j name shape taken span some ∙ ap (λ (n : ℕ). with_index n (node_extended models n taken))
      (sym is) ∙ ap (with_index place) made,
  holds,
)

-- ---- the front parts of a key

-- the parts that are left lead on from a table
pub record Reaches (text : List ℕ) (nodes : List Node) (total : Option (List ModelNode × ℕ)) (table : ℕ)
    (left : List (List ℕ)) (shape : Shape) (taken : DefinedBy) : Type 0 where
  pub models : List ModelNode
  pub holds : RepresentsNodes text nodes models
  pub same : total ≡ fronts_followed models table left shape taken

pub reached_more : (models : List ModelNode) (t : ℕ) (name : List ℕ) (names : List (List ℕ)) (shape : Shape)
    (taken : DefinedBy) → fronts_followed models t (name ∷ names) shape taken
    ≡ (member_defined models t name shape taken None >>= λ r. fronts_followed r.0 r.1 names shape taken)
unfolding fronts_followed
reached_more models t name names shape taken = refl

pub reached_none : (models : List ModelNode) (t : ℕ) (shape : Shape) (taken : DefinedBy)
    → fronts_followed models t [] shape taken ≡ Some (models, t)
unfolding fronts_followed
reached_none models t shape taken = refl

pub reaches_turn : {text : List ℕ} (nodes nodes2 : List Node) (total : Option (List ModelNode × ℕ)) (t next : ℕ)
    (name : List ℕ) (left : List (List ℕ)) (shape : Shape) (taken : DefinedBy)
    → (r : Reaches text nodes total t (name ∷ left) shape taken)
    → HasNodeAt text nodes2 (member_defined r.models t name shape taken None) (Some next)
    → Reaches text nodes2 total next left shape taken
reaches_turn nodes nodes2 total t next name left shape taken r (models, made, holds) = record {
  models = models;
  holds = holds;
  same = r.same ∙ reached_more r.models t name left shape taken ∙
      ap (λ (o : Option (List ModelNode × ℕ)). o >>= λ q. fronts_followed q.0 q.1 left shape taken) made;
}

pub reaches_stop : {text : List ℕ} (nodes : List Node) (total : Option (List ModelNode × ℕ)) (t : ℕ)
    (name : List ℕ) (left : List (List ℕ)) (shape : Shape) (taken : DefinedBy)
    → (r : Reaches text nodes total t (name ∷ left) shape taken)
    → member_defined r.models t name shape taken None ≡ None → total ≡ None
reaches_stop nodes total t name left shape taken r none =
    r.same ∙ reached_more r.models t name left shape taken ∙
    ap (λ (o : Option (List ModelNode × ℕ)). o >>= λ q. fronts_followed q.0 q.1 left shape taken) none

pub reaches_end : {text : List ℕ} (nodes : List Node) (total : Option (List ModelNode × ℕ)) (t : ℕ) (shape : Shape)
    (taken : DefinedBy) → Reaches text nodes total t [] shape taken → HasNodeAt text nodes total (Some t)
reaches_end nodes total t shape taken r = (r.models, r.same ∙ reached_none r.models t shape taken, r.holds)

-- the next front part
pub reaches_next : {text : List ℕ} (nodes : List Node) (total : Option (List ModelNode × ℕ)) (t i : ℕ)
    (fronts : List DecodedText) (item : DecodedText) (shape : Shape) (taken : DefinedBy) → i < length fronts
    → item ≡ get_or fronts i item
    → Reaches text nodes total t (map (bytes_of text) (drop i fronts)) shape taken
    → Reaches text nodes total t (bytes_of text item ∷ map (bytes_of text) (drop (i + 1) fronts)) shape taken
reaches_next {text} nodes total t i fronts item shape taken lt is r =
    subst (λ (ns : List DecodedText). Reaches text nodes total t (map (bytes_of text) ns) shape taken)
    (drop_from fronts i item (slice_get_read fronts (length fronts) i item refl lt is)) r

pub front_made : (text : List ℕ) (nodes : List Node) (models : List ModelNode) (t : ℕ) (seen name : List ℕ)
    (made shape : Shape) (taken : DefinedBy) (r q : Option ℕ) → seen ≡ name → made ≡ shape → r ≡ q
    → HasNodeAt text nodes (member_defined models t seen made taken None) r
    → HasNodeAt text nodes (member_defined models t name shape taken None) q
front_made text nodes models t seen name made shape taken r q a b e h =
    subst (HasNodeAt text nodes (member_defined models t name shape taken None)) e
    (subst (λ (n : List ℕ). HasNodeAt text nodes (member_defined models t n shape taken None) r) a
    (subst (λ (s : Shape). HasNodeAt text nodes (member_defined models t seen s taken None) r) b h))
