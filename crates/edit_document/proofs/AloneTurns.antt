-- The loop from a place down its only members.
use Rattle.std.proofs.Common.{◌≡◌, ℕ, ◌<◌, ◌≤◌, ◌+◌, ◌==◌, false, not, ◌&&◌, cond, List, [], ◌∷◌, ◌++◌, length, get_or, take, Option, Some, None, is_some, refl, sym, ap, ◌∙◌, arith}
use Rattle.std.specs.Prelude.{option_map}
use Rattle.std.specs.List.{filter, list_any}
use Rattle.std.proofs.lemmas.List.{length-append, take_all}
use Rattle.edit_syntax.specs.Grammar.{Text}
use Rattle.edit_tree.specs.Assertions.{Step, key, index, Place, at, Kind, assertions, IsDocument}
use Rattle.edit_tree.specs.EditBytes.{unresolved, part_to, is_header_of, is_one_statement}
use Rattle.edit_document.specs.Items.{node_place, place_view, step_view}
use Rattle.edit_tree.specs.declared.place.Step.{Step as WrittenStep}
use Rattle.edit_document.proofs.MemberViews.{place_more}
use Rattle.edit_tree.specs.DocumentViews.{DocumentViews}
use Rattle.edit_tree.specs.Statements.{behind_part, PlacedPair, placed_statements, line_pairs, inner_pairs}
use Rattle.edit_tree.specs.Tree.{kind_at, view_at, view_of_kind}
use Rattle.edit_document.specs.declared.one_statement.Statements.TheVariants.{AsMember}
use Rattle.edit_document.specs.OneStatement.{IsStatementCount}
use Rattle.edit_tree.proofs.NamedHeads.{one_statement_is}
use Rattle.edit_tree.proofs.OneStatements.{unpaired, none_alone, at_cons}
use Rattle.edit_tree.proofs.SamePlace.{other_place, last_same}

-- ---- places of no member

unnamed_part : (t : Place) → ((q : Place) (n : List ℕ) → t ≡ at q (key n) → ⊥)
    → (q : Place) (ps : List (List ℕ × List ℕ)) → behind_part unresolved t q ps ≡ None
unnamed_part t none q [] = refl
unnamed_part t none q (p ∷ ps) =
    ap (λ b. cond b (Some p.1) (behind_part unresolved t (at q (key p.0)) ps))
    (other_place (at q (key p.0)) t (λ e. none q p.0 (sym e)))
    ∙ unnamed_part t none (at q (key p.0)) ps

pub unnamed_none : (form : Text) (t : Place) → ((q : Place) (n : List ℕ) → t ≡ at q (key n) → ⊥)
    → is_one_statement form t ≡ false
unnamed_none form t none = ap (λ n. (n == 1) && not (list_any (is_header_of t) (placed_statements form)))
    (count (line_pairs form ++ inner_pairs form))
  where
    count : (ps : List PlacedPair) → length (filter (λ p. is_some (part_to t p)) ps) ≡ 0
    count [] = refl
    count (p ∷ ps) =
        ap (λ (o : Option (List ℕ)). length (cond (is_some o) (p ∷ filter (λ p. is_some (part_to t p)) ps)
        (filter (λ p. is_some (part_to t p)) ps))) (unnamed_part t none p.table p.parts)
        ∙ count ps

-- ---- places where nothing stands

pub nothing_alone : (form : Text) (t upper : Place) (name : List ℕ) → t ≡ at upper (key name)
    → view_at form t ≡ None → is_one_statement form t ≡ false
nothing_alone form t upper name place e =
    one_statement_is t (λ p i f. let clash : index i ≡ key name =
    (last_same p upper (index i) (key name) (f ∙ place)).1 in cc) form
    ∙ none_alone (assertions form) t
    (unpaired (assertions form) t (member_defined t (at_cons upper (key name)).0 (at_cons upper (key name)).1
    (place ∙ (at_cons upper (key name)).2) e))
  where
    member_defined : (t : Place) (x : Step) (xs : Place) → t ≡ x ∷ xs → view_at form t ≡ None
        → kind_at (assertions form) t ≡ None
    member_defined [] x xs e f = absurd cc
    member_defined (y ∷ ys) x xs e f = go (kind_at (assertions form) (y ∷ ys)) f
      where
        go : (o : Option Kind) → option_map (view_of_kind (assertions form) (y ∷ ys)) o ≡ None → o ≡ None
        go None h = refl
        go (Some k) h = absurd cc

-- ---- turns

-- the same statements name the node of a member so many steps from the root or more
abbrev pub Reaches : DocumentViews → Place → ℕ → ℕ → Type 0
Reaches d place i n =
    (n < length d.nodes) × (i ≤ length (node_place d n))
    × ((upper : Place) × (name : List ℕ) × (node_place d n ≡ at upper (key name)))
    × ((form : Text) → IsDocument d.bytes form → is_one_statement form place
    ≡ is_one_statement form (node_place d n))

pub reaches_next : (d : DocumentViews) (place : Place) (i n m : ℕ) → Reaches d place i n
    → ((form : Text) (upper : Place) (name : List ℕ) → IsDocument d.bytes form
    → node_place d n ≡ at upper (key name) → IsStatementCount form d n (AsMember m))
    → (form : Text) → IsDocument d.bytes form → Reaches d place (i + 1) m
reaches_next d place i n m r answers form manifest =
    let a = answers form r.2.0 r.2.1 manifest r.2.2 in
    let long : length (node_place d m) ≡ length (node_place d n) + 1 =
    ap length a.1.1.1 ∙ length-append (node_place d n) (key a.1.0 ∷ []) in (
      a.1.1.0,
      omega (arith, long, r.1),
      (node_place d n, a.1.0, a.1.1.1),
      λ f h. r.3 f h ∙ (answers f r.2.0 r.2.1 h r.2.2).0,
    )

-- ---- the last step

pub last_member : (steps : List WrittenStep) (step : WrittenStep) (i : ℕ) → i + 1 ≡ length steps
    → step ≡ get_or steps i step → place_view steps ≡ at (place_view (take i steps)) (step_view step)
last_member steps step i e is =
    sym (ap place_view (take_all (i + 1) steps (omega (arith, e)))) ∙
    place_more steps i step (omega (arith, e)) is
