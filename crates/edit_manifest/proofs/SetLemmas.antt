-- A requirement that was set is the one that is read.
use Rattle.std.proofs.Common.{◌≡◌, ℕ, false, ◌&&◌, ◌||◌, cond, List, [], ◌∷◌, Option, None, Some, refl, sym, ap, ap₂, ◌∙◌}
use Rattle.std.specs.Prelude.{Result, Ok, codes}
use Rattle.edit_tree.specs.Assertions.{Place, Step, at, key}
use Rattle.edit_document.specs.Ranges.{one_edit}
use Rattle.edit_tree.specs.Replaces.{tree_without_below, is_below, tree_with_strings}
use Rattle.edit_tree.specs.Tree.{View, string, truth, whole, fractional, moment, static_array, table_array, inline_table, table}
use Rattle.edit_tree.proofs.SamePlace.{not_below, other_place, same_place_self, same_step_self}
use Rattle.edit_manifest.specs.Tables.{Tree}
use Rattle.edit_manifest.specs.Versions.{dep_version, member_place, requirement_in, version_member, version_place_in}

-- no place is below its own key
not_above : (p : Place) (s : Step) → is_below (at p s) p ≡ false
not_above [] s = refl
not_above (x ∷ p) s = ap (λ b. b && is_below (at p s) p) (same_step_self x) ∙ not_above p s

-- the tree with a string at a place
abbrev pub edited : Place → List ℕ → Tree → Tree
edited place text t q = tree_with_strings (one_edit place text) (tree_without_below (one_edit place text) t) q

edited_here : (place : Place) (text : List ℕ) (t : Tree) → edited place text t place ≡ Some (string text)
edited_here place text t =
    ap (λ b. cond b (Some (string text)) (tree_without_below (one_edit place text) t place)) (same_place_self place)

-- the items above the place are unchanged
edited_above : (place : Place) (s : Step) (text : List ℕ) (t : Tree)
    → edited (at place s) text t place ≡ t place
edited_above place s text t =
    ap (λ b. cond b (Some (string text)) (tree_without_below (one_edit (at place s) text) t place))
    (other_place (at place s) place (not_below place s))
    ∙ ap (λ b. cond (b || false) None (t place)) (not_above place s)

ok_same : {A E : Type 0} (a b : A) → ◌≡◌ {A = Result A E} (Ok a) (Ok b) → a ≡ b
ok_same a b e = cc

-- of a table's member
member_answered : (t u : Tree) (place literal : Place) (text : List ℕ) (o : Option View)
    → ((text : List ℕ) → requirement_in (t place) (Some (string text)) ≡ Ok text)
    → member_place (version_member place) o ≡ Ok literal
    → ((q : Place) → u q ≡ edited literal text t q) → dep_version u place ≡ Ok text
member_answered t u place literal text None reads e same = absurd cc
member_answered t u place literal text (Some view) reads e same =
    let is : version_member place ≡ literal = ok_same (version_member place) literal e in
    let above : u place ≡ t place =
    same place ∙ ap (λ l. edited l text t place) (sym is) ∙ edited_above place (key (codes "version")) text t
    in
    let here : u (version_member place) ≡ Some (string text) =
    same (version_member place) ∙ ap (λ l. edited l text t (version_member place)) (sym is)
    ∙ edited_here (version_member place) text t in
    ap₂ requirement_in above here ∙ reads text

answered_in : (t u : Tree) (place literal : Place) (text : List ℕ) (entry : Option View) → t place ≡ entry
    → version_place_in place entry (t (version_member place)) ≡ Ok literal
    → ((q : Place) → u q ≡ edited literal text t q) → dep_version u place ≡ Ok text
answered_in t u place literal text (Some (string said)) was e same =
    let is : place ≡ literal = ok_same place literal e in
    let here : u place ≡ Some (string text) =
    same place ∙ ap (λ l. edited l text t place) (sym is) ∙ edited_here place text t in
    ap (λ o. requirement_in o (u (version_member place))) here
answered_in t u place literal text (Some (table members)) was e same =
    member_answered t u place literal text (t (version_member place))
    (λ said. ap (λ o. requirement_in o (Some (string said))) was) e same
answered_in t u place literal text (Some (inline_table members)) was e same =
    member_answered t u place literal text (t (version_member place))
    (λ said. ap (λ o. requirement_in o (Some (string said))) was) e same
answered_in t u place literal text (Some (truth b)) was e same = absurd cc
answered_in t u place literal text (Some (whole digits)) was e same = absurd cc
answered_in t u place literal text (Some (fractional digits)) was e same = absurd cc
answered_in t u place literal text (Some (moment digits)) was e same = absurd cc
answered_in t u place literal text (Some (static_array n)) was e same = absurd cc
answered_in t u place literal text (Some (table_array n)) was e same = absurd cc
answered_in t u place literal text None was e same = absurd cc

-- after a requirement is set, it is read
pub set_answered : (t u : Tree) (place literal : Place) (text : List ℕ)
    → version_place_in place (t place) (t (version_member place)) ≡ Ok literal
    → ((q : Place) → u q ≡ edited literal text t q) → dep_version u place ≡ Ok text
set_answered t u place literal text e same = answered_in t u place literal text (t place) refl e same
