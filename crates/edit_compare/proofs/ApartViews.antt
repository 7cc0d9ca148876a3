-- The tables of a tree have no two members of the same name.
use Rattle.std.proofs.Common.{◌≡◌, ℕ, true, false, List, [], ◌∷◌, Option, Some, None, refl, sym, ap, ◌∙◌}
use Rattle.std.specs.Prelude.{slice_get, option_map}
use Rattle.std.specs.List.{filter_map}
use Rattle.edit_syntax.specs.Grammar.{Value, basic, literal, multi_basic, multi_literal, boolean, integer, float, datetime, array, inline}
use Rattle.edit_tree.specs.Assertions.{Place, Assertion, Kind, dotted, leaf, super, header_kind, array_kind, element_kind}
use Rattle.edit_tree.specs.Tree.{View, table, members_of, step_from, kind_at, view_of_value, view_of_kind, view_in}
use Rattle.edit_document.specs.Items.{names_in, viewed}
use Rattle.edit_document.specs.Compared.{AreApart}
use Rattle.edit_document.proofs.OnceLists.{apart_once, names_apart}

apart_scalar : (v : View) → names_in v ≡ [] → AreApart v
apart_scalar v e i j n x y =
    absurd (let clash : None ≡ Some n = sym (ap (λ (ns : List (List ℕ)). slice_get ns i) e) ∙ x in cc)

pub apart_value : (made : List Assertion) (p : Place) (v : Value) → AreApart (view_of_value made p v)
apart_value made p (basic ps) = apart_scalar (view_of_value made p (basic ps)) refl
apart_value made p (literal text) = apart_scalar (view_of_value made p (literal text)) refl
apart_value made p (multi_basic ps) = apart_scalar (view_of_value made p (multi_basic ps)) refl
apart_value made p (multi_literal ps) = apart_scalar (view_of_value made p (multi_literal ps)) refl
apart_value made p (boolean b) = apart_scalar (view_of_value made p (boolean b)) refl
apart_value made p (integer n) = apart_scalar (view_of_value made p (integer n)) refl
apart_value made p (float f) = apart_scalar (view_of_value made p (float f)) refl
apart_value made p (datetime d) = apart_scalar (view_of_value made p (datetime d)) refl
apart_value made p (array g es) = apart_scalar (view_of_value made p (array g es)) refl
apart_value made p (inline g ms) = names_apart (members_of made p)
    (apart_once (filter_map (λ a. step_from p a.place) made))

apart_members : (made : List Assertion) (p : Place) → AreApart (table (members_of made p))
apart_members made p =
    names_apart (members_of made p) (apart_once (filter_map (λ a. step_from p a.place) made))

apart_kind : (made : List Assertion) (p : Place) (k : Kind) → AreApart (view_of_kind made p k)
apart_kind made p (leaf v) = apart_value made p v
apart_kind made p (dotted true) = apart_members made p
apart_kind made p (dotted false) = apart_members made p
apart_kind made p super = apart_members made p
apart_kind made p header_kind = apart_members made p
apart_kind made p element_kind = apart_members made p
apart_kind made p array_kind = apart_scalar (view_of_kind made p array_kind) refl

pub apart_view : (made : List Assertion) (p : Place) → AreApart (viewed (view_in made p))
apart_view made [] = apart_members made []
apart_view made (s ∷ ss) = go (kind_at made (s ∷ ss))
  where
    go : (o : Option Kind) → AreApart (viewed (option_map (view_of_kind made (s ∷ ss)) o))
    go None = λ i j n x y. absurd cc
    go (Some k) = apart_kind made (s ∷ ss) k
