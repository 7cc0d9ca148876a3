-- The tree of a document: the view at each place, with members in the order of their first definitions.
use Rattle.std.specs.Prelude.{ℕ, suc, Bool, true, false, not, ◌&&◌, if◌then◌else◌, List, [], ◌∷◌, Option, Some, None, option_map}
use Rattle.std.specs.List.{filter, list_any, filter_map}
use Rattle.edit_syntax.specs.Characters.{quote, apostrophe}
use Rattle.edit_syntax.specs.Strings.{decoded_pieces, decoded_multi}
use Rattle.edit_syntax.specs.Numbers.{integer_text, float_text, datetime_text}
use Rattle.edit_syntax.specs.Grammar.{Value, basic, literal, multi_basic, multi_literal, boolean, integer, float, datetime, array, inline, Elements, no_elements, last_element, element, Text}
use Rattle.edit_tree.specs.Assertions.{Step, Place, same_step, same_place, Kind, dotted, leaf, super, header_kind, array_kind, element_kind, Assertion, assertions, elements_at}

-- the step from a place to its child, where the second place is a child of the first
abbrev pub step_from : Place → Place → Option Step
step_from [] [] = None
step_from [] (s ∷ []) = Some s
step_from [] (s ∷ t ∷ ts) = None
step_from (s ∷ ss) [] = None
step_from (s ∷ ss) (t ∷ ts) = if same_step s t then step_from ss ts else None

-- the list of steps without later repetitions
abbrev pub once : List Step → List Step
once [] = []
once (s ∷ ss) = s ∷ filter (λ t. not (same_step s t)) (once ss)

-- the steps to the children of a place
abbrev pub members_of : List Assertion → Place → List Step
members_of made place = once (filter_map (λ a. step_from place a.place) made)

-- the view of an item, without what is below it
pub data View : Type 0 where
  string : List ℕ → View
  truth : Bool → View
  -- a number, a date or a time, as written
  whole : List ℕ → View
  fractional : List ℕ → View
  moment : List ℕ → View
  static_array : ℕ → View
  table_array : ℕ → View
  inline_table : List Step → View
  table : List Step → View

-- the number of elements
abbrev pub count_elements : Elements → ℕ
count_elements no_elements = 0
count_elements (last_element v g) = 1
count_elements (element v g h es) = suc (count_elements es)

-- the view of a value at its place
abbrev pub view_of_value : List Assertion → Place → Value → View
view_of_value made place (basic ps) = string (decoded_pieces quote ps)
view_of_value made place (literal text) = string text
view_of_value made place (multi_basic ps) = string (decoded_multi quote ps)
view_of_value made place (multi_literal ps) = string (decoded_multi apostrophe ps)
view_of_value made place (boolean b) = truth b
view_of_value made place (integer n) = whole (integer_text n [])
view_of_value made place (float f) = fractional (float_text f [])
view_of_value made place (datetime d) = moment (datetime_text d [])
view_of_value made place (array g es) = static_array (count_elements es)
view_of_value made place (inline ws ms) = inline_table (members_of made place)

-- the view of a place whose first assertion is of this kind
abbrev pub view_of_kind : List Assertion → Place → Kind → View
view_of_kind made place (leaf v) = view_of_value made place v
view_of_kind made place (dotted true) = inline_table (members_of made place)
view_of_kind made place (dotted false) = table (members_of made place)
view_of_kind made place super = table (members_of made place)
view_of_kind made place header_kind = table (members_of made place)
view_of_kind made place element_kind = table (members_of made place)
view_of_kind made place array_kind = table_array (elements_at made place)

-- the kind of the first assertion at a place
abbrev pub kind_at : List Assertion → Place → Option Kind
kind_at [] place = None
kind_at (a ∷ made) place = if same_place a.place place then Some a.kind else kind_at made place

-- the view at a place; the root is a table
abbrev pub view_in : List Assertion → Place → Option View
view_in made [] = Some (table (members_of made []))
view_in made (s ∷ ss) = option_map (view_of_kind made (s ∷ ss)) (kind_at made (s ∷ ss))

-- the view at a place of a text
abbrev pub view_at : Text → Place → Option View
view_at t place = view_in (assertions t) place

-- a value is written at the place, as the value of a pair or as an element of an array
abbrev pub is_value_at : Text → Place → Bool
is_value_at t place = list_any (λ a. same_place a.place place && is_leaf a.kind) (assertions t)
  where
    is_leaf : Kind → Bool
    is_leaf (leaf v) = true
    is_leaf _ = false
