-- Values replaced at places: the syntax tree after it, the bytes that stay, and the intended tree where the
-- new values are strings.
use Rattle.std.specs.Prelude.{◌≡◌, ℕ, suc, Bool, true, false, ◌&&◌, ◌||◌, if◌then◌else◌, List, [], ◌∷◌, ◌++◌, Option, Some, None, option_map, ⊤}
use Rattle.std.specs.List.{AllByRecursion, filter_map}
use Rattle.edit_syntax.specs.Grammar.{Value, basic, literal, multi_basic, multi_literal, boolean, integer, float, datetime, array, inline, value, Elements, no_elements, last_element, element, Members, no_members, last_member, member, Statement, pair, header, element_header, empty_line, full_line, Lines, one_line, more_lines, Text, text}
use Rattle.edit_tree.specs.Assertions.{Place, index, at, names, named, same_step, same_place, Assertion, of_statement, prefix_after, IsDocument}
use Rattle.edit_tree.specs.Tree.{View, string, view_at, is_value_at}
use Rattle.edit_tree.specs.Literals.{literal_of}
use Rattle.edit_tree.specs.Written.{PlacedValue, values}

-- edits: places, each with its new text
abbrev pub Edits : Type 0
Edits = List (Place × List ℕ)

-- the new text for a place
abbrev pub new_text : Edits → Place → Option (List ℕ)
new_text [] place = None
new_text (e ∷ es) place = if same_place e.0 place then Some e.1 else new_text es place

-- ---- the form

-- how a new text is written as a value
abbrev pub Writer : Type 0
Writer = List ℕ → Value

-- the value for a new text, or the old value where there is none
abbrev pub written_or : Writer → Option (List ℕ) → Value → Value
written_or write None v = v
written_or write (Some said) v = write said

-- the value at a place after the edits
abbrev pub put : Writer → Edits → Place → Value → Value
put write edits place v = written_or write (new_text edits place) v

-- the replacement of values inside other values
abbrev mutual
  -- a value with the values inside it replaced
  pub replaced_inside : Writer → Edits → Place → Value → Value
  replaced_inside write edits place (basic ps) = basic ps
  replaced_inside write edits place (literal text) = literal text
  replaced_inside write edits place (multi_basic ps) = multi_basic ps
  replaced_inside write edits place (multi_literal ps) = multi_literal ps
  replaced_inside write edits place (boolean b) = boolean b
  replaced_inside write edits place (integer n) = integer n
  replaced_inside write edits place (float f) = float f
  replaced_inside write edits place (datetime d) = datetime d
  replaced_inside write edits place (array g es) = array g (replaced_elements write edits place 0 es)
  replaced_inside write edits place (inline g ms) = inline g (replaced_members write edits place ms)

  -- the elements of an array from an index on, with values replaced
  pub replaced_elements : Writer → Edits → Place → ℕ → Elements → Elements
  replaced_elements write edits place i no_elements = no_elements
  replaced_elements write edits place i (last_element v g) =
      last_element
      (put write edits (at place (index i)) (replaced_inside write edits (at place (index i)) v)) g
  replaced_elements write edits place i (element v g h es) =
      element (put write edits (at place (index i))
      (replaced_inside write edits (at place (index i)) v)) g h
      (replaced_elements write edits place (suc i) es)

  -- the members of an inline table, with values replaced
  pub replaced_members : Writer → Edits → Place → Members → Members
  replaced_members write edits place no_members = no_members
  replaced_members write edits place (last_member k a b v c) =
      last_member k a b
      (put write edits (named place (names k))
      (replaced_inside write edits (named place (names k)) v)) c
  replaced_members write edits place (member k a b v c d ms) =
      member k a b
      (put write edits (named place (names k))
      (replaced_inside write edits (named place (names k)) v)) c d
      (replaced_members write edits place ms)

-- a value at its place, with itself or the values inside it replaced
abbrev pub replaced_value : Writer → Edits → Place → Value → Value
replaced_value write edits place v = put write edits place (replaced_inside write edits place v)

-- a statement below a header, with values replaced
abbrev pub replaced_statement : Writer → Edits → Place → Statement → Statement
replaced_statement write edits prefix (pair k a b v) =
    pair k a b (replaced_value write edits (named prefix (names k)) v)
replaced_statement write edits prefix (header a k b) = header a k b
replaced_statement write edits prefix (element_header a k b) = element_header a k b

-- lines after these assertions and below this header, with values replaced
abbrev pub replaced_lines : Writer → Edits → List Assertion → Place → Lines → Lines
replaced_lines write edits earlier prefix (one_line (empty_line a c)) = one_line (empty_line a c)
replaced_lines write edits earlier prefix (one_line (full_line a s b c)) =
    one_line (full_line a (replaced_statement write edits prefix s) b c)
replaced_lines write edits earlier prefix (more_lines (empty_line a c) e ls) =
    more_lines (empty_line a c) e (replaced_lines write edits earlier prefix ls)
replaced_lines write edits earlier prefix (more_lines (full_line a s b c) e ls) =
    more_lines (full_line a (replaced_statement write edits prefix s) b c) e
    (replaced_lines write edits (earlier ++ of_statement earlier prefix s)
    (prefix_after earlier prefix s) ls)

-- the syntax tree of a text with the value at each place of the edits replaced, as written by `Writer`
abbrev pub replaced_by : Writer → Edits → Text → Text
replaced_by write edits t = record {
  has_byte_order_mark = t.has_byte_order_mark;
  lines = replaced_lines write edits [] [] t.lines;
}

-- the syntax tree of a text with the value at each place of the edits replaced by a string literal
abbrev pub replaced : Edits → Text → Text
replaced edits t = replaced_by literal_of edits t

-- ---- the bytes

-- the values at the places of the edits, in the order of the text, each with its new text
abbrev pub edited : Edits → Text → List (PlacedValue × List ℕ)
edited edits t = filter_map (λ w. option_map (λ said. (w, said)) (new_text edits w.place)) (values t)

-- from `t0 v1 t1 .. vn tn` to `t0 l1 t1 .. ln tn`: each value is replaced by its new text as written, and all
-- other bytes stay
pub data Swaps (write : Writer) : List (PlacedValue × List ℕ) → List ℕ → List ℕ → Type 0 where
  rest : (t : List ℕ) → Swaps write [] t t
  next : (t : List ℕ) (w : PlacedValue) (said : List ℕ) (more : List (PlacedValue × List ℕ)) (new : List ℕ)
      → Swaps write more w.after new
      → Swaps write ((w, said) ∷ more) (t ++ value w.value w.after) (t ++ value (write said) new)

-- ---- the tree

-- the second place lies below the first and is not the same
abbrev pub is_below : Place → Place → Bool
is_below [] [] = false
is_below [] (t ∷ ts) = true
is_below (s ∷ ss) [] = false
is_below (s ∷ ss) (t ∷ ts) = same_step s t && is_below ss ts

-- the place lies below one of those of the edits
abbrev pub is_below_any : Edits → Place → Bool
is_below_any [] q = false
is_below_any (e ∷ es) q = is_below e.0 q || is_below_any es q

-- a tree with the strings of the edits at their places
abbrev pub tree_with_strings : Edits → (Place → Option View) → Place → Option View
tree_with_strings [] tree q = tree q
tree_with_strings (e ∷ es) tree q =
    if same_place e.0 q then Some (string e.1) else tree_with_strings es tree q

-- a tree with nothing below the places of the edits
abbrev pub tree_without_below : Edits → (Place → Option View) → Place → Option View
tree_without_below edits tree q = if is_below_any edits q then None else tree q

-- the view is that of a string
abbrev pub is_string : Option View → Bool
is_string (Some (string said)) = true
is_string view = false

-- the item at each place of the edits is a string
abbrev pub AreStrings : Edits → (Place → Option View) → Type 0
AreStrings edits tree = AllByRecursion (λ e. is_string (tree e.0) ≡ true) edits

-- a value is written at each place of the edits, as the value of a pair or as an element of an array
abbrev pub AreValues : Edits → Text → Type 0
AreValues edits form = AllByRecursion (λ e. is_value_at form e.0 ≡ true) edits

-- no two of the places are the same
abbrev pub AreDistinct : Edits → Type 0
AreDistinct [] = ⊤
AreDistinct (e ∷ es) = AllByRecursion (λ f. same_place e.0 f.0 ≡ false) es × AreDistinct es

-- none of the places lies below another
abbrev pub AreOutside : Edits → Type 0
AreOutside edits = AllByRecursion (λ e. is_below_any edits e.0 ≡ false) edits

-- the new bytes are the old document with the values at the places replaced by string literals: only these
-- differ, and the tree has the strings there, nothing below them, and is unchanged elsewhere
pub record Replaces (edits : Edits) (old new : List ℕ) : Type 0 where
  pub form : Text
  pub was : IsDocument old form
  pub bytes : new ≡ text (replaced edits form)
  pub swaps : Swaps literal_of (edited edits form) old new
  pub is : IsDocument new (replaced edits form)
  pub tree : (place : Place)
      → view_at (replaced edits form) place
      ≡ tree_with_strings edits (tree_without_below edits (view_at form)) place
