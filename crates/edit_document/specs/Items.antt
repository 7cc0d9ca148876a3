-- What the items of a document give to a caller, computed from their views.
use Rattle.std.specs.Prelude.{◌≡◌, ℕ, ◌<◌, Bool, true, false, List, [], length, map, slice_get, unwrap_or, Option, Some, None, MatchOption, string_bytes, codes, ⊤}
use Rattle.std.specs.List.{filter_map}
use Rattle.edit_tree.specs.declared.place.Step.{Step as WrittenStep}
use Rattle.edit_tree.specs.declared.place.Step.TheVariants.{Key, Index}
use Rattle.edit_document.specs.declared.document.Datum.{Datum}
use Rattle.edit_document.specs.declared.document.Datum.TheVariants as seen
use Rattle.edit_tree.specs.Assertions.{Step, key, index, Place}
use Rattle.edit_tree.specs.Tree.{View, string, truth, whole, fractional, moment, static_array, table_array, inline_table, table}
use Rattle.edit_tree.specs.DocumentViews.{DocumentViews, tree_of}

-- ---- places

-- the model of a step of the code
abbrev pub step_view : WrittenStep → Step
step_view (Key name) = key (string_bytes name)
step_view (Index i) = index i

-- the model of a place of the code
abbrev pub place_view : List WrittenStep → Place
place_view steps = map step_view steps

-- ---- views

-- the view, or that of an empty table where there is none
abbrev pub viewed : Option View → View
viewed None = table []
viewed (Some v) = v

-- the decoded text of a string; none for other views
abbrev pub string_in : View → Option (List ℕ)
string_in (string bytes) = Some bytes
string_in _ = None

-- the value of a boolean; none for other views
abbrev pub truth_in : View → Option Bool
truth_in (truth b) = Some b
truth_in _ = None

-- the text of an integer as it is written; none for other views
abbrev pub digits_in : View → Option (List ℕ)
digits_in (whole digits) = Some digits
digits_in _ = None

-- the key of a step, if it has one
abbrev pub name_of_step : Step → Option (List ℕ)
name_of_step (key n) = Some n
name_of_step (index i) = None

-- the keys among a list of steps
abbrev pub key_names : List Step → List (List ℕ)
key_names steps = filter_map name_of_step steps

-- the names of the members, in the order of their first definitions
abbrev pub names_in : View → List (List ℕ)
names_in (inline_table members) = key_names members
names_in (table members) = key_names members
names_in _ = []

-- the number of elements or members
abbrev pub count_in : View → ℕ
count_in (static_array n) = n
count_in (table_array n) = n
count_in (inline_table members) = length members
count_in (table members) = length members
count_in _ = 0

-- the view is that of a string
abbrev pub is_string : View → Bool
is_string (string bytes) = true
is_string _ = false

-- the view is that of an inline table
abbrev pub is_inline : View → Bool
is_inline (inline_table members) = true
is_inline _ = false

-- the view is that of a table or an inline table
abbrev pub is_tabular : View → Bool
is_tabular (inline_table members) = true
is_tabular (table members) = true
is_tabular _ = false

-- the view is that of an array written as a value
abbrev pub is_static_array : View → Bool
is_static_array (static_array n) = true
is_static_array _ = false

-- the name of a view's type (TOML 1.0.0: the types of values, "Table", "Array of Tables")
abbrev pub type_name_of : View → List ℕ
type_name_of (string bytes) = codes "string"
type_name_of (truth b) = codes "boolean"
type_name_of (whole digits) = codes "integer"
type_name_of (fractional digits) = codes "float"
type_name_of (moment digits) = codes "datetime"
type_name_of (static_array n) = codes "array"
type_name_of (table_array n) = codes "array of tables"
type_name_of (inline_table members) = codes "inline table"
type_name_of (table members) = codes "table"

-- ---- nodes by index

-- the place of the node at an index
abbrev pub node_place : DocumentViews → ℕ → Place
node_place d n = (unwrap_or (slice_get d.nodes n) ([], table [])).0

-- the view of the node at an index
abbrev pub node_view : DocumentViews → ℕ → View
node_view d n = viewed (tree_of d (node_place d n))

-- the content that a node returns is that of the view
abbrev pub Shows : View → Datum → Type 0
Shows (string bytes) (seen.Text s) = s.now ≡ bytes
Shows (truth b) (seen.Truth c) = c ≡ b
Shows (whole digits) (seen.Integer s) = s.now ≡ digits
Shows (fractional digits) seen.Float = ⊤
Shows (moment digits) seen.DateTime = ⊤
Shows (static_array n) seen.Array = ⊤
Shows (inline_table members) seen.Inline = ⊤
Shows (table members) seen.Table = ⊤
Shows (table_array n) seen.Tables = ⊤
Shows _ _ = ⊥

-- the index of the node at a place, or `None` where there is no item
abbrev pub IsNodeIndex : DocumentViews → Place → Option ℕ → Type 0
IsNodeIndex d place r = MatchOption r (tree_of d place
    ≡ None) (λ n. (tree_of d place ≡ Some (node_view d n)) × (node_place d n ≡ place)
    × (n < length d.nodes))
