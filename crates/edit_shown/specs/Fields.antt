-- The values of a message's members, as JSON (own).
use Rattle.std.specs.Prelude.{ℕ, List, map, Option, Some, None, option_map, String, string_bytes}
use Rattle.std.specs.declared.alloc.Global.{Global}
use Rattle.serde_json.specs.Data.{Data, array, boolean, null, number, string, unsigned}
use Rattle.serde_json.specs.View.{items_of}
use Rattle.edit_tree.specs.declared.place.Step.{Step}
use Rattle.edit_tree.specs.declared.place.Step.TheVariants.{Key, Index}
use Rattle.edit_shown.specs.declared.json.fields.Field.{Field}
use Rattle.edit_shown.specs.declared.json.fields.Field.TheVariants as field
use Rattle.edit_shown.specs.declared.json.fields.Member.{Member}

-- a string (own)
abbrev pub text_data : String Global → Data
text_data text = string (string_bytes text)

-- a string, or null where there is none (own)
abbrev pub text_or_null : Option (List ℕ) → Data
text_or_null None = null
text_or_null (Some text) = string text

-- a number, or null where there is none (own)
abbrev pub number_or_null : Option ℕ → Data
number_or_null None = null
number_or_null (Some n) = number (unsigned n)

-- an array (own)
abbrev pub list_data : {A : Type 0} → (A → Data) → List A → Data
list_data of xs = array (items_of (map of xs))

-- a step of a place: a key as a string, an index as a number (own)
abbrev pub step_data : Step → Data
step_data (Key key) = string (string_bytes key)
step_data (Index index) = number (unsigned index)

-- the value of a member (own)
abbrev pub field_data : Field → Data
field_data (field.Text text) = string text.now
field_data (field.Maybe text) = text_or_null (option_map (λ t. t.now) text)
field_data (field.Truth truth) = boolean truth
field_data (field.Number n) = number_or_null n
field_data (field.Texts texts) = list_data text_data texts.now
field_data (field.Lists lists) = list_data (λ l. list_data text_data l.items) lists.now
field_data (field.Place steps) = list_data step_data steps.now

-- a member: its key and its value (own)
abbrev pub member_data : Member → List ℕ × Data
member_data m = (m.key.now, field_data m.field)
