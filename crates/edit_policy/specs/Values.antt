-- How the value at a place of a policy is read (own).
use Rattle.std.specs.Prelude.{ℕ, zero, suc, ◌^◌, List, [], ◌∷◌, ◌++◌, Bool, true, false, not, ◌&&◌, nat_lt, Option, Some, None, codes, if◌then◌else◌, is_some, length, option_and_then, option_map}
use Rattle.std.specs.Option.{option_map_or, option_to_list}
use Rattle.std.specs.Str.{bytes_eq}
use Rattle.std.specs.Str.Parse.{digits_value}
use Rattle.semver.specs.Order.{is_numeric}
use Rattle.edit_document.specs.Items.{digits_in, is_static_array, is_tabular, string_in, truth_in}
use Rattle.edit_tree.specs.Assertions.{Place, at, index}
use Rattle.edit_tree.specs.Tree.{View, static_array}
use Rattle.edit_version.specs.Requirement.{requirement_read}
use Rattle.edit_version.specs.RustVersions.{rust_of}
use Rattle.edit_version.specs.declared.levels.Level.{Level as LevelName}
use Rattle.edit_version.specs.declared.levels.Level.TheVariants.{Major, Minor, Patch}
use Rattle.edit_policy.specs.declared.keys.Expected.{Expected}
use Rattle.edit_policy.specs.declared.keys.Expected.TheVariants.{Absent, Table, Texts, Text, Truth, Status, Level, Days, RustVersion, Requirement}

-- the item at each place of a document (own)
abbrev pub Tree : Type 0
Tree = Place → Option View

-- whether a text allows a kind of upgrade; none for texts that do not say (own)
abbrev pub status_of : List ℕ → Option Bool
status_of text =
    if bytes_eq text (codes "allow") then Some true
    else (if bytes_eq text (codes "ignore") then Some false else None)

-- the level that a text names; none for other texts (own)
abbrev pub level_of : List ℕ → Option LevelName
level_of text =
    if bytes_eq text (codes "patch") then Some Patch
    else (if bytes_eq text (codes "minor") then Some Minor
    else (if bytes_eq text (codes "major") then Some Major else None))

-- the number of days of at most 32 bits that decimal digits are; none for other texts (own)
abbrev pub days_of : List ℕ → Option ℕ
days_of text =
    if is_numeric text && nat_lt 0 (length text) && nat_lt (digits_value 10 text) (2 ^ 32)
    then Some (digits_value 10 text) else None

-- what a string says, by how its text is read; none for other views (own)
abbrev pub by_text : {A : Type 0} → (List ℕ → Option A) → View → Option A
by_text read v = option_and_then read (string_in v)

-- the number of days that an integer is; none for other views (own)
abbrev pub days_in : View → Option ℕ
days_in v = option_and_then days_of (digits_in v)

-- what an item says, by how its view is read: `Some None` where there is no item, and none where it cannot be
-- read so (own)
abbrev pub value_in : {A : Type 0} → (View → Option A) → Option View → Option (Option A)
value_in read None = Some None
value_in read (Some v) = option_map Some (read v)

-- applies a function to two values that are both there (own)
abbrev pub both : {A B C : Type 0} → (A → B → C) → Option A → Option B → Option C
both f (Some a) (Some b) = Some (f a b)
both f a b = None

-- the strings of the first `n` elements of an array; none where one of them is no string (own)
abbrev pub element_texts : Tree → Place → ℕ → Option (List (List ℕ))
element_texts t place zero = Some []
element_texts t place (suc n) =
    both (λ texts text. texts ++ option_to_list text) (element_texts t place n)
    (value_in string_in (t (at place (index n))))

-- the strings of the item at a place, `Some []` where there is no item; none where it is no array of strings
-- (own)
abbrev pub texts_in : Tree → Place → Option View → Option (List (List ℕ))
texts_in t place None = Some []
texts_in t place (Some (static_array n)) = element_texts t place n
texts_in t place (Some v) = None

-- whether an item is what is expected, where there is one (own)
abbrev pub is_fit : Expected → Option View → Bool
is_fit Absent v = not (is_some v)
is_fit Table v = option_map_or is_tabular v true
is_fit Texts v = option_map_or is_static_array v true
is_fit Text v = is_some (value_in string_in v)
is_fit Truth v = is_some (value_in truth_in v)
is_fit Status v = is_some (value_in (by_text status_of) v)
is_fit Level v = is_some (value_in (by_text level_of) v)
is_fit Days v = is_some (value_in days_in v)
is_fit RustVersion v = is_some (value_in (by_text rust_of) v)
is_fit Requirement v = is_some (value_in (by_text requirement_read) v)
