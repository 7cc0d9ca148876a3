-- Examples: new values and entries as written, values set, entries replaced, and what one pair names.
use Rattle.std.proofs.Common.{◌≡◌, true, false, [], ◌∷◌, refl}
use Rattle.std.specs.Prelude.{codes}
use Rattle.edit_syntax.specs.Grammar.{value}
use Rattle.edit_tree.specs.Assertions.{key, index}
use Rattle.edit_tree.specs.NewItems.{a_string, a_truth, a_list, a_value, a_table, item_value, new_pair}
use Rattle.edit_tree.proofs.OnTexts.{on_texts}
use Rattle.edit_document.proofs.EditFacts.{Meets, meets, Sets, sets, ReplacesEntry, replaces_entry, Inserts, inserts, is_one_pair}

-- a registry requirement as an entry
pub a_string_entry : value (item_value (a_value (a_string (codes "1.0")))) [] ≡ (codes "\"1.0\"")
a_string_entry = refl

-- an optional one
pub an_optional_entry : value
    (item_value (a_table false ((codes "version", a_string (codes "1.0")) ∷
    (codes "optional", a_truth true) ∷ []))) [] ≡
    (codes "{ version = \"1.0\", optional = true }")
an_optional_entry = refl

-- one without default features
pub an_entry_without_defaults : value
    (item_value (a_table false ((codes "version", a_string (codes "1.0")) ∷
    (codes "default-features", a_truth false) ∷ []))) [] ≡
    (codes "{ version = \"1.0\", default-features = false }")
an_entry_without_defaults = refl

-- a renamed one
pub a_renamed_entry : value
    (item_value (a_table false ((codes "version", a_string (codes "1.0")) ∷
    (codes "package", a_string (codes "dep")) ∷ []))) [] ≡
    (codes "{ version = \"1.0\", package = \"dep\" }")
a_renamed_entry = refl

-- one of another registry
pub an_entry_of_a_registry : value
    (item_value (a_table false ((codes "version", a_string (codes "1.0")) ∷
    (codes "registry", a_string (codes "alternative")) ∷ []))) [] ≡
    (codes "{ version = \"1.0\", registry = \"alternative\" }")
an_entry_of_a_registry = refl

-- three members
pub a_renamed_entry_without_defaults : value
    (item_value (a_table false ((codes "version", a_string (codes "1.0")) ∷
    (codes "package", a_string (codes "dep")) ∷ (codes "default-features", a_truth false) ∷ []))) [] ≡
    (codes "{ version = \"1.0\", package = \"dep\", default-features = false }")
a_renamed_entry_without_defaults = refl

-- a git address
pub a_git_entry : value
    (item_value (a_table false ((codes "git", a_string (codes "https://foor/bar.git")) ∷ []))) [] ≡
    (codes "{ git = \"https://foor/bar.git\" }")
a_git_entry = refl

-- a path
pub a_path_entry : value (item_value (a_table false ((codes "path", a_string (codes "../bar")) ∷ []))) [] ≡
    (codes "{ path = \"../bar\" }")
a_path_entry = refl

-- no member
pub an_empty_table : value (item_value (a_table false ([]))) [] ≡ (codes "{}")
an_empty_table = refl

-- a name of letters, digits, dashes and underscores
pub a_bare_name : new_pair (codes "A_z-9") (a_truth false) [] ≡ (codes "A_z-9 = false")
a_bare_name = refl

-- a name with a dot
pub a_quoted_name : new_pair (codes "a.b") (a_string (codes "c")) [] ≡ (codes "\"a.b\" = \"c\"")
a_quoted_name = refl

-- a list of nothing
pub an_empty_list : new_pair (codes "a") (a_list ([])) [] ≡ (codes "a = []")
an_empty_list = refl

-- a list of strings
pub a_list_of_strings : new_pair (codes "a") (a_list (codes "b" ∷ codes "\"" ∷ codes "\t" ∷ [])) [] ≡
    (codes "a = [\"b\", \"\\\"\", \"\\t\"]")
a_list_of_strings = refl

-- the version of an inline table
pub version_set : Sets (codes "serde = { version = \"1\", features = [\"a\"] }")
    (key (codes "serde") ∷ key (codes "version") ∷ []) (a_string (codes "2"))
    (codes "serde = { version = \"2\", features = [\"a\"] }")
unfolding on_texts
version_set = sets (codes "serde = { version = \"1\", features = [\"a\"] }")
    (key (codes "serde") ∷ key (codes "version") ∷ []) (a_string (codes "2"))
    (codes "serde = { version = \"2\", features = [\"a\"] }") refl

-- a list in place of a list
pub features_set : Sets (codes "serde = { version = \"2\", features = [\"a\"] }")
    (key (codes "serde") ∷ key (codes "features") ∷ []) (a_list (codes "a" ∷ codes "b" ∷ []))
    (codes "serde = { version = \"2\", features = [\"a\", \"b\"] }")
unfolding on_texts
features_set = sets (codes "serde = { version = \"2\", features = [\"a\"] }")
    (key (codes "serde") ∷ key (codes "features") ∷ []) (a_list (codes "a" ∷ codes "b" ∷ []))
    (codes "serde = { version = \"2\", features = [\"a\", \"b\"] }") refl

-- the comment on the line stays
pub version_keeps_its_comment : Sets (codes "[package]\nversion = '0.1.0' # v")
    (key (codes "package") ∷ key (codes "version") ∷ []) (a_string (codes "0.2.0"))
    (codes "[package]\nversion = \"0.2.0\" # v")
unfolding on_texts
version_keeps_its_comment = sets (codes "[package]\nversion = '0.1.0' # v")
    (key (codes "package") ∷ key (codes "version") ∷ []) (a_string (codes "0.2.0"))
    (codes "[package]\nversion = \"0.2.0\" # v") refl

-- an array over several lines gives way to a boolean
pub an_array_gives_way : Sets (codes "a = [\r\n 1, # c\r\n]\r\nb = 2\r\n") (key (codes "a") ∷ [])
    (a_truth true) (codes "a = true\r\nb = 2\r\n")
unfolding on_texts
an_array_gives_way = sets (codes "a = [\r\n 1, # c\r\n]\r\nb = 2\r\n") (key (codes "a") ∷ []) (a_truth true)
    (codes "a = true\r\nb = 2\r\n") refl

-- an element of an array
pub an_element_set : Sets (codes "a = [ 1, 2 ]") (key (codes "a") ∷ index 1 ∷ []) (a_string (codes "x"))
    (codes "a = [ 1, \"x\" ]")
unfolding on_texts
an_element_set = sets (codes "a = [ 1, 2 ]") (key (codes "a") ∷ index 1 ∷ []) (a_string (codes "x"))
    (codes "a = [ 1, \"x\" ]") refl

-- a value under the second element of an array of tables
pub a_value_of_an_element : Sets (0xEF ∷ 0xBB ∷ 0xBF ∷ codes "[[a]]\nb = 1\n[[a]]\nb = 1")
    (key (codes "a") ∷ index 1 ∷ key (codes "b") ∷ []) (a_truth false)
    (0xEF ∷ 0xBB ∷ 0xBF ∷ codes "[[a]]\nb = 1\n[[a]]\nb = false")
unfolding on_texts
a_value_of_an_element = sets (0xEF ∷ 0xBB ∷ 0xBF ∷ codes "[[a]]\nb = 1\n[[a]]\nb = 1")
    (key (codes "a") ∷ index 1 ∷ key (codes "b") ∷ []) (a_truth false)
    (0xEF ∷ 0xBB ∷ 0xBF ∷ codes "[[a]]\nb = 1\n[[a]]\nb = false") refl

-- a value behind a dotted key
pub a_dotted_value : Sets (codes "a . 'b' = \"\"\"\nx\"\"\" # c\n") (key (codes "a") ∷ key (codes "b") ∷ [])
    (a_string (codes "y")) (codes "a . 'b' = \"y\" # c\n")
unfolding on_texts
a_dotted_value = sets (codes "a . 'b' = \"\"\"\nx\"\"\" # c\n") (key (codes "a") ∷ key (codes "b") ∷ [])
    (a_string (codes "y")) (codes "a . 'b' = \"y\" # c\n") refl

-- a string gives way to an inline table
pub a_string_becomes_a_table : ReplacesEntry (codes "x = \"1\"") (key (codes "x") ∷ [])
    (a_table false ((codes "version", a_string (codes "2")) ∷ (codes "optional", a_truth true) ∷ []))
    (codes "x = { version = \"2\", optional = true }")
unfolding on_texts
a_string_becomes_a_table = replaces_entry (codes "x = \"1\"") (key (codes "x") ∷ [])
    (a_table false ((codes "version", a_string (codes "2")) ∷ (codes "optional", a_truth true) ∷ []))
    (codes "x = { version = \"2\", optional = true }") refl

-- a dotted pair gives way to another
pub a_dotted_pair_becomes_another : ReplacesEntry (codes "x.version = \"1\"") (key (codes "x") ∷ [])
    (a_table true ((codes "workspace", a_truth true) ∷ [])) (codes "x.workspace = true")
unfolding on_texts
a_dotted_pair_becomes_another = replaces_entry (codes "x.version = \"1\"") (key (codes "x") ∷ [])
    (a_table true ((codes "workspace", a_truth true) ∷ [])) (codes "x.workspace = true") refl

-- a dotted pair gives way to a string; the comment stays
pub a_dotted_pair_becomes_a_string : ReplacesEntry (codes "[d]\r\nx . version=\"1\" # c\r\n")
    (key (codes "d") ∷ key (codes "x") ∷ []) (a_value (a_string (codes "2")))
    (codes "[d]\r\nx = \"2\" # c\r\n")
unfolding on_texts
a_dotted_pair_becomes_a_string = replaces_entry (codes "[d]\r\nx . version=\"1\" # c\r\n")
    (key (codes "d") ∷ key (codes "x") ∷ []) (a_value (a_string (codes "2")))
    (codes "[d]\r\nx = \"2\" # c\r\n") refl

-- a string gives way to a dotted pair
pub a_string_becomes_dotted : ReplacesEntry (codes "\"x\" = \"1\"\n") (key (codes "x") ∷ [])
    (a_table true ((codes "workspace", a_truth true) ∷ [])) (codes "\"x\".workspace = true\n")
unfolding on_texts
a_string_becomes_dotted = replaces_entry (codes "\"x\" = \"1\"\n") (key (codes "x") ∷ [])
    (a_table true ((codes "workspace", a_truth true) ∷ [])) (codes "\"x\".workspace = true\n") refl

-- a member of an inline table
pub a_member_becomes_a_table : ReplacesEntry (codes "d = { x = \"1\", y.version = \"2\" }")
    (key (codes "d") ∷ key (codes "y") ∷ []) (a_table false ((codes "path", a_string (codes "p")) ∷ []))
    (codes "d = { x = \"1\", y = { path = \"p\" } }")
unfolding on_texts
a_member_becomes_a_table = replaces_entry (codes "d = { x = \"1\", y.version = \"2\" }")
    (key (codes "d") ∷ key (codes "y") ∷ []) (a_table false ((codes "path", a_string (codes "p")) ∷ []))
    (codes "d = { x = \"1\", y = { path = \"p\" } }") refl

-- a dotted member of an inline table
pub a_member_becomes_dotted : ReplacesEntry (codes "d = { y.version = \"2\" }")
    (key (codes "d") ∷ key (codes "y") ∷ []) (a_table true ((codes "workspace", a_truth true) ∷ []))
    (codes "d = { y.workspace = true }")
unfolding on_texts
a_member_becomes_dotted = replaces_entry (codes "d = { y.version = \"2\" }")
    (key (codes "d") ∷ key (codes "y") ∷ []) (a_table true ((codes "workspace", a_truth true) ∷ []))
    (codes "d = { y.workspace = true }") refl

-- a key that cannot be bare, and a string with a quote
pub a_quoted_key : Inserts (codes "[a]\n") (key (codes "a") ∷ []) (codes "b \"c\"") (a_string (codes "d\\"))
    (codes "[a]\n\"b \\\"c\\\"\" = \"d\\\\\"\n")
unfolding on_texts
a_quoted_key = inserts (codes "[a]\n") (key (codes "a") ∷ []) (codes "b \"c\"") (a_string (codes "d\\"))
    (codes "[a]\n\"b \\\"c\\\"\" = \"d\\\\\"\n") refl

-- an empty key, and an empty list
pub an_empty_key : Inserts (codes "[a]\n") (key (codes "a") ∷
    []) [] (a_list ([])) (codes "[a]\n\"\" = []\n")
unfolding on_texts
an_empty_key = inserts (codes "[a]\n") (key (codes "a") ∷ []) [] (a_list ([]))
    (codes "[a]\n\"\" = []\n") refl

-- a list before the place
pub optional_behind_features : Inserts (codes "serde = { version = \"2\", features = [\"a\", \"b\"] }")
    (key (codes "serde") ∷ []) (codes "optional") (a_truth true)
    (codes "serde = { version = \"2\", features = [\"a\", \"b\"], optional = true }")
unfolding on_texts
optional_behind_features = inserts (codes "serde = { version = \"2\", features = [\"a\", \"b\"] }")
    (key (codes "serde") ∷ []) (codes "optional") (a_truth true)
    (codes "serde = { version = \"2\", features = [\"a\", \"b\"], optional = true }") refl

-- a string
pub a_tag_behind_a_branch : Inserts (codes "x = { git = \"u\", branch = \"b\" }") (key (codes "x") ∷ [])
    (codes "tag") (a_string (codes "t")) (codes "x = { git = \"u\", branch = \"b\", tag = \"t\" }")
unfolding on_texts
a_tag_behind_a_branch = inserts (codes "x = { git = \"u\", branch = \"b\" }") (key (codes "x") ∷ [])
    (codes "tag") (a_string (codes "t")) (codes "x = { git = \"u\", branch = \"b\", tag = \"t\" }") refl

-- a pair
pub a_pair_is_one : Meets (codes "x = \"1\"\n[y]\n") (is_one_pair (key (codes "x") ∷ []) true)
unfolding on_texts
a_pair_is_one = meets (codes "x = \"1\"\n[y]\n") (is_one_pair (key (codes "x") ∷ []) true) refl

-- a pair of a dotted key
pub a_dotted_pair_is_one : Meets (codes "x.version = \"1\"") (is_one_pair (key (codes "x") ∷ []) true)
unfolding on_texts
a_dotted_pair_is_one = meets (codes "x.version = \"1\"") (is_one_pair (key (codes "x") ∷ []) true) refl

-- a dotted member of an inline table
pub a_member_is_one : Meets (codes "x = { a.b = 1, c = 2 }")
    (is_one_pair (key (codes "x") ∷ key (codes "a") ∷ []) true)
unfolding on_texts
a_member_is_one = meets (codes "x = { a.b = 1, c = 2 }")
    (is_one_pair (key (codes "x") ∷ key (codes "a") ∷ []) true) refl

-- two pairs of dotted keys
pub two_pairs_are_two : Meets (codes "x.a = 1\nx.b = 2") (is_one_pair (key (codes "x") ∷ []) false)
unfolding on_texts
two_pairs_are_two = meets (codes "x.a = 1\nx.b = 2") (is_one_pair (key (codes "x") ∷ []) false) refl

-- a header
pub a_header_is_none : Meets (codes "[x]\na = 1") (is_one_pair (key (codes "x") ∷ []) false)
unfolding on_texts
a_header_is_none = meets (codes "[x]\na = 1") (is_one_pair (key (codes "x") ∷ []) false) refl

-- a header that goes through the place
pub a_way_is_none : Meets (codes "[x.y]\na = 1") (is_one_pair (key (codes "x") ∷ []) false)
unfolding on_texts
a_way_is_none = meets (codes "[x.y]\na = 1") (is_one_pair (key (codes "x") ∷ []) false) refl

-- a pair, and a header below its table
pub a_header_below_counts : Meets (codes "[f]\na.b = 1\n[f.a.c]")
    (is_one_pair (key (codes "f") ∷ key (codes "a") ∷ []) false)
unfolding on_texts
a_header_below_counts = meets (codes "[f]\na.b = 1\n[f.a.c]")
    (is_one_pair (key (codes "f") ∷ key (codes "a") ∷ []) false) refl

-- an element of an array
pub an_element_is_none : Meets (codes "x = [1]") (is_one_pair (key (codes "x") ∷ index 0 ∷ []) false)
unfolding on_texts
an_element_is_none = meets (codes "x = [1]") (is_one_pair (key (codes "x") ∷ index 0 ∷ []) false) refl

-- the root
pub the_root_is_none : Meets (codes "x = 1") (is_one_pair [] false)
unfolding on_texts
the_root_is_none = meets (codes "x = 1") (is_one_pair [] false) refl
