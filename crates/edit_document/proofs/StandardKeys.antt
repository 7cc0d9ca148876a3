-- Examples of TOML 1.0.0 with their trees: comments, keys and strings.
use Rattle.std.proofs.Common.{[], ◌∷◌, ◌++◌, true, refl}
use Rattle.std.specs.Prelude.{codes}
use Rattle.edit_tree.specs.Assertions.{key}
use Rattle.edit_tree.specs.Tree.{string, truth, table}
use Rattle.edit_document.proofs.FromReader.{Shows, IsNone, shows, is_none}
use Rattle.edit_tree.proofs.OnTexts.{on_texts}

-- "Comment"
pub comment : Shows (codes
    "# This is a full-line comment\nkey = \"value\"  # This is a comment at the end of a line\nanother = \"# This is not a comment\"")
    (key (codes "another") ∷ []) (string (codes "# This is not a comment"))
unfolding on_texts
comment = shows (codes
    "# This is a full-line comment\nkey = \"value\"  # This is a comment at the end of a line\nanother = \"# This is not a comment\"") (key (codes "another") ∷ []) (string (codes "# This is not a comment")) refl refl

-- "Key/Value Pair"
pub pair : Shows (codes "key = \"value\"") (key (codes "key") ∷ []) (string (codes "value"))
unfolding on_texts
pair = shows (codes "key = \"value\"") (key (codes "key") ∷ []) (string (codes "value")) refl refl

-- "Key/Value Pair": no value
pub pair_without_value : IsNone (codes "key = # INVALID")
unfolding on_texts
pair_without_value = is_none (codes "key = # INVALID") refl refl

-- "Key/Value Pair": two on a line
pub two_pairs_on_a_line : IsNone (codes "first = \"Tom\" last = \"Preston-Werner\" # INVALID")
unfolding on_texts
two_pairs_on_a_line = is_none (codes "first = \"Tom\" last = \"Preston-Werner\" # INVALID") refl refl

-- "Keys": bare
pub bare_keys : Shows (codes "key = \"value\"\nbare_key = \"value\"\nbare-key = \"value\"\n1234 = \"value\"")
    (key (codes "1234") ∷ []) (string (codes "value"))
unfolding on_texts
bare_keys = shows (codes "key = \"value\"\nbare_key = \"value\"\nbare-key = \"value\"\n1234 = \"value\"")
    (key (codes "1234") ∷ []) (string (codes "value")) refl refl

-- "Keys": quoted
pub quoted_keys : Shows (codes "\"127.0.0.1\" = \"value\"\n\"character encoding\" = \"value\"\n\"" ++
    (202 ∷ 142 ∷ 199 ∷ 157 ∷ 202 ∷ 158
    ∷ codes "\" = \"value\"\n'key2' = \"value\"\n'quoted \"value\"' = \"value\""))
    (key (202 ∷ 142 ∷ 199 ∷ 157 ∷ 202 ∷ 158 ∷ []) ∷ []) (string (codes "value"))
unfolding on_texts
quoted_keys = shows (codes "\"127.0.0.1\" = \"value\"\n\"character encoding\" = \"value\"\n\"" ++
    (202 ∷ 142 ∷ 199 ∷ 157 ∷ 202 ∷ 158
    ∷ codes "\" = \"value\"\n'key2' = \"value\"\n'quoted \"value\"' = \"value\""))
    (key (202 ∷ 142 ∷ 199 ∷ 157 ∷ 202 ∷ 158 ∷ []) ∷ []) (string (codes "value")) refl refl

-- "Keys": quoted, a literal string
pub literal_key : Shows (codes "'quoted \"value\"' = \"value\"")
    (key (codes "quoted \"value\"") ∷ []) (string (codes "value"))
unfolding on_texts
literal_key = shows (codes "'quoted \"value\"' = \"value\"") (key (codes "quoted \"value\"") ∷ [])
    (string (codes "value")) refl refl

-- "Keys": no name
pub no_key_name : IsNone (codes "= \"no key name\"  # INVALID")
unfolding on_texts
no_key_name = is_none (codes "= \"no key name\"  # INVALID") refl refl

-- "Keys": an empty quoted key
pub blank_key : Shows (codes "\"\" = \"blank\"     # VALID but discouraged")
    (key [] ∷ []) (string (codes "blank"))
unfolding on_texts
blank_key = shows (codes "\"\" = \"blank\"     # VALID but discouraged") (key [] ∷ [])
    (string (codes "blank")) refl refl

-- "Keys": dotted
pub dotted_keys : Shows
    (codes "name = \"Orange\"\nphysical.color = \"orange\"\nphysical.shape = \"round\"\nsite.\"google.com\" = true")
    (key (codes "physical") ∷ []) (table (key (codes "color") ∷ key (codes "shape") ∷ []))
unfolding on_texts
dotted_keys = shows (codes
    "name = \"Orange\"\nphysical.color = \"orange\"\nphysical.shape = \"round\"\nsite.\"google.com\" = true")
    (key (codes "physical") ∷ []) (table (key (codes "color") ∷ key (codes "shape") ∷ [])) refl refl

-- "Keys": dotted, a quoted part
pub dotted_quoted_key : Shows (codes "site.\"google.com\" = true")
    (key (codes "site") ∷ key (codes "google.com") ∷ []) (truth true)
unfolding on_texts
dotted_quoted_key = shows (codes "site.\"google.com\" = true")
    (key (codes "site") ∷ key (codes "google.com") ∷ []) (truth true) refl refl

-- "Keys": dotted, with blanks
pub dotted_keys_with_blanks : Shows
    (codes "fruit.name = \"banana\"\nfruit. color = \"yellow\"\nfruit . flavor = \"banana\"")
    (key (codes "fruit") ∷ key (codes "flavor") ∷ []) (string (codes "banana"))
unfolding on_texts
dotted_keys_with_blanks =
    shows (codes "fruit.name = \"banana\"\nfruit. color = \"yellow\"\nfruit . flavor = \"banana\"")
    (key (codes "fruit") ∷ key (codes "flavor") ∷ []) (string (codes "banana")) refl refl

-- "Keys": a key twice
pub key_twice : IsNone (codes "# DO NOT DO THIS\nname = \"Tom\"\nname = \"Pradyun\"")
unfolding on_texts
key_twice = is_none (codes "# DO NOT DO THIS\nname = \"Tom\"\nname = \"Pradyun\"") refl refl

-- "Keys": bare and quoted are the same
pub bare_and_quoted : IsNone
    (codes "# THIS WILL NOT WORK\nspelling = \"favorite\"\n\"spelling\" = \"favourite\"")
unfolding on_texts
bare_and_quoted = is_none
    (codes "# THIS WILL NOT WORK\nspelling = \"favorite\"\n\"spelling\" = \"favourite\"") refl refl

-- "Keys": a table by dotted keys
pub dotted_table : Shows (codes "fruit.apple.smooth = true\nfruit.orange = 2")
    (key (codes "fruit") ∷ []) (table (key (codes "apple") ∷ key (codes "orange") ∷ []))
unfolding on_texts
dotted_table = shows (codes "fruit.apple.smooth = true\nfruit.orange = 2") (key (codes "fruit") ∷ [])
    (table (key (codes "apple") ∷ key (codes "orange") ∷ [])) refl refl

-- "Keys": an integer is no table
pub integer_is_no_table : IsNone
    (codes "# This defines the value of fruit.apple to be an integer.\nfruit.apple = 1\nfruit.apple.smooth = true")
unfolding on_texts
integer_is_no_table =
    is_none (codes "# This defines the value of fruit.apple to be an integer.\nfruit.apple = 1\nfruit.apple.smooth = true") refl refl

-- "Keys": of digits alone
pub digits_are_keys : Shows (codes "3.14159 = \"pi\"")
    (key (codes "3") ∷ key (codes "14159") ∷ []) (string (codes "pi"))
unfolding on_texts
digits_are_keys = shows (codes "3.14159 = \"pi\"") (key (codes "3") ∷ key (codes "14159") ∷ [])
    (string (codes "pi")) refl refl

-- "String": basic
pub basic_string : Shows
    (codes "str = \"I'm a string. \\\"You can quote me\\\". Name\\tJos\\u00E9\\nLocation\\tSF.\"")
    (key (codes "str") ∷ [])
    (string (codes "I'm a string. \"You can quote me\". Name\tJos" ++ (195 ∷ 169 ∷ codes "\nLocation\tSF.")))
unfolding on_texts
basic_string = shows
    (codes "str = \"I'm a string. \\\"You can quote me\\\". Name\\tJos\\u00E9\\nLocation\\tSF.\"")
    (key (codes "str") ∷ [])
    (string (codes "I'm a string. \"You can quote me\". Name\tJos" ++ (195 ∷ 169 ∷ codes "\nLocation\tSF.")))
    refl refl

-- "String": over several lines
pub string_over_lines : Shows (codes "str1 = \"\"\"\nRoses are red\nViolets are blue\"\"\"")
    (key (codes "str1") ∷ []) (string (codes "Roses are red\nViolets are blue"))
unfolding on_texts
string_over_lines = shows (codes "str1 = \"\"\"\nRoses are red\nViolets are blue\"\"\"")
    (key (codes "str1") ∷ []) (string (codes "Roses are red\nViolets are blue")) refl refl

-- "String": lines that are joined
pub joined_lines : Shows
    (codes "str2 = \"\"\"\nThe quick brown \\\n\n\n  fox jumps over \\\n    the lazy dog.\"\"\"")
    (key (codes "str2") ∷ []) (string (codes "The quick brown fox jumps over the lazy dog."))
unfolding on_texts
joined_lines = shows
    (codes "str2 = \"\"\"\nThe quick brown \\\n\n\n  fox jumps over \\\n    the lazy dog.\"\"\"")
    (key (codes "str2") ∷ []) (string (codes "The quick brown fox jumps over the lazy dog.")) refl refl

-- "String": lines that are joined, the first too
pub joined_first_line : Shows
    (codes "str3 = \"\"\"\\\n       The quick brown \\\n       fox jumps over \\\n       the lazy dog.\\\n       \"\"\"")
    (key (codes "str3") ∷ []) (string (codes "The quick brown fox jumps over the lazy dog."))
unfolding on_texts
joined_first_line = shows
    (codes "str3 = \"\"\"\\\n       The quick brown \\\n       fox jumps over \\\n       the lazy dog.\\\n       \"\"\"") (key (codes "str3") ∷ []) (string (codes "The quick brown fox jumps over the lazy dog.")) refl refl

-- "String": two quotation marks inside
pub two_quotes_inside : Shows (codes "str4 = \"\"\"Here are two quotation marks: \"\". Simple enough.\"\"\"")
    (key (codes "str4") ∷ []) (string (codes "Here are two quotation marks: \"\". Simple enough."))
unfolding on_texts
two_quotes_inside = shows (codes "str4 = \"\"\"Here are two quotation marks: \"\". Simple enough.\"\"\"")
    (key (codes "str4") ∷ []) (string (codes "Here are two quotation marks: \"\". Simple enough.")) refl refl

-- "String": three quotation marks inside
pub three_quotes_inside : IsNone
    (codes "# INVALID\nstr5 = \"\"\"Here are three quotation marks: \"\"\".\"\"\"")
unfolding on_texts
three_quotes_inside =
    is_none (codes "# INVALID\nstr5 = \"\"\"Here are three quotation marks: \"\"\".\"\"\"") refl refl

-- "String": three, the last escaped
pub escaped_quote_inside : Shows (codes "str5 = \"\"\"Here are three quotation marks: \"\"\\\".\"\"\"")
    (key (codes "str5") ∷ []) (string (codes "Here are three quotation marks: \"\"\"."))
unfolding on_texts
escaped_quote_inside = shows (codes "str5 = \"\"\"Here are three quotation marks: \"\"\\\".\"\"\"")
    (key (codes "str5") ∷ []) (string (codes "Here are three quotation marks: \"\"\".")) refl refl

-- "String": quotation marks at both ends
pub quotes_at_both_ends : Shows
    (codes "str7 = \"\"\"\"This,\" she said, \"is just a pointless statement.\"\"\"\"")
    (key (codes "str7") ∷ []) (string (codes "\"This,\" she said, \"is just a pointless statement.\""))
unfolding on_texts
quotes_at_both_ends =
    shows (codes "str7 = \"\"\"\"This,\" she said, \"is just a pointless statement.\"\"\"\"")
    (key (codes "str7") ∷ []) (string (codes "\"This,\" she said, \"is just a pointless statement.\"")) refl
    refl

-- "String": literal
pub literal_string : Shows (codes "winpath  = 'C:\\Users\\nodejs\\templates'")
    (key (codes "winpath") ∷ []) (string (codes "C:\\Users\\nodejs\\templates"))
unfolding on_texts
literal_string = shows (codes "winpath  = 'C:\\Users\\nodejs\\templates'") (key (codes "winpath") ∷ [])
    (string (codes "C:\\Users\\nodejs\\templates")) refl refl

-- "String": literal, over several lines
pub literal_over_lines : Shows
    (codes "lines  = '''\nThe first newline is\ntrimmed in raw strings.\n   All other whitespace\n   is preserved.\n'''")
    (key (codes "lines") ∷ [])
    (string (codes "The first newline is\ntrimmed in raw strings.\n   All other whitespace\n   is preserved.\n"))
unfolding on_texts
literal_over_lines =
    shows (codes "lines  = '''\nThe first newline is\ntrimmed in raw strings.\n   All other whitespace\n   is preserved.\n'''") (key (codes "lines") ∷ []) (string (codes "The first newline is\ntrimmed in raw strings.\n   All other whitespace\n   is preserved.\n")) refl refl

-- "String": fifteen apostrophes in a row
pub fifteen_apostrophes : IsNone
    (codes "# INVALID\napos15 = '''Here are fifteen apostrophes: ''''''''''''''''''")
unfolding on_texts
fifteen_apostrophes =
    is_none (codes "# INVALID\napos15 = '''Here are fifteen apostrophes: ''''''''''''''''''") refl refl

-- "String": apostrophes at both ends
pub apostrophes_at_both_ends : Shows (codes "str = ''''That,' she said, 'is still pointless.''''")
    (key (codes "str") ∷ []) (string (codes "'That,' she said, 'is still pointless.'"))
unfolding on_texts
apostrophes_at_both_ends = shows (codes "str = ''''That,' she said, 'is still pointless.''''")
    (key (codes "str") ∷ []) (string (codes "'That,' she said, 'is still pointless.'")) refl refl

-- "Keys": a dotted key without a part
pub key_without_a_part : IsNone (codes "a..b = true")
unfolding on_texts
key_without_a_part = is_none (codes "a..b = true") refl refl

-- "String": an unknown escape
pub unknown_escape : IsNone (codes "str = \"\\q\"")
unfolding on_texts
unknown_escape = is_none (codes "str = \"\\q\"") refl refl

-- "String": an escape that is no scalar value
pub surrogate_escape : IsNone (codes "str = \"\\uD800\"")
unfolding on_texts
surrogate_escape = is_none (codes "str = \"\\uD800\"") refl refl

-- "String": a backslash before a blank
pub backslash_before_a_blank : IsNone (codes "s = \"\"\"a \\ b\"\"\"")
unfolding on_texts
backslash_before_a_blank = is_none (codes "s = \"\"\"a \\ b\"\"\"") refl refl
