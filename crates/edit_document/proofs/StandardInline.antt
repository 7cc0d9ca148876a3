-- Examples of inline tables of TOML 1.1.0 ("Inline Table") with their trees: over several lines, with
-- comments, and with a trailing comma.
use Rattle.std.proofs.Common.{[], ◌∷◌, refl}
use Rattle.std.specs.Prelude.{codes}
use Rattle.edit_tree.specs.Assertions.{key, index}
use Rattle.edit_tree.specs.Tree.{string, whole, inline_table}
use Rattle.edit_document.proofs.FromReader.{Shows, IsNone, shows, is_none}
use Rattle.edit_tree.proofs.OnTexts.{on_texts}

-- "Inline Table": over several lines
pub inline_over_lines : Shows
    (codes "contact = {\n    personal = {\n        name = \"Donald Duck\",\n        email = \"donald@duckburg.com\",\n    },\n    work = {\n        name = \"Coin cleaner\",\n        email = \"donald@ScroogeCorp.com\",\n    },\n}")
    (key (codes "contact") ∷ []) (inline_table (key (codes "personal") ∷ key (codes "work") ∷ []))
unfolding on_texts
inline_over_lines = shows
    (codes "contact = {\n    personal = {\n        name = \"Donald Duck\",\n        email = \"donald@duckburg.com\",\n    },\n    work = {\n        name = \"Coin cleaner\",\n        email = \"donald@ScroogeCorp.com\",\n    },\n}") (key (codes "contact") ∷ []) (inline_table (key (codes "personal") ∷ key (codes "work") ∷ [])) refl refl

-- "Inline Table": within another one
pub inline_within : Shows
    (codes "contact = {\n    personal = {\n        name = \"Donald Duck\",\n        email = \"donald@duckburg.com\",\n    },\n    work = {\n        name = \"Coin cleaner\",\n        email = \"donald@ScroogeCorp.com\",\n    },\n}")
    (key (codes "contact") ∷ key (codes "work") ∷ key (codes "email") ∷ [])
    (string (codes "donald@ScroogeCorp.com"))
unfolding on_texts
inline_within = shows
    (codes "contact = {\n    personal = {\n        name = \"Donald Duck\",\n        email = \"donald@duckburg.com\",\n    },\n    work = {\n        name = \"Coin cleaner\",\n        email = \"donald@ScroogeCorp.com\",\n    },\n}") (key (codes "contact") ∷ key (codes "work") ∷ key (codes "email") ∷ []) (string (codes "donald@ScroogeCorp.com")) refl refl

-- "Inline Table": a comma at the end
pub inline_comma_at_the_end : Shows (codes "t = { a = true, }")
    (key (codes "t") ∷ []) (inline_table (key (codes "a") ∷ []))
unfolding on_texts
inline_comma_at_the_end = shows (codes "t = { a = true, }") (key (codes "t") ∷ [])
    (inline_table (key (codes "a") ∷ [])) refl refl

-- "Inline Table": comments, and a comma behind one
pub inline_comments : Shows
    (codes "t = { # one\r\n  # two\r\n  a = true # three\r\n  , b = 1, # four\r\n} # five")
    (key (codes "t") ∷ key (codes "b") ∷ []) (whole (codes "1"))
unfolding on_texts
inline_comments = shows
    (codes "t = { # one\r\n  # two\r\n  a = true # three\r\n  , b = 1, # four\r\n} # five")
    (key (codes "t") ∷ key (codes "b") ∷ []) (whole (codes "1")) refl refl

-- "Inline Table": nothing but a comment
pub inline_comment_alone : Shows (codes "t = { # none\n}")
    (key (codes "t") ∷ []) (inline_table [])
unfolding on_texts
inline_comment_alone = shows (codes "t = { # none\n}") (key (codes "t") ∷ []) (inline_table []) refl refl

-- "Inline Table": with an array, in an array
pub inline_and_arrays : Shows (codes "t = [ {\n  a = [\n    1,\n  ],\n}, ]")
    (key (codes "t") ∷ index 0 ∷ key (codes "a") ∷ index 0 ∷ []) (whole (codes "1"))
unfolding on_texts
inline_and_arrays = shows (codes "t = [ {\n  a = [\n    1,\n  ],\n}, ]")
    (key (codes "t") ∷ index 0 ∷ key (codes "a") ∷ index 0 ∷ []) (whole (codes "1")) refl refl

-- "Inline Table": a comma alone
pub inline_comma_alone : IsNone (codes "x = { , }")
unfolding on_texts
inline_comma_alone = is_none (codes "x = { , }") refl refl

-- "Inline Table": two commas
pub inline_two_commas : IsNone (codes "x = { a = 1,, }")
unfolding on_texts
inline_two_commas = is_none (codes "x = { a = 1,, }") refl refl

-- "Inline Table": no comma between the lines
pub inline_no_comma : IsNone (codes "x = { a = 1\n  b = 2 }")
unfolding on_texts
inline_no_comma = is_none (codes "x = { a = 1\n  b = 2 }") refl refl

-- "Key/Value Pair": a newline before the value
pub inline_newline_before_value : IsNone (codes "x = { a =\n1 }")
unfolding on_texts
inline_newline_before_value = is_none (codes "x = { a =\n1 }") refl refl

-- "Key/Value Pair": a newline behind the key
pub inline_newline_behind_key : IsNone (codes "x = { a\n= 1 }")
unfolding on_texts
inline_newline_behind_key = is_none (codes "x = { a\n= 1 }") refl refl

-- "Inline Table": the comment holds the brace
pub inline_closed_in_a_comment : IsNone (codes "x = { a = 1 # }")
unfolding on_texts
inline_closed_in_a_comment = is_none (codes "x = { a = 1 # }") refl refl
