-- Examples of removed items: members and elements with their commas, statements with the lines before them,
-- whole tables.
use Rattle.std.proofs.Common.{[], ◌∷◌, refl}
use Rattle.std.specs.Prelude.{codes}
use Rattle.edit_tree.specs.Assertions.{key, index}
use Rattle.edit_tree.proofs.OnTexts.{on_texts}
use Rattle.edit_document.proofs.EditFacts.{Removes, removes}

-- a table's one entry: its header stays
pub the_only_entry : Removes (codes "\n[dependencies]\ncargo-edit = '0.1.0'\n")
    (key (codes "dependencies") ∷ key (codes "cargo-edit") ∷ []) (codes "\n[dependencies]\n")
unfolding on_texts
the_only_entry = removes (codes "\n[dependencies]\ncargo-edit = '0.1.0'\n")
    (key (codes "dependencies") ∷ key (codes "cargo-edit") ∷ []) (codes "\n[dependencies]\n") refl

-- the table then, with the blank line before it
pub the_only_table : Removes (codes "\n[dependencies]\n") (key (codes "dependencies") ∷ []) []
unfolding on_texts
the_only_table = removes (codes "\n[dependencies]\n") (key (codes "dependencies") ∷ []) [] refl

-- a member of an inline table with a comma behind it
pub a_member_between : Removes (codes "x = { git = \"u\", branch = \"b\", tag = \"t\" }")
    (key (codes "x") ∷ key (codes "branch") ∷ []) (codes "x = { git = \"u\", tag = \"t\" }")
unfolding on_texts
a_member_between = removes (codes "x = { git = \"u\", branch = \"b\", tag = \"t\" }")
    (key (codes "x") ∷ key (codes "branch") ∷ []) (codes "x = { git = \"u\", tag = \"t\" }") refl

-- the last member: the comma before it goes
pub the_last_member : Removes (codes "dependencies = { a = \"1\", b = \"2\" }")
    (key (codes "dependencies") ∷ key (codes "b") ∷ []) (codes "dependencies = { a = \"1\" }")
unfolding on_texts
the_last_member = removes (codes "dependencies = { a = \"1\", b = \"2\" }")
    (key (codes "dependencies") ∷ key (codes "b") ∷ []) (codes "dependencies = { a = \"1\" }") refl

-- the first member
pub the_first_member : Removes (codes "x = { a = 1 , b = 2 }") (key (codes "x") ∷ key (codes "a") ∷ [])
    (codes "x = { b = 2 }")
unfolding on_texts
the_first_member = removes (codes "x = { a = 1 , b = 2 }") (key (codes "x") ∷ key (codes "a") ∷ [])
    (codes "x = { b = 2 }") refl

-- the one member: all white space stays
pub the_only_member : Removes (codes "x = { a = 1 }") (key (codes "x") ∷ key (codes "a") ∷ [])
    (codes "x = {  }")
unfolding on_texts
the_only_member = removes (codes "x = { a = 1 }") (key (codes "x") ∷ key (codes "a") ∷ [])
    (codes "x = {  }") refl

-- a dotted table in an inline table: both its members
pub a_dotted_member : Removes (codes "x = { c = 1, a.b = 2, a.d = 3 }")
    (key (codes "x") ∷ key (codes "a") ∷ []) (codes "x = { c = 1 }")
unfolding on_texts
a_dotted_member = removes (codes "x = { c = 1, a.b = 2, a.d = 3 }") (key (codes "x") ∷ key (codes "a") ∷ [])
    (codes "x = { c = 1 }") refl

-- the same where another member stands between
pub parted_dotted_members : Removes (codes "x = { a.b = 2, c = 1, a.d = 3 }")
    (key (codes "x") ∷ key (codes "a") ∷ []) (codes "x = { c = 1 }")
unfolding on_texts
parted_dotted_members = removes (codes "x = { a.b = 2, c = 1, a.d = 3 }")
    (key (codes "x") ∷ key (codes "a") ∷ []) (codes "x = { c = 1 }") refl

-- a member of an inline table inside another
pub below_a_member : Removes (codes "x = { a = { b = 1, c = 2 }, d = 3 }")
    (key (codes "x") ∷ key (codes "a") ∷ key (codes "b") ∷ []) (codes "x = { a = { c = 2 }, d = 3 }")
unfolding on_texts
below_a_member = removes (codes "x = { a = { b = 1, c = 2 }, d = 3 }")
    (key (codes "x") ∷ key (codes "a") ∷ key (codes "b") ∷ []) (codes "x = { a = { c = 2 }, d = 3 }") refl

-- an element of an array
pub an_element_between : Removes (codes "[features]\nx = [\"dep\", \"dep/std\", \"other\"]")
    (key (codes "features") ∷ key (codes "x") ∷ index 1 ∷ []) (codes "[features]\nx = [\"dep\", \"other\"]")
unfolding on_texts
an_element_between = removes (codes "[features]\nx = [\"dep\", \"dep/std\", \"other\"]")
    (key (codes "features") ∷ key (codes "x") ∷ index 1 ∷ [])
    (codes "[features]\nx = [\"dep\", \"other\"]") refl

-- its first element
pub the_first_element : Removes (codes "[features]\nx = [\"dep\", \"other\"]")
    (key (codes "features") ∷ key (codes "x") ∷ index 0 ∷ []) (codes "[features]\nx = [\"other\"]")
unfolding on_texts
the_first_element = removes (codes "[features]\nx = [\"dep\", \"other\"]")
    (key (codes "features") ∷ key (codes "x") ∷ index 0 ∷ []) (codes "[features]\nx = [\"other\"]") refl

-- its last element
pub the_last_element : Removes (codes "x = [\"dep\", \"other\"]") (key (codes "x") ∷ index 1 ∷ [])
    (codes "x = [\"dep\"]")
unfolding on_texts
the_last_element = removes (codes "x = [\"dep\", \"other\"]") (key (codes "x") ∷ index 1 ∷ [])
    (codes "x = [\"dep\"]") refl

-- its one element
pub the_only_element : Removes (codes "x = [ 1 ]") (key (codes "x") ∷ index 0 ∷ []) (codes "x = [  ]")
unfolding on_texts
the_only_element = removes (codes "x = [ 1 ]") (key (codes "x") ∷ index 0 ∷ []) (codes "x = [  ]") refl

-- an array over lines: the comma and the blanks behind it go, the comment stays
pub an_element_over_lines : Removes (codes "x = [\n 1, # one\n 2, # two\n]") (key (codes "x") ∷ index 0 ∷
    [])
    (codes "x = [\n # one\n 2, # two\n]")
unfolding on_texts
an_element_over_lines = removes (codes "x = [\n 1, # one\n 2, # two\n]") (key (codes "x") ∷ index 0 ∷ [])
    (codes "x = [\n # one\n 2, # two\n]") refl

-- its last element, with a comma behind it
pub a_last_element_over_lines : Removes (codes "x = [\n 1, # one\n 2, # two\n]")
    (key (codes "x") ∷ index 1 ∷ []) (codes "x = [\n 1, # one\n # two\n]")
unfolding on_texts
a_last_element_over_lines = removes (codes "x = [\n 1, # one\n 2, # two\n]") (key (codes "x") ∷ index 1 ∷
    [])
    (codes "x = [\n 1, # one\n # two\n]") refl

-- its last element, without a comma behind it
pub a_last_element_without_comma : Removes (codes "x = [\n 1 # one\n , 2 # two\n]")
    (key (codes "x") ∷ index 1 ∷ []) (codes "x = [\n 1 # one\n  # two\n]")
unfolding on_texts
a_last_element_without_comma = removes (codes "x = [\n 1 # one\n , 2 # two\n]")
    (key (codes "x") ∷ index 1 ∷ []) (codes "x = [\n 1 # one\n  # two\n]") refl

-- a member of an inline table in an array
pub a_member_in_an_array : Removes (codes "x = [{ a = 1, b = 2 }, { a = 3 }]")
    (key (codes "x") ∷ index 0 ∷ key (codes "b") ∷ []) (codes "x = [{ a = 1 }, { a = 3 }]")
unfolding on_texts
a_member_in_an_array = removes (codes "x = [{ a = 1, b = 2 }, { a = 3 }]")
    (key (codes "x") ∷ index 0 ∷ key (codes "b") ∷ []) (codes "x = [{ a = 1 }, { a = 3 }]") refl

-- the blank and comment lines before a statement go, those before the next stay
pub with_the_lines_before : Removes (codes "a = 1\n\n# c\nb = 2 # d\n\n# e\nc = 3\n") (key (codes "b") ∷ [])
    (codes "a = 1\n\n# e\nc = 3\n")
unfolding on_texts
with_the_lines_before = removes (codes "a = 1\n\n# c\nb = 2 # d\n\n# e\nc = 3\n") (key (codes "b") ∷ [])
    (codes "a = 1\n\n# e\nc = 3\n") refl

-- the same with CR LF
pub with_the_lines_before_of_cr_lf : Removes (codes "a = 1\r\n# c\r\nb = 2\r\n# e\r\nc = 3\r\n")
    (key (codes "b") ∷ []) (codes "a = 1\r\n# e\r\nc = 3\r\n")
unfolding on_texts
with_the_lines_before_of_cr_lf = removes (codes "a = 1\r\n# c\r\nb = 2\r\n# e\r\nc = 3\r\n")
    (key (codes "b") ∷ []) (codes "a = 1\r\n# e\r\nc = 3\r\n") refl

-- a last line without a newline
pub the_last_line : Removes (codes "a = 1\nb = 2") (key (codes "b") ∷ []) (codes "a = 1\n")
unfolding on_texts
the_last_line = removes (codes "a = 1\nb = 2") (key (codes "b") ∷ []) (codes "a = 1\n") refl

-- what follows the last statement stays
pub the_last_line_keeps_what_follows : Removes (codes "a = 1\nb = 2\n\n# e") (key (codes "b") ∷ [])
    (codes "a = 1\n\n# e")
unfolding on_texts
the_last_line_keeps_what_follows = removes (codes "a = 1\nb = 2\n\n# e") (key (codes "b") ∷ [])
    (codes "a = 1\n\n# e") refl

-- U+FEFF stays
pub behind_the_byte_order_mark : Removes (0xEF ∷ 0xBB ∷ 0xBF ∷ codes "# c\na = 1\n# d\nb = 2") (key (codes "a") ∷ [])
    (0xEF ∷ 0xBB ∷ 0xBF ∷ codes "# d\nb = 2")
unfolding on_texts
behind_the_byte_order_mark = removes (0xEF ∷ 0xBB ∷ 0xBF ∷ codes "# c\na = 1\n# d\nb = 2") (key (codes "a") ∷ [])
    (0xEF ∷ 0xBB ∷ 0xBF ∷ codes "# d\nb = 2") refl

-- a value over several lines
pub a_value_over_lines : Removes (codes "a = \"\"\"\nx\n\"\"\"\nb = [\n1,\n]\n") (key (codes "a") ∷ [])
    (codes "b = [\n1,\n]\n")
unfolding on_texts
a_value_over_lines = removes (codes "a = \"\"\"\nx\n\"\"\"\nb = [\n1,\n]\n") (key (codes "a") ∷ [])
    (codes "b = [\n1,\n]\n") refl

-- a table: its header, its pairs, and its sub-tables
pub a_table_with_its_pairs : Removes (codes "[a]\nx = 1\n[b]\ny = 2\n[a.c]\nz = 3\n") (key (codes "a") ∷ [])
    (codes "[b]\ny = 2\n")
unfolding on_texts
a_table_with_its_pairs = removes (codes "[a]\nx = 1\n[b]\ny = 2\n[a.c]\nz = 3\n") (key (codes "a") ∷ [])
    (codes "[b]\ny = 2\n") refl

-- a sub-table before its super-table
pub a_sub_table_before : Removes (codes "[a.b]\nx = 1\n\n[a]\ny = 2\n")
    (key (codes "a") ∷ key (codes "b") ∷ []) (codes "\n[a]\ny = 2\n")
unfolding on_texts
a_sub_table_before = removes (codes "[a.b]\nx = 1\n\n[a]\ny = 2\n") (key (codes "a") ∷ key (codes "b") ∷ [])
    (codes "\n[a]\ny = 2\n") refl

-- a table that headers only go through
pub a_super_table : Removes (codes "[a.b]\nx = 1\n[c]\n[a.d]\n") (key (codes "a") ∷ []) (codes "[c]\n")
unfolding on_texts
a_super_table = removes (codes "[a.b]\nx = 1\n[c]\n[a.d]\n") (key (codes "a") ∷ []) (codes "[c]\n") refl

-- a table made by dotted keys
pub a_dotted_table : Removes (codes "a.b = 1\nc = 2\na.d = 3\n") (key (codes "a") ∷ []) (codes "c = 2\n")
unfolding on_texts
a_dotted_table = removes (codes "a.b = 1\nc = 2\na.d = 3\n") (key (codes "a") ∷ []) (codes "c = 2\n") refl

-- one pair of it
pub a_part_of_a_dotted_table : Removes (codes "a.b.c = 1\na.d = 2\n")
    (key (codes "a") ∷ key (codes "b") ∷ []) (codes "a.d = 2\n")
unfolding on_texts
a_part_of_a_dotted_table = removes (codes "a.b.c = 1\na.d = 2\n") (key (codes "a") ∷ key (codes "b") ∷ [])
    (codes "a.d = 2\n") refl

-- a quoted key
pub a_quoted_pair : Removes (codes "[t]\n'a b' = 1\n\"c\".d = 2\n") (key (codes "t") ∷ key (codes "c") ∷ [])
    (codes "[t]\n'a b' = 1\n")
unfolding on_texts
a_quoted_pair = removes (codes "[t]\n'a b' = 1\n\"c\".d = 2\n") (key (codes "t") ∷ key (codes "c") ∷ [])
    (codes "[t]\n'a b' = 1\n") refl

-- the first element of an array of tables, with its sub-tables
pub the_first_of_two_tables : Removes (codes "[[a]]\nx = 1\n[a.b]\n[[a]]\ny = 2\n")
    (key (codes "a") ∷ index 0 ∷ []) (codes "[[a]]\ny = 2\n")
unfolding on_texts
the_first_of_two_tables = removes (codes "[[a]]\nx = 1\n[a.b]\n[[a]]\ny = 2\n")
    (key (codes "a") ∷ index 0 ∷ []) (codes "[[a]]\ny = 2\n") refl

-- the second
pub the_second_of_two_tables : Removes (codes "[[a]]\nx = 1\n[a.b]\n[[a]]\ny = 2\n[a.b.c]\n")
    (key (codes "a") ∷ index 1 ∷ []) (codes "[[a]]\nx = 1\n[a.b]\n")
unfolding on_texts
the_second_of_two_tables = removes (codes "[[a]]\nx = 1\n[a.b]\n[[a]]\ny = 2\n[a.b.c]\n")
    (key (codes "a") ∷ index 1 ∷ []) (codes "[[a]]\nx = 1\n[a.b]\n") refl

-- all of them
pub an_array_of_tables : Removes (codes "[[a]]\nx = 1\n[b]\n[[a]]\n[a.b]\n") (key (codes "a") ∷ [])
    (codes "[b]\n")
unfolding on_texts
an_array_of_tables = removes (codes "[[a]]\nx = 1\n[b]\n[[a]]\n[a.b]\n") (key (codes "a") ∷ [])
    (codes "[b]\n") refl

-- a sub-table of the second element
pub a_table_of_an_element : Removes (codes "[[a]]\n[a.b]\nx = 1\n[[a]]\n[a.b]\ny = 2\n")
    (key (codes "a") ∷ index 1 ∷ key (codes "b") ∷ []) (codes "[[a]]\n[a.b]\nx = 1\n[[a]]\n")
unfolding on_texts
a_table_of_an_element = removes (codes "[[a]]\n[a.b]\nx = 1\n[[a]]\n[a.b]\ny = 2\n")
    (key (codes "a") ∷ index 1 ∷ key (codes "b") ∷ []) (codes "[[a]]\n[a.b]\nx = 1\n[[a]]\n") refl
