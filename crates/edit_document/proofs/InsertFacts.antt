-- Examples of inserted members, for each kind of table, each newline and each position of a text.
use Rattle.std.proofs.Common.{true, [], ◌∷◌, refl}
use Rattle.std.specs.Prelude.{codes}
use Rattle.edit_tree.specs.Assertions.{key, index}
use Rattle.edit_tree.specs.NewItems.{a_truth}
use Rattle.edit_tree.proofs.OnTexts.{on_texts}
use Rattle.edit_document.proofs.EditFacts.{Inserts, inserts}

-- an inline table: behind its last member
pub into_an_inline_table : Inserts (codes "x = { a = 1 } # c") (key (codes "x") ∷ []) (codes "n")
    (a_truth true) (codes "x = { a = 1, n = true } # c")
unfolding on_texts
into_an_inline_table = inserts (codes "x = { a = 1 } # c") (key (codes "x") ∷ []) (codes "n") (a_truth true)
    (codes "x = { a = 1, n = true } # c") refl

-- an inline table without white space
pub into_a_tight_inline_table : Inserts (codes "x={a=1}") (key (codes "x") ∷ []) (codes "n") (a_truth true)
    (codes "x={a=1, n = true}")
unfolding on_texts
into_a_tight_inline_table = inserts (codes "x={a=1}") (key (codes "x") ∷ []) (codes "n") (a_truth true)
    (codes "x={a=1, n = true}") refl

-- an empty inline table: the white space in its braces gives way
pub into_an_empty_inline_table : Inserts (codes "x = {  }") (key (codes "x") ∷
    []) (codes "n") (a_truth true)
    (codes "x = { n = true }")
unfolding on_texts
into_an_empty_inline_table = inserts (codes "x = {  }") (key (codes "x") ∷ []) (codes "n") (a_truth true)
    (codes "x = { n = true }") refl

-- an inline table of nothing but braces
pub into_bare_braces : Inserts (codes "x = {}") (key (codes "x") ∷ []) (codes "n") (a_truth true)
    (codes "x = { n = true }")
unfolding on_texts
into_bare_braces = inserts (codes "x = {}") (key (codes "x") ∷ []) (codes "n") (a_truth true)
    (codes "x = { n = true }") refl

-- an inline table in an array
pub into_an_inline_table_of_an_array : Inserts (codes "x = [{ a = 1 }, { b = 2 }]")
    (key (codes "x") ∷ index 0 ∷ []) (codes "n") (a_truth true)
    (codes "x = [{ a = 1, n = true }, { b = 2 }]")
unfolding on_texts
into_an_inline_table_of_an_array = inserts (codes "x = [{ a = 1 }, { b = 2 }]")
    (key (codes "x") ∷ index 0 ∷ []) (codes "n") (a_truth true)
    (codes "x = [{ a = 1, n = true }, { b = 2 }]") refl

-- an inline table inside another
pub into_an_inner_inline_table : Inserts (codes "x = { a = { b = 1 }, c = 2 }")
    (key (codes "x") ∷ key (codes "a") ∷ []) (codes "n") (a_truth true)
    (codes "x = { a = { b = 1, n = true }, c = 2 }")
unfolding on_texts
into_an_inner_inline_table = inserts (codes "x = { a = { b = 1 }, c = 2 }")
    (key (codes "x") ∷ key (codes "a") ∷ []) (codes "n") (a_truth true)
    (codes "x = { a = { b = 1, n = true }, c = 2 }") refl

-- a table with a header: behind its last pair and the comment on its line, a blank line stays
pub behind_the_last_pair : Inserts (codes "[a]\nx = 1 # c\n\n[b]\ny = 2\n") (key (codes "a") ∷ [])
    (codes "n") (a_truth true) (codes "[a]\nx = 1 # c\nn = true\n\n[b]\ny = 2\n")
unfolding on_texts
behind_the_last_pair = inserts (codes "[a]\nx = 1 # c\n\n[b]\ny = 2\n") (key (codes "a") ∷ []) (codes "n")
    (a_truth true) (codes "[a]\nx = 1 # c\nn = true\n\n[b]\ny = 2\n") refl

-- the same with CR LF
pub behind_the_last_pair_of_cr_lf : Inserts (codes "[a]\r\nx = 1 # c\r\n\r\n[a.b]\r\n")
    (key (codes "a") ∷
    []) (codes "n") (a_truth true) (codes "[a]\r\nx = 1 # c\r\nn = true\r\n\r\n[a.b]\r\n")
unfolding on_texts
behind_the_last_pair_of_cr_lf = inserts (codes "[a]\r\nx = 1 # c\r\n\r\n[a.b]\r\n") (key (codes "a") ∷ [])
    (codes "n") (a_truth true) (codes "[a]\r\nx = 1 # c\r\nn = true\r\n\r\n[a.b]\r\n") refl

-- a last line without a newline: LF comes before the member
pub behind_a_pair_without_line_end : Inserts (codes "[a]\nx = 1") (key (codes "a") ∷ []) (codes "n")
    (a_truth true) (codes "[a]\nx = 1\nn = true")
unfolding on_texts
behind_a_pair_without_line_end = inserts (codes "[a]\nx = 1") (key (codes "a") ∷ []) (codes "n")
    (a_truth true) (codes "[a]\nx = 1\nn = true") refl

-- a last line without a newline among CR LF: LF too
pub behind_a_last_line_among_cr_lf : Inserts (codes "[a]\r\nx = 1") (key (codes "a") ∷ []) (codes "n")
    (a_truth true) (codes "[a]\r\nx = 1\nn = true")
unfolding on_texts
behind_a_last_line_among_cr_lf = inserts (codes "[a]\r\nx = 1") (key (codes "a") ∷ []) (codes "n")
    (a_truth true) (codes "[a]\r\nx = 1\nn = true") refl

-- a header without pairs: behind its line
pub behind_a_header : Inserts (codes "[a] # c\n\n# d\n[b]\n") (key (codes "a") ∷ []) (codes "n")
    (a_truth true) (codes "[a] # c\nn = true\n\n# d\n[b]\n")
unfolding on_texts
behind_a_header = inserts (codes "[a] # c\n\n# d\n[b]\n") (key (codes "a") ∷ []) (codes "n") (a_truth true)
    (codes "[a] # c\nn = true\n\n# d\n[b]\n") refl

-- a header on the last line
pub behind_a_header_without_line_end : Inserts (codes "[a]") (key (codes "a") ∷ []) (codes "n")
    (a_truth true) (codes "[a]\nn = true")
unfolding on_texts
behind_a_header_without_line_end = inserts (codes "[a]") (key (codes "a") ∷ []) (codes "n") (a_truth true)
    (codes "[a]\nn = true") refl

-- a header of quoted parts
pub behind_a_quoted_header : Inserts (codes "[ a . 'b.c' ]\n") (key (codes "a") ∷ key (codes "b.c") ∷ [])
    (codes "n") (a_truth true) (codes "[ a . 'b.c' ]\nn = true\n")
unfolding on_texts
behind_a_quoted_header = inserts (codes "[ a . 'b.c' ]\n") (key (codes "a") ∷ key (codes "b.c") ∷ [])
    (codes "n") (a_truth true) (codes "[ a . 'b.c' ]\nn = true\n") refl

-- a last pair whose array stands over several lines
pub behind_a_value_over_lines : Inserts (codes "[a]\nx = [\n 1, # c\n]\n[b]\n") (key (codes "a") ∷ [])
    (codes "n") (a_truth true) (codes "[a]\nx = [\n 1, # c\n]\nn = true\n[b]\n")
unfolding on_texts
behind_a_value_over_lines = inserts (codes "[a]\nx = [\n 1, # c\n]\n[b]\n") (key (codes "a") ∷ [])
    (codes "n") (a_truth true) (codes "[a]\nx = [\n 1, # c\n]\nn = true\n[b]\n") refl

-- a header before that of its sub-table
pub before_a_sub_table : Inserts (codes "[a]\n[a.b]\nx = 1\n") (key (codes "a") ∷ []) (codes "n")
    (a_truth true) (codes "[a]\nn = true\n[a.b]\nx = 1\n")
unfolding on_texts
before_a_sub_table = inserts (codes "[a]\n[a.b]\nx = 1\n") (key (codes "a") ∷ []) (codes "n") (a_truth true)
    (codes "[a]\nn = true\n[a.b]\nx = 1\n") refl

-- a header behind that of its sub-table
pub behind_a_sub_table : Inserts (codes "[a.b]\nx = 1\n[a]\ny = 2\n") (key (codes "a") ∷ []) (codes "n")
    (a_truth true) (codes "[a.b]\nx = 1\n[a]\ny = 2\nn = true\n")
unfolding on_texts
behind_a_sub_table = inserts (codes "[a.b]\nx = 1\n[a]\ny = 2\n") (key (codes "a") ∷ []) (codes "n")
    (a_truth true) (codes "[a.b]\nx = 1\n[a]\ny = 2\nn = true\n") refl

-- an element of an array of tables: the first
pub into_the_first_element : Inserts (codes "[[a]]\nx = 1\n[[a]]\n[a.b]\n") (key (codes "a") ∷ index 0 ∷ [])
    (codes "n") (a_truth true) (codes "[[a]]\nx = 1\nn = true\n[[a]]\n[a.b]\n")
unfolding on_texts
into_the_first_element = inserts (codes "[[a]]\nx = 1\n[[a]]\n[a.b]\n") (key (codes "a") ∷ index 0 ∷ [])
    (codes "n") (a_truth true) (codes "[[a]]\nx = 1\nn = true\n[[a]]\n[a.b]\n") refl

-- the second, which has no pair
pub into_the_second_element : Inserts (codes "[[a]]\nx = 1\n[[a]]\n[a.b]\n") (key (codes "a") ∷ index 1 ∷
    [])
    (codes "n") (a_truth true) (codes "[[a]]\nx = 1\n[[a]]\nn = true\n[a.b]\n")
unfolding on_texts
into_the_second_element = inserts (codes "[[a]]\nx = 1\n[[a]]\n[a.b]\n") (key (codes "a") ∷ index 1 ∷ [])
    (codes "n") (a_truth true) (codes "[[a]]\nx = 1\n[[a]]\nn = true\n[a.b]\n") refl

-- a sub-table of the second of two elements
pub into_a_table_of_an_element : Inserts (codes "[[a]]\n[a.b]\n[[a]]\n[a.b]\n")
    (key (codes "a") ∷ index 1 ∷ key (codes "b") ∷ []) (codes "n") (a_truth true)
    (codes "[[a]]\n[a.b]\n[[a]]\n[a.b]\nn = true\n")
unfolding on_texts
into_a_table_of_an_element = inserts (codes "[[a]]\n[a.b]\n[[a]]\n[a.b]\n")
    (key (codes "a") ∷ index 1 ∷ key (codes "b") ∷ []) (codes "n") (a_truth true)
    (codes "[[a]]\n[a.b]\n[[a]]\n[a.b]\nn = true\n") refl

-- a table made by dotted keys: behind the last pair that makes it
pub into_a_dotted_table : Inserts (codes "a.b = 1\nc = 2\na.d = 3 # c\ne = 4\n") (key (codes "a") ∷ [])
    (codes "n") (a_truth true) (codes "a.b = 1\nc = 2\na.d = 3 # c\na.n = true\ne = 4\n")
unfolding on_texts
into_a_dotted_table = inserts (codes "a.b = 1\nc = 2\na.d = 3 # c\ne = 4\n") (key (codes "a") ∷ [])
    (codes "n") (a_truth true) (codes "a.b = 1\nc = 2\na.d = 3 # c\na.n = true\ne = 4\n") refl

-- a table below it
pub into_a_dotted_table_below : Inserts (codes "a.b.c = 1\na.d = 2\n")
    (key (codes "a") ∷ key (codes "b") ∷ []) (codes "n") (a_truth true)
    (codes "a.b.c = 1\na.b.n = true\na.d = 2\n")
unfolding on_texts
into_a_dotted_table_below = inserts (codes "a.b.c = 1\na.d = 2\n") (key (codes "a") ∷ key (codes "b") ∷ [])
    (codes "n") (a_truth true) (codes "a.b.c = 1\na.b.n = true\na.d = 2\n") refl

-- white space and quotes in a key stay
pub into_a_spaced_dotted_table : Inserts (codes "'a' . \"b\" . c = 1")
    (key (codes "a") ∷ key (codes "b") ∷ []) (codes "n") (a_truth true)
    (codes "'a' . \"b\" . c = 1\n'a' . \"b\".n = true")
unfolding on_texts
into_a_spaced_dotted_table = inserts (codes "'a' . \"b\" . c = 1") (key (codes "a") ∷ key (codes "b") ∷ [])
    (codes "n") (a_truth true) (codes "'a' . \"b\" . c = 1\n'a' . \"b\".n = true") refl

-- a dotted key under a header, with CR LF
pub into_a_dotted_table_of_cr_lf : Inserts (codes "[t]\r\na.b = 1\r\n")
    (key (codes "t") ∷ key (codes "a") ∷ []) (codes "n") (a_truth true)
    (codes "[t]\r\na.b = 1\r\na.n = true\r\n")
unfolding on_texts
into_a_dotted_table_of_cr_lf = inserts (codes "[t]\r\na.b = 1\r\n") (key (codes "t") ∷ key (codes "a") ∷ [])
    (codes "n") (a_truth true) (codes "[t]\r\na.b = 1\r\na.n = true\r\n") refl

-- a dotted table with a sub-table of its own header
pub into_a_dotted_super_table : Inserts
    (codes "[fruit]\napple.color = 1\n[fruit.apple.texture]\nsmooth = true\n")
    (key (codes "fruit") ∷ key (codes "apple") ∷ []) (codes "n") (a_truth true)
    (codes "[fruit]\napple.color = 1\napple.n = true\n[fruit.apple.texture]\nsmooth = true\n")
unfolding on_texts
into_a_dotted_super_table = inserts
    (codes "[fruit]\napple.color = 1\n[fruit.apple.texture]\nsmooth = true\n")
    (key (codes "fruit") ∷ key (codes "apple") ∷ []) (codes "n") (a_truth true)
    (codes "[fruit]\napple.color = 1\napple.n = true\n[fruit.apple.texture]\nsmooth = true\n") refl

-- a dotted table inside an inline table
pub into_an_inner_dotted_table : Inserts (codes "x = { a.b = 1, c = 2 }")
    (key (codes "x") ∷ key (codes "a") ∷ []) (codes "n") (a_truth true)
    (codes "x = { a.b = 1, a.n = true, c = 2 }")
unfolding on_texts
into_an_inner_dotted_table = inserts (codes "x = { a.b = 1, c = 2 }")
    (key (codes "x") ∷ key (codes "a") ∷ []) (codes "n") (a_truth true)
    (codes "x = { a.b = 1, a.n = true, c = 2 }") refl

-- the same where it stands twice
pub into_the_last_inner_dotted_table : Inserts (codes "x = { a.b = 1, c = 2, a.d = 3 }")
    (key (codes "x") ∷ key (codes "a") ∷ []) (codes "n") (a_truth true)
    (codes "x = { a.b = 1, c = 2, a.d = 3, a.n = true }")
unfolding on_texts
into_the_last_inner_dotted_table = inserts (codes "x = { a.b = 1, c = 2, a.d = 3 }")
    (key (codes "x") ∷ key (codes "a") ∷ []) (codes "n") (a_truth true)
    (codes "x = { a.b = 1, c = 2, a.d = 3, a.n = true }") refl

-- a table that headers only go through: a header of its own before the first of them
pub into_a_super_table : Inserts (codes "# c\n[a.b]\nx = 1\n[a.c]\n") (key (codes "a") ∷ []) (codes "n")
    (a_truth true) (codes "# c\n[a]\nn = true\n[a.b]\nx = 1\n[a.c]\n")
unfolding on_texts
into_a_super_table = inserts (codes "# c\n[a.b]\nx = 1\n[a.c]\n") (key (codes "a") ∷ []) (codes "n")
    (a_truth true) (codes "# c\n[a]\nn = true\n[a.b]\nx = 1\n[a.c]\n") refl

-- the same, with white space and quotes
pub into_a_quoted_super_table : Inserts (codes "y = 1\r\n[ 'a' . \"b\" .c]\r\n")
    (key (codes "a") ∷ key (codes "b") ∷ []) (codes "n") (a_truth true)
    (codes "y = 1\r\n['a' . \"b\"]\nn = true\n[ 'a' . \"b\" .c]\r\n")
unfolding on_texts
into_a_quoted_super_table = inserts (codes "y = 1\r\n[ 'a' . \"b\" .c]\r\n")
    (key (codes "a") ∷ key (codes "b") ∷ []) (codes "n") (a_truth true)
    (codes "y = 1\r\n['a' . \"b\"]\nn = true\n[ 'a' . \"b\" .c]\r\n") refl

-- the same below the second element of an array of tables
pub into_a_super_table_of_an_element : Inserts (codes "[[a]]\n[a.b.c]\n[[a]]\n[a.b.c]\n")
    (key (codes "a") ∷ index 1 ∷ key (codes "b") ∷ []) (codes "n") (a_truth true)
    (codes "[[a]]\n[a.b.c]\n[[a]]\n[a.b]\nn = true\n[a.b.c]\n")
unfolding on_texts
into_a_super_table_of_an_element = inserts (codes "[[a]]\n[a.b.c]\n[[a]]\n[a.b.c]\n")
    (key (codes "a") ∷ index 1 ∷ key (codes "b") ∷ []) (codes "n") (a_truth true)
    (codes "[[a]]\n[a.b.c]\n[[a]]\n[a.b]\nn = true\n[a.b.c]\n") refl

-- the same before the header of an element
pub into_a_super_table_of_an_array : Inserts (codes "[[a.b]]\n") (key (codes "a") ∷ []) (codes "n")
    (a_truth true) (codes "[a]\nn = true\n[[a.b]]\n")
unfolding on_texts
into_a_super_table_of_an_array = inserts (codes "[[a.b]]\n") (key (codes "a") ∷ []) (codes "n")
    (a_truth true) (codes "[a]\nn = true\n[[a.b]]\n") refl

-- the root: behind its last pair
pub into_the_root : Inserts (codes "x = 1\ny.z = 2 # c\n\n[a]\n") [] (codes "n") (a_truth true)
    (codes "x = 1\ny.z = 2 # c\nn = true\n\n[a]\n")
unfolding on_texts
into_the_root = inserts (codes "x = 1\ny.z = 2 # c\n\n[a]\n") [] (codes "n") (a_truth true)
    (codes "x = 1\ny.z = 2 # c\nn = true\n\n[a]\n") refl

-- the root without pairs: at the start of the text
pub into_a_root_of_headers : Inserts (codes "# c\n\n[a]\n") [] (codes "n") (a_truth true)
    (codes "n = true\n# c\n\n[a]\n")
unfolding on_texts
into_a_root_of_headers = inserts (codes "# c\n\n[a]\n") [] (codes "n") (a_truth true)
    (codes "n = true\n# c\n\n[a]\n") refl

-- the root without pairs, behind U+FEFF
pub into_a_root_behind_a_byte_order_mark : Inserts (0xEF ∷ 0xBB ∷ 0xBF ∷ codes "[a]\r\n") [] (codes "n") (a_truth true)
    (0xEF ∷ 0xBB ∷ 0xBF ∷ codes "n = true\n[a]\r\n")
unfolding on_texts
into_a_root_behind_a_byte_order_mark = inserts (0xEF ∷ 0xBB ∷ 0xBF ∷ codes "[a]\r\n") [] (codes "n") (a_truth true)
    (0xEF ∷ 0xBB ∷ 0xBF ∷ codes "n = true\n[a]\r\n") refl

-- the root with pairs, behind U+FEFF
pub into_a_root_with_pairs_behind_a_byte_order_mark : Inserts (0xEF ∷ 0xBB ∷ 0xBF ∷ codes "x = 1\r\n") [] (codes "n")
    (a_truth true) (0xEF ∷ 0xBB ∷ 0xBF ∷ codes "x = 1\r\nn = true\r\n")
unfolding on_texts
into_a_root_with_pairs_behind_a_byte_order_mark = inserts (0xEF ∷ 0xBB ∷ 0xBF ∷ codes "x = 1\r\n") [] (codes "n")
    (a_truth true) (0xEF ∷ 0xBB ∷ 0xBF ∷ codes "x = 1\r\nn = true\r\n") refl

-- an empty text
pub into_an_empty_text : Inserts [] [] (codes "n") (a_truth true) (codes "n = true\n")
unfolding on_texts
into_an_empty_text = inserts [] [] (codes "n") (a_truth true) (codes "n = true\n") refl
