-- Examples of TOML 1.0.0 with their trees: tables, inline tables and arrays of tables.
use Rattle.std.proofs.Common.{[], ◌∷◌, ◌++◌, true, refl}
use Rattle.std.specs.Prelude.{codes}
use Rattle.edit_tree.specs.Assertions.{key, index}
use Rattle.edit_tree.specs.Tree.{string, truth, whole, table_array, inline_table, table}
use Rattle.edit_document.proofs.FromReader.{Shows, IsNone, shows, is_none}
use Rattle.edit_tree.proofs.OnTexts.{on_texts}

-- "Table": an empty one
pub empty_table : Shows (codes "[table]") (key (codes "table") ∷ []) (table [])
unfolding on_texts
empty_table = shows (codes "[table]") (key (codes "table") ∷ []) (table []) refl refl

-- "Table"
pub tables : Shows (codes
    "[table-1]\nkey1 = \"some string\"\nkey2 = 123\n\n[table-2]\nkey1 = \"another string\"\nkey2 = 456")
    (key (codes "table-2") ∷ []) (table (key (codes "key1") ∷ key (codes "key2") ∷ []))
unfolding on_texts
tables = shows (codes
    "[table-1]\nkey1 = \"some string\"\nkey2 = 123\n\n[table-2]\nkey1 = \"another string\"\nkey2 = 456")
    (key (codes "table-2") ∷ []) (table (key (codes "key1") ∷ key (codes "key2") ∷ [])) refl refl

-- "Table": a quoted name
pub quoted_header : Shows (codes "[dog.\"tater.man\"]\ntype.name = \"pug\"")
    (key (codes "dog") ∷ key (codes "tater.man") ∷ key (codes "type") ∷ key (codes "name") ∷ [])
    (string (codes "pug"))
unfolding on_texts
quoted_header = shows (codes "[dog.\"tater.man\"]\ntype.name = \"pug\"")
    (key (codes "dog") ∷ key (codes "tater.man") ∷ key (codes "type") ∷ key (codes "name") ∷ [])
    (string (codes "pug")) refl refl

-- "Table": blanks in a header
pub blanks_in_a_header : Shows
    (codes "[a.b.c]            # this is best practice\n[ d.e.f ]          # same as [d.e.f]\n[ g .  h  . i ]    # same as [g.h.i]\n[ j . \"" ++ (202 ∷ 158 ∷ codes "\" . 'l' ]  # same as [j.\"" ++ (202 ∷ 158 ∷ codes "\".'l']")))
    (key (codes "j") ∷ key (202 ∷ 158 ∷ []) ∷ key (codes "l") ∷ []) (table [])
unfolding on_texts
blanks_in_a_header =
    shows (codes "[a.b.c]            # this is best practice\n[ d.e.f ]          # same as [d.e.f]\n[ g .  h  . i ]    # same as [g.h.i]\n[ j . \"" ++ (202 ∷ 158 ∷ codes "\" . 'l' ]  # same as [j.\"" ++ (202 ∷ 158 ∷ codes "\".'l']"))) (key (codes "j") ∷ key (202 ∷ 158 ∷ []) ∷ key (codes "l") ∷ []) (table []) refl refl

-- "Table": a super-table afterwards
pub super_table_afterwards : Shows
    (codes "# [x] you\n# [x.y] don't\n# [x.y.z] need these\n[x.y.z.w] # for this to work\n\n[x] # defining a super-table afterward is ok")
    (key (codes "x") ∷ []) (table (key (codes "y") ∷ []))
unfolding on_texts
super_table_afterwards =
    shows (codes "# [x] you\n# [x.y] don't\n# [x.y.z] need these\n[x.y.z.w] # for this to work\n\n[x] # defining a super-table afterward is ok") (key (codes "x") ∷ []) (table (key (codes "y") ∷ [])) refl refl

-- "Table": twice
pub table_twice : IsNone
    (codes "# DO NOT DO THIS\n\n[fruit]\napple = \"red\"\n\n[fruit]\norange = \"orange\"")
unfolding on_texts
table_twice = is_none (codes "# DO NOT DO THIS\n\n[fruit]\napple = \"red\"\n\n[fruit]\norange = \"orange\"")
    refl refl

-- "Table": of a value
pub table_of_a_value : IsNone
    (codes "# DO NOT DO THIS EITHER\n\n[fruit]\napple = \"red\"\n\n[fruit.apple]\ntexture = \"smooth\"")
unfolding on_texts
table_of_a_value = is_none
    (codes "# DO NOT DO THIS EITHER\n\n[fruit]\napple = \"red\"\n\n[fruit.apple]\ntexture = \"smooth\"") refl
    refl

-- "Table": out of order
pub tables_out_of_order : Shows (codes "# VALID BUT DISCOURAGED\n[fruit.apple]\n[animal]\n[fruit.orange]")
    (key (codes "fruit") ∷ []) (table (key (codes "apple") ∷ key (codes "orange") ∷ []))
unfolding on_texts
tables_out_of_order = shows (codes "# VALID BUT DISCOURAGED\n[fruit.apple]\n[animal]\n[fruit.orange]")
    (key (codes "fruit") ∷ []) (table (key (codes "apple") ∷ key (codes "orange") ∷ [])) refl refl

-- "Table": the root
pub root_table : Shows
    (codes "# Top-level table begins.\nname = \"Fido\"\nbreed = \"pug\"\n\n# Top-level table ends.\n[owner]\nname = \"Regina Dogman\"\nmember_since = 1999-08-04")
    [] (table (key (codes "name") ∷ key (codes "breed") ∷ key (codes "owner") ∷ []))
unfolding on_texts
root_table = shows (codes
    "# Top-level table begins.\nname = \"Fido\"\nbreed = \"pug\"\n\n# Top-level table ends.\n[owner]\nname = \"Regina Dogman\"\nmember_since = 1999-08-04") [] (table (key (codes "name") ∷ key (codes "breed") ∷ key (codes "owner") ∷ [])) refl refl

-- "Table": tables by dotted keys
pub tables_by_dotted_keys : Shows
    (codes "fruit.apple.color = \"red\"\n# Defines a table named fruit\n# Defines a table named fruit.apple\n\nfruit.apple.taste.sweet = true")
    (key (codes "fruit") ∷ key (codes "apple") ∷ []) (table (key (codes "color") ∷ key (codes "taste") ∷ []))
unfolding on_texts
tables_by_dotted_keys =
    shows (codes "fruit.apple.color = \"red\"\n# Defines a table named fruit\n# Defines a table named fruit.apple\n\nfruit.apple.taste.sweet = true") (key (codes "fruit") ∷ key (codes "apple") ∷ []) (table (key (codes "color") ∷ key (codes "taste") ∷ [])) refl refl

-- "Table": a header of a dotted key
pub header_of_a_dotted_key : IsNone
    (codes "[fruit]\napple.color = \"red\"\napple.taste.sweet = true\n\n[fruit.apple]  # INVALID")
unfolding on_texts
header_of_a_dotted_key =
    is_none (codes "[fruit]\napple.color = \"red\"\napple.taste.sweet = true\n\n[fruit.apple]  # INVALID")
    refl refl

-- "Table": a header below a dotted key of dotted keys
pub header_of_a_lower_dotted_key : IsNone
    (codes "[fruit]\napple.color = \"red\"\napple.taste.sweet = true\n\n[fruit.apple.taste]  # INVALID")
unfolding on_texts
header_of_a_lower_dotted_key =
    is_none (codes "[fruit]\napple.color = \"red\"\napple.taste.sweet = true\n\n[fruit.apple.taste]  # INVALID") refl refl

-- "Table": a sub-table of a dotted key
pub sub_table_of_a_dotted_key : Shows
    (codes "[fruit]\napple.color = \"red\"\napple.taste.sweet = true\n\n[fruit.apple.texture]  # you can add sub-tables\nsmooth = true")
    (key (codes "fruit") ∷ key (codes "apple") ∷ key (codes "texture") ∷ key (codes "smooth") ∷ [])
    (truth true)
unfolding on_texts
sub_table_of_a_dotted_key =
    shows (codes "[fruit]\napple.color = \"red\"\napple.taste.sweet = true\n\n[fruit.apple.texture]  # you can add sub-tables\nsmooth = true") (key (codes "fruit") ∷ key (codes "apple") ∷ key (codes "texture") ∷ key (codes "smooth") ∷ []) (truth true) refl refl

-- "Inline Table"
pub inline_tables : Shows
    (codes "name = { first = \"Tom\", last = \"Preston-Werner\" }\npoint = { x = 1, y = 2 }\nanimal = { type.name = \"pug\" }")
    (key (codes "name") ∷ []) (inline_table (key (codes "first") ∷ key (codes "last") ∷ []))
unfolding on_texts
inline_tables = shows
    (codes "name = { first = \"Tom\", last = \"Preston-Werner\" }\npoint = { x = 1, y = 2 }\nanimal = { type.name = \"pug\" }") (key (codes "name") ∷ []) (inline_table (key (codes "first") ∷ key (codes "last") ∷ [])) refl refl

-- "Inline Table": a dotted key
pub inline_dotted_key : Shows (codes "animal = { type.name = \"pug\" }")
    (key (codes "animal") ∷ key (codes "type") ∷ []) (inline_table (key (codes "name") ∷ []))
unfolding on_texts
inline_dotted_key = shows (codes "animal = { type.name = \"pug\" }")
    (key (codes "animal") ∷ key (codes "type") ∷ []) (inline_table (key (codes "name") ∷ [])) refl refl

-- "Inline Table": nothing is added outside
pub inline_table_is_whole : IsNone
    (codes "[product]\ntype = { name = \"Nail\" }\ntype.edible = false  # INVALID")
unfolding on_texts
inline_table_is_whole =
    is_none (codes "[product]\ntype = { name = \"Nail\" }\ntype.edible = false  # INVALID") refl refl

-- "Inline Table": it adds to no table
pub inline_table_adds_nothing : IsNone
    (codes "[product]\ntype.name = \"Nail\"\ntype = { edible = false }  # INVALID")
unfolding on_texts
inline_table_adds_nothing =
    is_none (codes "[product]\ntype.name = \"Nail\"\ntype = { edible = false }  # INVALID") refl refl

-- "Array of Tables"
pub array_of_tables : Shows
    (codes "[[products]]\nname = \"Hammer\"\nsku = 738594937\n\n[[products]]  # empty table within the array\n\n[[products]]\nname = \"Nail\"\nsku = 284758393\n\ncolor = \"gray\"")
    (key (codes "products") ∷ []) (table_array 3)
unfolding on_texts
array_of_tables = shows
    (codes "[[products]]\nname = \"Hammer\"\nsku = 738594937\n\n[[products]]  # empty table within the array\n\n[[products]]\nname = \"Nail\"\nsku = 284758393\n\ncolor = \"gray\"") (key (codes "products") ∷ []) (table_array 3) refl refl

-- "Array of Tables": an element
pub element_of_tables : Shows
    (codes "[[products]]\nname = \"Hammer\"\nsku = 738594937\n\n[[products]]  # empty table within the array\n\n[[products]]\nname = \"Nail\"\nsku = 284758393\n\ncolor = \"gray\"")
    (key (codes "products") ∷ index 2 ∷ key (codes "color") ∷ []) (string (codes "gray"))
unfolding on_texts
element_of_tables = shows
    (codes "[[products]]\nname = \"Hammer\"\nsku = 738594937\n\n[[products]]  # empty table within the array\n\n[[products]]\nname = \"Nail\"\nsku = 284758393\n\ncolor = \"gray\"") (key (codes "products") ∷ index 2 ∷ key (codes "color") ∷ []) (string (codes "gray")) refl refl

-- "Array of Tables": nested ones, of the first element
pub nested_tables_of_the_first : Shows
    (codes "[[fruits]]\nname = \"apple\"\n\n[fruits.physical]  # subtable\ncolor = \"red\"\nshape = \"round\"\n\n[[fruits.varieties]]  # nested array of tables\nname = \"red delicious\"\n\n[[fruits.varieties]]\nname = \"granny smith\"\n\n\n[[fruits]]\nname = \"banana\"\n\n[[fruits.varieties]]\nname = \"plantain\"")
    (key (codes "fruits") ∷ index 0 ∷ key (codes "varieties") ∷ index 1 ∷ key (codes "name") ∷ [])
    (string (codes "granny smith"))
unfolding on_texts
nested_tables_of_the_first =
    shows (codes "[[fruits]]\nname = \"apple\"\n\n[fruits.physical]  # subtable\ncolor = \"red\"\nshape = \"round\"\n\n[[fruits.varieties]]  # nested array of tables\nname = \"red delicious\"\n\n[[fruits.varieties]]\nname = \"granny smith\"\n\n\n[[fruits]]\nname = \"banana\"\n\n[[fruits.varieties]]\nname = \"plantain\"") (key (codes "fruits") ∷ index 0 ∷ key (codes "varieties") ∷ index 1 ∷ key (codes "name") ∷ []) (string (codes "granny smith")) refl refl

-- "Array of Tables": nested ones, of the last
pub nested_tables_of_the_last : Shows
    (codes "[[fruits]]\nname = \"apple\"\n\n[fruits.physical]  # subtable\ncolor = \"red\"\nshape = \"round\"\n\n[[fruits.varieties]]  # nested array of tables\nname = \"red delicious\"\n\n[[fruits.varieties]]\nname = \"granny smith\"\n\n\n[[fruits]]\nname = \"banana\"\n\n[[fruits.varieties]]\nname = \"plantain\"")
    (key (codes "fruits") ∷ index 1 ∷ key (codes "varieties") ∷ index 0 ∷ key (codes "name") ∷ [])
    (string (codes "plantain"))
unfolding on_texts
nested_tables_of_the_last =
    shows (codes "[[fruits]]\nname = \"apple\"\n\n[fruits.physical]  # subtable\ncolor = \"red\"\nshape = \"round\"\n\n[[fruits.varieties]]  # nested array of tables\nname = \"red delicious\"\n\n[[fruits.varieties]]\nname = \"granny smith\"\n\n\n[[fruits]]\nname = \"banana\"\n\n[[fruits.varieties]]\nname = \"plantain\"") (key (codes "fruits") ∷ index 1 ∷ key (codes "varieties") ∷ index 0 ∷ key (codes "name") ∷ []) (string (codes "plantain")) refl refl

-- "Array of Tables": behind a table of its name
pub array_behind_its_table : IsNone
    (codes "# INVALID TOML DOC\n[fruit.physical]  # subtable, but to which parent element should it belong?\ncolor = \"red\"\nshape = \"round\"\n\n[[fruit]]  # parser must throw an error upon discovering that \"fruit\" is\n           # an array rather than a table\nname = \"apple\"")
unfolding on_texts
array_behind_its_table =
    is_none (codes "# INVALID TOML DOC\n[fruit.physical]  # subtable, but to which parent element should it belong?\ncolor = \"red\"\nshape = \"round\"\n\n[[fruit]]  # parser must throw an error upon discovering that \"fruit\" is\n           # an array rather than a table\nname = \"apple\"") refl refl

-- "Array of Tables": of an array
pub tables_of_an_array : IsNone (codes "# INVALID TOML DOC\nfruits = []\n\n[[fruits]] # Not allowed")
unfolding on_texts
tables_of_an_array = is_none (codes "# INVALID TOML DOC\nfruits = []\n\n[[fruits]] # Not allowed") refl refl

-- "Array of Tables": a table of its name
pub table_behind_its_array : IsNone
    (codes "# INVALID TOML DOC\n[[fruits]]\nname = \"apple\"\n\n[[fruits.varieties]]\nname = \"red delicious\"\n\n# INVALID: This table conflicts with the previous array of tables\n[fruits.varieties]\nname = \"granny smith\"")
unfolding on_texts
table_behind_its_array =
    is_none (codes "# INVALID TOML DOC\n[[fruits]]\nname = \"apple\"\n\n[[fruits.varieties]]\nname = \"red delicious\"\n\n# INVALID: This table conflicts with the previous array of tables\n[fruits.varieties]\nname = \"granny smith\"") refl refl

-- "Array of Tables": an array of a table's name
pub array_of_a_table_below : IsNone
    (codes "# INVALID TOML DOC\n[[fruits]]\nname = \"apple\"\n\n[fruits.physical]\ncolor = \"red\"\nshape = \"round\"\n\n# INVALID: This array of tables conflicts with the previous table\n[[fruits.physical]]\ncolor = \"green\"")
unfolding on_texts
array_of_a_table_below =
    is_none (codes "# INVALID TOML DOC\n[[fruits]]\nname = \"apple\"\n\n[fruits.physical]\ncolor = \"red\"\nshape = \"round\"\n\n# INVALID: This array of tables conflicts with the previous table\n[[fruits.physical]]\ncolor = \"green\"") refl refl

-- "Array of Tables": inline
pub tables_in_an_array : Shows
    (codes "points = [ { x = 1, y = 2, z = 3 },\n           { x = 7, y = 8, z = 9 },\n           { x = 2, y = 4, z = 8 } ]")
    (key (codes "points") ∷ index 2 ∷ key (codes "z") ∷ []) (whole (codes "8"))
unfolding on_texts
tables_in_an_array =
    shows (codes "points = [ { x = 1, y = 2, z = 3 },\n           { x = 7, y = 8, z = 9 },\n           { x = 2, y = 4, z = 8 } ]") (key (codes "points") ∷ index 2 ∷ key (codes "z") ∷ []) (whole (codes "8")) refl refl

-- The document of no byte
pub empty_document : Shows [] [] (table [])
unfolding on_texts
empty_document = shows [] [] (table []) refl refl
