-- Sample entries, given by their keys.
use Rattle.std.proofs.Common.{[]}
use Rattle.std.specs.Prelude.{ℕ, true, List, ◌∷◌, ◌++◌, map, Result, codes}
use Rattle.edit_tree.specs.Assertions.{key, index, Place}
use Rattle.edit_tree.specs.DocumentViews.{node_at}
use Rattle.edit_tree.specs.Tree.{View, string, truth, whole, static_array, inline_table}
use Rattle.edit_record.specs.EntryRecords.{EntryRecord, EntryError}
use Rattle.edit_record.specs.ReadEntries.{Tree, record_of}

-- ---- entries by their keys

-- the key of each entry here, and the root of its manifest
abbrev pub x : List ℕ
x = codes "x"

abbrev pub foo : List ℕ
foo = codes "/foo"

-- a string
abbrev pub one_string : List ℕ → Tree
one_string s = node_at (([], string s) ∷ [])

-- an inline table with these keys
abbrev pub members : List (List ℕ × View) → List (Place × View)
members ms = ([], inline_table (map (λ m. key m.0) ms)) ∷ map (λ m. (key m.0 ∷ [], m.1)) ms

-- the entry, with nothing below its keys
abbrev pub entry : List (List ℕ × View) → Tree
entry ms = node_at (members ms)

-- the result of reading an entry
abbrev pub reads : Tree → Result EntryRecord EntryError
reads t = record_of t [] foo x

-- a value of each type
abbrev pub says : List ℕ → List ℕ → List ℕ × View
says name s = (name, string s)

abbrev pub flag : List ℕ → List ℕ × View
flag name = (name, truth true)

abbrev pub number : List ℕ → List ℕ × View
number name = (name, whole (codes "1"))

-- `version = "1"` and `features` with so many elements, the first of this view
abbrev pub with_features : ℕ → View → Tree
with_features n v = node_at (members (says (codes "version") (codes "1")
    ∷ (codes "features", static_array n) ∷ [])
    ++ (key (codes "features") ∷ index 0 ∷ [], v) ∷ (
      key (codes "features") ∷ index 1
          ∷ [],
      string (codes "b"),
    ) ∷ [])
