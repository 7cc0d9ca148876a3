use Rattle.std.proofs.Common.{◌≡◌, ℕ, List, map, take}
use Rattle.index_list.specs.EntryLists.{entry_text}
use Rattle.index_list.specs.Listed.{file_of_entries, file_of_map}
use Rattle.index_list.proofs.listed_files.listed_files.Given as goal

-- the files of the entries so far
abbrev pub invariant-loop-entry : goal.invariant-loop-entry
invariant-loop-entry l =
    (path : List ℕ) → file_of_map l.listed path
    ≡ file_of_entries l.folder (map entry_text (take l.entry-index l.entries)) path
