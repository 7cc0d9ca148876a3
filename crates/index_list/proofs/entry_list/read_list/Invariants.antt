use Rattle.std.proofs.Common.{◌≡◌, List, ◌++◌, length, map}
use Rattle.std.specs.Prelude.{All}
use Rattle.std.specs.List.{flat_map}
use denote.Text.{Utf8}
use denote.Shadow.{shadow}
use Rattle.index_list.specs.EntryLists.{EntryText, HasEntries, IsListable, entry_record, entry_text}
use Rattle.index_list.proofs.entry_list.read_list.Given as goal

-- the text is the records of the entries so far and the rest; if the text is valid, so is the rest
abbrev pub invariant-loop-fields : goal.invariant-loop-fields
invariant-loop-fields l =
    shadow (Utf8 l.rest)
    × (l.text ≡ flat_map (λ x. entry_record x) (map entry_text l.entries.items) ++ l.rest)
    × All IsListable (map entry_text l.entries.items)
    × ((ls : List EntryText) → HasEntries l.text ls → (ms : List EntryText) × HasEntries l.rest ms)

abbrev pub decreases-loop-fields : goal.decreases-loop-fields
decreases-loop-fields l = length l.rest
