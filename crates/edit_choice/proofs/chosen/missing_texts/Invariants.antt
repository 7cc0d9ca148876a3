use Rattle.std.proofs.Common.{◌≡◌, map, string_bytes, take}
use Rattle.std.specs.List.{filter_map}
use Rattle.edit_report.specs.NameSets.{has_name}
use Rattle.edit_choice.specs.ItemLookup.{missing_by}
use Rattle.edit_choice.proofs.chosen.missing_texts.Given as goal

-- the texts of the items so far
abbrev pub invariant-items : goal.invariant-items
invariant-items l = map string_bytes l.missing.items
    ≡ filter_map (missing_by l.count (has_name l.names)) (take l.item-index l.items)
