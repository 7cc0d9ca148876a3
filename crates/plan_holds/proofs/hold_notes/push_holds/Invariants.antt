use Rattle.std.proofs.Common.{◌≡◌, ◌++◌, string_bytes, take}
use Rattle.std.specs.List.{flat_map}
use Rattle.edit_report.specs.NameSets.{has_name}
use Rattle.plan_holds.specs.HoldNotes.{note_where}
use Rattle.plan_holds.proofs.hold_notes.push_holds.Given as goal

-- the notes on the crates so far
abbrev pub invariant-loop-held : goal.invariant-loop-held
invariant-loop-held l = string_bytes l.text
    ≡ string_bytes l.initial.text ++ flat_map (note_where (has_name l.names)) (take l.held-index l.crates)
