use Rattle.std.proofs.Common.{◌≡◌, map, string_bytes, take}
use Rattle.edit_program.specs.StderrText.{names_of}
use Rattle.edit_program.proofs.upgrade_output.hidden_rows_note.names_of.Given as goal

abbrev pub invariant-rows : goal.invariant-rows
invariant-rows l = map string_bytes l.names.keys
    ≡ names_of l.reason (map (λ r. r.now) (take l.row-index l.rows))
