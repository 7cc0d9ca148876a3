use Rattle.std.proofs.Common.{◌≡◌, ◌++◌, map, string_bytes, take}
use Rattle.std.specs.List.{flat_map}
use Rattle.edit_program.specs.StderrText.{reason_line, reasons, rerun}
use Rattle.edit_program.proofs.upgrade_output.hidden_rows_note.hidden_text.Given as goal

abbrev pub invariant-reasons : goal.invariant-reasons
invariant-reasons l = string_bytes l.text ≡ rerun l.verbosity
    ++ flat_map (reason_line (map (λ r. r.now) l.rows)) (take l.reason-index reasons)
