use Rattle.std.proofs.Common.{◌≡◌, take}
use Rattle.edit_upgrade.specs.Views.{calls_view}
use Rattle.edit_program.specs.CallsFile.{calls_text}
use Rattle.edit_program.proofs.upgrade_output.calls_file.calls_text.Given as goal

-- the calls so far
abbrev pub invariant-loop-call : goal.invariant-loop-call
invariant-loop-call l = l.text.items ≡ calls_text (calls_view (take l.call-index l.calls))
