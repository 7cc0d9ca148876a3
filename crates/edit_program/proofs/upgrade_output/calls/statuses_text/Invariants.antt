use Rattle.std.proofs.Common.{◌≡◌, string_bytes, take}
use Rattle.edit_upgrade.specs.Views.{calls_view}
use Rattle.edit_program.specs.StderrText.{call_statuses}
use Rattle.edit_program.proofs.upgrade_output.calls.statuses_text.Given as goal

abbrev pub invariant-loop-call : goal.invariant-loop-call
invariant-loop-call l = string_bytes l.text ≡ call_statuses (calls_view (take l.call-index l.calls))
