use Rattle.std.proofs.Common.{length}
use Rattle.edit_json.proofs.MemberLoop.{HasRead}
use Rattle.edit_sources.specs.LineFields.{HasFields}
use Rattle.edit_sources.proofs.line_scanner.scan_members.Given as goal

abbrev pub invariant-loop-key : goal.invariant-loop-key
invariant-loop-key l = HasRead 126 (λ ms. HasFields l.fields ms) l.initial.scanner l.scanner

abbrev pub decreases-loop-key : goal.decreases-loop-key
decreases-loop-key l = length l.scanner
