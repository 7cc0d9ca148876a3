use Rattle.std.proofs.Common.{length}
use Rattle.serde_json.specs.Data.{object}
use Rattle.edit_json.proofs.MemberLoop.{HasRead}
use Rattle.edit_metadata.specs.Texts.{HasWorkspaceTexts}
use Rattle.edit_metadata.proofs.workspace_texts.read_members.Given as goal

abbrev pub invariant-loop-key : goal.invariant-loop-key
invariant-loop-key l = HasRead 126 (λ ms. HasWorkspaceTexts (object ms) l.texts) l.initial.reader l.reader

abbrev pub decreases-loop-key : goal.decreases-loop-key
decreases-loop-key l = length l.reader
