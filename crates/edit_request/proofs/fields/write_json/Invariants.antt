use Rattle.std.proofs.Common.{length}
use Rattle.edit_request.proofs.fields.write_json.Given as goal

abbrev pub decreases-loop-token : goal.decreases-loop-token
decreases-loop-token l = length l.reader
