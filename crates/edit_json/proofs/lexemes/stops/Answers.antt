use Rattle.edit_json.proofs.PlainRuns.{stops_mask}
use Rattle.edit_json.proofs.lexemes.stops.Goals as goal

pub returns : goal.returns
returns c = record { mask = stops_mask c.args.bytes c.fits-bytes }
