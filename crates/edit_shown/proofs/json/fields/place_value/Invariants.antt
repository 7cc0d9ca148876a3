use Rattle.std.proofs.Common.{◌≡◌, map, take}
use Rattle.serde_json.specs.View.{view}
use Rattle.edit_shown.specs.Fields.{step_data}
use Rattle.edit_shown.proofs.json.fields.place_value.Given as goal

-- the steps so far
abbrev pub invariant-loop-step : goal.invariant-loop-step
invariant-loop-step l = map view l.list.items ≡ map step_data (take l.step-index l.steps)
