use Rattle.std.proofs.Common.{◌≡◌, map, take}
use Rattle.serde_json.specs.View.{view}
use Rattle.edit_shown.specs.Fields.{text_data}
use Rattle.edit_shown.proofs.json.fields.texts_value.Given as goal

-- the texts so far
abbrev pub invariant-loop-text : goal.invariant-loop-text
invariant-loop-text l = map view l.list.items ≡ map text_data (take l.text-index l.texts)
