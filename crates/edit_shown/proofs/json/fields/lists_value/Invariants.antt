use Rattle.std.proofs.Common.{◌≡◌, map, take}
use Rattle.serde_json.specs.View.{view}
use Rattle.edit_shown.specs.Fields.{list_data, text_data}
use Rattle.edit_shown.proofs.json.fields.lists_value.Given as goal

-- the lists so far
abbrev pub invariant-loop-texts : goal.invariant-loop-texts
invariant-loop-texts l =
    map view l.list.items ≡ map (λ v. list_data text_data v.items) (take l.texts-index l.lists)
