use Rattle.std.proofs.Common.{Some, map, option_map, sym, ap, ◌∙◌}
use Rattle.std.specs.Prelude.{option_and_then}
use Rattle.serde_json.specs.Find.{as_array}
use Rattle.serde_json.specs.View.{view}
use Rattle.edit_metadata.specs.Metadata.{values}
use Rattle.edit_metadata.proofs.Values.{values-items_of}
use Rattle.edit_metadata.proofs.members.values_at.Goals as goal

pub returns-in-Some-as_array : goal.returns-in-Some-as_array
returns-in-Some-as_array c =
    ap (λ xs. Some (map view xs)) c.as_slice.ensures.value
    ∙ ap Some (sym (values-items_of (map view c.in-Some-as_array.values.now.items)))
    ∙ ap (option_map values) (c.in-Some-as_array.ensures ∙ ap (option_and_then as_array) c.in-Some.ensures)
