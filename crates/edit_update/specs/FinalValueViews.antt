-- Models of the final values of keys.
use Rattle.std.specs.Prelude.{List, map, option_map}
use Rattle.edit_document.specs.NewItemViews.{new_value_view}
use Rattle.edit_update.specs.EntryUpdates.{FinalValue}
use Rattle.edit_update.specs.declared.final_values.FinalValue.{FinalValue as WrittenEnd}

-- the model of a key with its final value (own)
abbrev pub final_value_view : WrittenEnd → FinalValue
final_value_view e = (e.name.now, option_map new_value_view e.value)

-- the models of keys with their final values, in their order (own)
abbrev pub final_values_view : List WrittenEnd → List FinalValue
final_values_view es = map final_value_view es
