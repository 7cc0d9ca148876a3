-- The requirements of package arguments, as contracts see them.
use Rattle.std.specs.Prelude.{ℕ, List, Option, String, map, option_map, string_bytes}
use Rattle.std.specs.BTreeMap.{BTreeMap}
use Rattle.std.specs.declared.alloc.Global.{Global}
use Rattle.semver.specs.Identifiers.{parts_of}
use Rattle.edit_version.specs.Requirement.{comparators_of}
use Rattle.edit_upgrade.specs.Pins as spec
use Rattle.edit_upgrade.specs.declared.update.pins.Pin.{Pin}

-- a requirement with its precise version
abbrev pub pin_view : Pin → spec.Pin
pin_view pin = record { comparators = comparators_of pin.req; version = parts_of pin.version }

-- a name, with its pin, where it has one
abbrev pub pin_entry_view : String Global × Option Pin → List ℕ × Option spec.Pin
pin_entry_view e = (string_bytes e.0, option_map pin_view e.1)

-- the names in their order, each with its pin
abbrev pub pins_view : BTreeMap (String Global) (Option Pin) → List (List ℕ × Option spec.Pin)
pins_view pins = map pin_entry_view pins.entries
