use Rattle.std.proofs.Common.{◌≡◌, map, string_bytes, take}
use Rattle.std.specs.Prelude.{All}
use Rattle.edit_upgrade.specs.PinViews.{pins_view}
use Rattle.edit_upgrade.specs.EntrySelection.{IsPackageArg}
use Rattle.edit_upgrade.specs.Pins.{pins_of}
use Rattle.edit_upgrade.proofs.update.pins.read_pins.Given as goal

abbrev pub invariant-each_arg : goal.invariant-each_arg
invariant-each_arg l = record {
  pins : pins_view l.pins ≡ pins_of (map string_bytes (take l.arg-index l.args));
  read : All IsPackageArg (map string_bytes (take l.arg-index l.args));
}
