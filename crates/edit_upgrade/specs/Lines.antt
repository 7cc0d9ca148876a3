-- Rows, over the program's type.
use Rattle.std.specs.Prelude.{option_map, string_bytes}
use Rattle.edit_document.specs.Items.{place_view}
use Rattle.edit_upgrade.specs.Rows.{Line}
use Rattle.edit_report.specs.declared.row.Row.{Row}

-- a row, by its texts (own)
abbrev pub line_of : Row → Line
line_of r = record {
  input = r.input;
  name = string_bytes r.name;
  place = place_view r.place.items;
  rename = option_map string_bytes r.rename;
  old = option_map string_bytes r.old;
  compatible = option_map string_bytes r.compatible;
  latest = option_map string_bytes r.latest;
  new = option_map string_bytes r.new;
  reason = r.reason;
  change = r.change;
}
