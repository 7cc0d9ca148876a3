use Rattle.std.proofs.Common.{◌≡◌, map, take}
use Rattle.std.specs.List.{flat_map}
use Rattle.edit_fetch.specs.Variables.{variable_lines, variable_texts}
use Rattle.edit_fetch.proofs.variables.variables_text.Given as goal

abbrev pub invariant-loop-name : goal.invariant-loop-name
invariant-loop-name l =
    l.text.items ≡ flat_map variable_lines (map variable_texts (take l.name-index l.variables))
