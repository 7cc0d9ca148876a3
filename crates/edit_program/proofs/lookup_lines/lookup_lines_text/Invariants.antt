use Rattle.std.proofs.Common.{◌≡◌, take}
use Rattle.std.specs.List.{flat_map}
use Rattle.std.specs.Prelude.{string_bytes}
use Rattle.edit_program.specs.LookupLines.{lookup_as_line}
use Rattle.edit_program.proofs.lookup_lines.lookup_lines_text.Given as goal

-- the lines so far
abbrev pub invariant-loop-lookup : goal.invariant-loop-lookup
invariant-loop-lookup l = string_bytes l.text ≡ flat_map lookup_as_line (take l.lookup-index l.lookups)
