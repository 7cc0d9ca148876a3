use Rattle.std.proofs.Common.{◌≡◌, ℕ, List, [], map, take}
use Rattle.std.specs.Prelude.{string_bytes}
use Rattle.std.specs.List.{filter}
use Rattle.std.specs.Option.{option_map_or}
use Rattle.std.specs.Str.{bytes_eq}
use Rattle.std.specs.BTreeMap.{get_by_text}
use Rattle.edit_shown.proofs.markdown.groups.group_inputs.Given as goal

abbrev pub invariant-loop-line : goal.invariant-loop-line
invariant-loop-line l = (q : List ℕ) → option_map_or (λ g. g.items) (get_by_text l.groups q) []
    ≡ map (λ line. line.input)
    (filter (λ line. bytes_eq q (string_bytes line.cells)) (take l.line-index l.lines))
