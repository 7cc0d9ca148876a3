use Rattle.std.proofs.Common.{◌≡◌, ℕ, List, []}
use Rattle.std.specs.Prelude.{string_bytes}
use Rattle.std.specs.List.{filter}
use Rattle.std.specs.Option.{option_map_or}
use Rattle.std.specs.Str.{bytes_eq}
use Rattle.std.specs.BTreeMap.{get_by_text}
use Rattle.edit_lock.proofs.index.by_name.Given as goal

abbrev pub invariant-loop-package : goal.invariant-loop-package
invariant-loop-package l = (q : List ℕ) → option_map_or (λ g. g.items) (get_by_text l.groups q) []
    ≡ filter (λ g. bytes_eq q (string_bytes g.name)) l.yielded
