use Rattle.std.proofs.Common.{◌≡◌, List, ℕ, map, take, string_bytes}
use Rattle.std.specs.Prelude.{◌||◌}
use Rattle.std.specs.BTreeSet.{contains_text}
use Rattle.edit_set_version.specs.Chosen.{is_among}
use Rattle.edit_set_version.specs.Missing.{names_not_among}
use Rattle.edit_set_version.proofs.names.missing_names.Given as goal

abbrev pub invariant-names : goal.invariant-names
invariant-names l = (there : List (List ℕ))
    → ((q : List ℕ) → contains_text l.initial.known q ≡ is_among there q)
    → ((q : List ℕ) → contains_text l.known q
    ≡ (is_among there q || is_among (map string_bytes (take l.name-index l.names)) q))
    × (map string_bytes l.missing.items ≡ names_not_among there (map string_bytes (take l.name-index l.names)))
