use Rattle.std.proofs.Common.{◌≡◌, List, ℕ, map, take, string_bytes}
use Rattle.std.specs.BTreeSet.{contains_text}
use Rattle.edit_set_version.specs.Chosen.{is_among}
use Rattle.edit_set_version.proofs.names.name_set.Given as goal

abbrev pub invariant-names : goal.invariant-names
invariant-names l = (q : List ℕ)
    → contains_text l.set q ≡ is_among (map string_bytes (take l.name-index l.names)) q
