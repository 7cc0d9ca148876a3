-- Sets of pairs of address and name, as the program has them.
use Rattle.std.specs.Prelude.{ℕ, List, Bool, false, Option, Some, None, String}
use Rattle.std.specs.BTreeMap.{get_by_text}
use Rattle.std.specs.BTreeSet.{contains_text}
use Rattle.std.specs.declared.alloc.Global.{Global}
use Rattle.std.specs.declared.collections.BTreeMap.{BTreeMap}
use Rattle.std.specs.declared.collections.BTreeSet.{BTreeSet}

-- whether a name is among those of an address, where there are some (own)
abbrev pub holds_name : Option (BTreeSet (String Global) Global) → List ℕ → Bool
holds_name None name = false
holds_name (Some names) name = contains_text names name

-- whether a pair is among these (own)
abbrev pub holds_pair : BTreeMap (String Global) (BTreeSet (String Global) Global) Global
    → List ℕ → List ℕ → Bool
holds_pair pairs address name = holds_name (get_by_text pairs address) name
