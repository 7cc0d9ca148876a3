-- The order of the lookups of a plan: that in which the entries of the inputs need them.
use Rattle.std.specs.Prelude.{◌≡◌, ◌&&◌, ℕ, List, [], ◌∷◌, Bool, Some, filter, length, map, not, slice_get, string_bytes}
use Rattle.std.specs.Global.{Vec}
use Rattle.std.specs.List.{AllZip, flat_map, list_any}
use Rattle.std.specs.Str.{bytes_eq}
use Rattle.edit_syntax.specs.Grammar.{Text}
use Rattle.edit_tree.specs.Assertions.{IsDocument}
use Rattle.edit_tree.specs.Tree.{view_at}
use Rattle.edit_metadata.specs.declared.input.Input.{Input}
use Rattle.edit_sources.specs.declared.config.Config.{Config}
use Rattle.url.specs.Parts.{serialize}
use Rattle.edit_upgrade.specs.Inputs.{below}
use Rattle.edit_upgrade.specs.LookupSteps.{PairSet}
use Rattle.edit_upgrade.specs.Records.{RowEntry, row_entries}
use Rattle.edit_upgrade.specs.Rows.{is_elsewhere}
use Rattle.edit_upgrade.specs.Upgraded.{IsNeededFor}
use Rattle.edit_upgrade.specs.declared.upgrade.Look.{Look}

-- the address of a registry and the name of a crate
abbrev pub Pair : Type 0
Pair = List ℕ × List ℕ

-- the two pairs are equal
abbrev pub is_pair : Pair → Pair → Bool
is_pair p q = bytes_eq p.0 q.0 && bytes_eq p.1 q.1

-- the pairs without duplicates, each where it occurs first (own)
abbrev pub pairs_once : List Pair → List Pair
pairs_once [] = []
pairs_once (p ∷ ps) = p ∷ filter (λ q. not (is_pair p q)) (pairs_once ps)

-- the address and the name of a lookup
abbrev pub pair_of : Look → Pair
pair_of lookup = (serialize lookup.registry, string_bytes lookup.name)

-- the entries whose crates come from a registry
abbrev pub from_registries : List RowEntry → List RowEntry
from_registries es = filter (λ e. not (is_elsewhere e.source)) es

-- the entry needs the lookup of this pair
abbrev pub NeedsPair : List Config → RowEntry → Pair → Type 0
NeedsPair configs e pair = IsNeededFor configs e pair.0 pair.1

-- the bytes are a manifest, and these are the pairs that its registry entries need, in order
pub record AreNeedsOf (configs : List Config) (bytes : List ℕ) (pairs : List Pair) : Type 0 where
  pub form : Text
  pub manifest : IsDocument bytes form
  pub are : AllZip (NeedsPair configs) (from_registries (row_entries (view_at form))) pairs

-- the lookups are in the order of the inputs and their entries, each at the first entry that needs it (own)
pub record AreInOrder (inputs : List Input) (configs : List (Vec Config)) (made : List Look)
    : Type 0 where
  pub needs : ℕ → List Pair
  pub each : (i : ℕ) (input : Input) (own : Vec Config) → slice_get inputs i ≡ Some input
      → slice_get configs i ≡ Some own → AreNeedsOf own.items input.bytes.items (needs i)
  pub are : map pair_of made ≡ pairs_once (flat_map needs (below (length inputs)))

-- the set contains exactly these pairs (own)
abbrev pub HoldsPairs : PairSet → List Pair → Type 0
HoldsPairs set pairs = (address name : List ℕ) → set address name ≡ list_any (is_pair (address, name)) pairs

-- the lookups made for these inputs are in order, and the set contains the pairs that they need (own)
pub record AreInOrderSoFar (inputs : List Input) (configs : List (Vec Config)) (made : List Look)
    (set : PairSet) : Type 0 where
  pub lookups : AreInOrder inputs configs made
  pub held : HoldsPairs set (flat_map lookups.needs (below (length inputs)))
