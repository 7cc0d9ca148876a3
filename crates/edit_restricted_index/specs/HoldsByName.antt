-- What a policy says of crates, by name.
use Rattle.std.specs.Prelude.{◌≡◌, ℕ, List, [], Bool, Option, Some, None, Vec, false, filter, map, string_bytes}
use Rattle.std.specs.Borrow.{Bor}
use Rattle.std.specs.BTreeMap.{BTreeMap, get_by}
use Rattle.std.specs.Cmp.Lexicographic.{slice_cmp}
use Rattle.std.specs.Option.{option_map_or}
use Rattle.std.specs.Ordering.{nat_cmp}
use Rattle.std.specs.Str.{bytes_eq}
use Rattle.std.specs.declared.alloc.Global.{Global}
use Rattle.edit_policy.specs.Holds.{has_hold, passes_holds}
use Rattle.edit_policy.specs.declared.policy.CratePolicy.{CratePolicy}

-- what a policy says of crates, by name (own)
abbrev pub HoldMap : Type 0
HoldMap = BTreeMap (Bor (List ℕ)) (Vec (Bor CratePolicy) Global)

-- the values that references refer to (own)
abbrev pub policies_of : List (Bor CratePolicy) → List CratePolicy
policies_of said = map (λ c. c.now) said

-- what a map has for the crate of a name (own)
abbrev pub said_of : HoldMap → List ℕ → List CratePolicy
said_of holds name =
    option_map_or (λ v. policies_of v.items) (get_by (λ k. slice_cmp nat_cmp name k.now) holds) []

-- a map has for each name what is said of the crate of that name (own)
abbrev pub IsHoldMap : List CratePolicy → HoldMap → Type 0
IsHoldMap crates holds =
    (name : List ℕ) → said_of holds name ≡ filter (λ c. bytes_eq (string_bytes c.name) name) crates

-- the new map has what the old one has of crates of other names (own)
abbrev pub IsWithout : List ℕ → HoldMap → HoldMap → Type 0
IsWithout name old new =
    (other : List ℕ) → bytes_eq name other ≡ false → said_of new other ≡ said_of old other

-- whether a map has no hold that excludes a version of the crate of this name (own)
abbrev pub passes_map : HoldMap → List ℕ → List ℕ → Bool
passes_map holds name version = passes_holds (said_of holds name) name version

-- whether a map, where there is one, has a hold on the crate of this name (own)
abbrev pub has_hold_in : Option HoldMap → List ℕ → Bool
has_hold_in None name = false
has_hold_in (Some holds) name = has_hold (said_of holds name) name
