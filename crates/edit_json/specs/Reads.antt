-- Token lists that begin with a value, the elements of an array, or the members of an object, as
-- `serde_json` reads them.
use Rattle.std.specs.Prelude.{◌≡◌, ℕ, List, Some, length}
use Rattle.json.specs.Token.{Token}
use Rattle.json.specs.Json.{items, members, value}
use Rattle.serde_json.specs.Data.{Data, Items, Members, no_members}
use Rattle.serde_json.specs.Read.{converted, of_items, of_json, of_members}

-- the tokens `before` begin with the value `d`, nested at most this deep, and `after` are the rest
abbrev pub ReadsValue : ℕ → List Token → Data → List Token → Type 0
ReadsValue depth before d after = converted of_json (value depth before) ≡ Some (d, after)

-- the tokens `before` begin with the elements and the closing bracket of an array, and `after` are the rest
abbrev pub ReadsItems : ℕ → List Token → Items → List Token → Type 0
ReadsItems depth before ds after =
    converted of_items (items (value depth) (length before) before) ≡ Some (ds, after)

-- the tokens `before` begin with the members and the closing brace of an object, and `after` are the rest;
-- of a repeated key the last value counts
abbrev pub ReadsMembers : ℕ → List Token → Members → List Token → Type 0
ReadsMembers depth before ms after =
    converted (λ ms. of_members ms no_members) (members (value depth) (length before) before)
    ≡ Some (ms, after)
