-- The resolved addresses of registries, over the program's type.
use Rattle.std.specs.Prelude.{◌≡◌, ℕ, List, Bool, true, false, IfSome, Option, Some, None, slice_get}
use Rattle.std.specs.BTreeMap.{BTreeMap, get, get_by_text}
use Rattle.std.specs.Global.{Vec}
use Rattle.std.specs.Ordering.{nat_cmp}
use Rattle.std.specs.Str.{bytes_eq}
use Rattle.edit_sources.specs.Configured.{HasAddress}
use Rattle.edit_sources.specs.Definitions.{Defines}
use Rattle.edit_sources.specs.declared.config.Config.{Config}
use Rattle.url.specs.Parts as url
use Rattle.edit_upgrade.specs.declared.addresses.Addresses.{Addresses}

-- the resolved address of a registry, if there is one (own)
abbrev pub url_at : Addresses → Option (List ℕ) → Option url.Parts
url_at a None = a.default
url_at a (Some name) = get_by_text a.named name

-- they are resolved from these configurations, whose definitions these are, if they were read, and each
-- address is the one that the configurations define for its registry (own)
pub record AreAddresses (configs : List Config) (a : Addresses) : Type 0 where
  pub own : a.configs.now ≡ configs
  pub defines : IfSome a.definitions (Defines configs)
  pub has : (named : Option (List ℕ)) (address : url.Parts) → url_at a named ≡ Some address
      → HasAddress configs named address

-- the addresses that are cached for a list of configurations, by its index, are resolved from that list
-- (own)
abbrev pub AreCaches : List (Vec Config) → BTreeMap ℕ Addresses → Type 0
AreCaches lists caches =
    (j : ℕ) (a : Addresses) (own : Vec Config) → get nat_cmp caches j ≡ Some a → slice_get lists j ≡ Some own
    → AreAddresses own.items a

-- the two names are equal, or both absent (own)
abbrev pub is_same_registry : Option (List ℕ) → Option (List ℕ) → Bool
is_same_registry None None = true
is_same_registry None (Some b) = false
is_same_registry (Some a) None = false
is_same_registry (Some a) (Some b) = bytes_eq a b
