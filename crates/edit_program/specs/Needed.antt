-- The lookups that an upgrade needs, without their answers (own).
use Rattle.std.specs.Prelude.{ℕ, List, All, IsSome, string_bytes}
use Rattle.url.specs.Parts.{serialize}
use Rattle.edit_upgrade.specs.Lookups.{AreApart, lookup_at}
use Rattle.edit_upgrade.specs.declared.upgrade.Look.{Look}

-- each pair of address and name that is needed, no other, and without duplicates (own)
pub record AreNeeded (Needed : List ℕ → List ℕ → Type 0) (lookups : List Look) : Type 0 where
  pub complete : (address name : List ℕ) → Needed address name → IsSome (lookup_at lookups address name)
  pub needed : All (λ lookup. Needed (serialize lookup.registry) (string_bytes lookup.name)) lookups
  pub once : AreApart lookups
