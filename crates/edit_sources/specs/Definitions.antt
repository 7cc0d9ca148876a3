-- Definitions of which some were followed: the addresses at the ends of their chains, and the definitions
-- that are left.
use Rattle.std.specs.Prelude.{◌≡◌, ◌⊎◌, ℕ, zero, suc, List, true, false, cond, Option, Some, None, option_map}
use Rattle.std.specs.Ordering.{nat_cmp}
use Rattle.std.specs.BTreeMap.{get_by}
use Rattle.std.specs.Cmp.Lexicographic.{slice_cmp}
use Rattle.std.specs.Str.{bytes_eq}
use Rattle.edit_sources.specs.Configuration as said
use Rattle.edit_sources.specs.SourceReplacement.{Definition, with_address, first, named}
use Rattle.edit_sources.specs.Configured.{all_definitions}
use Rattle.edit_sources.specs.Sources.{found}
use Rattle.edit_sources.specs.declared.config.Config.{Config}
use Rattle.edit_sources.specs.declared.registry.definitions.Definitions.{Definitions}

-- a source leads to this address by so many replacements (own)
abbrev pub Leads : List Definition → List ℕ → ℕ → said.Source → Type 0
Leads ds address zero s = (s.replace_with ≡ None) × (s.registry ≡ Some address)
Leads ds address (suc n) s = (key : List ℕ) × (s.replace_with ≡ Some key)
    × ((t : said.Source) × (named ds key ≡ Some t) × Leads ds address n t)

-- the source of a key leads to this address (own)
pub record LeadsTo (ds : List Definition) (key address : List ℕ) : Type 0 where
  pub source : said.Source
  pub is : named ds key ≡ Some source
  pub links : ℕ
  pub leads : Leads ds address links source

-- the address at the end of the chain from a key, if the chain was followed before (own)
abbrev pub end_at : Definitions → List ℕ → Option (List ℕ)
end_at d key = option_map (λ a. a.now) (get_by (λ k. slice_cmp nat_cmp key k.now) d.ends)

-- the model of the definitions: each stored address is the one that its key leads to, and each other key has
-- its first definition (own)
pub record Defines (configs : List Config) (d : Definitions) : Type 0 where
  pub ends : (key address : List ℕ) → end_at d key ≡ Some address
      → LeadsTo (all_definitions configs) key address
  pub left : (key : List ℕ) → end_at d key ≡ None → found d.left key ≡ first key (all_definitions configs)

-- the source of a key, which is not the first key of the chain, is removed (own)
pub record RemovesSource (beginning key : List ℕ) (old new : Definitions) (s : said.Source) : Type 0 where
  pub apart : bytes_eq beginning key ≡ false
  pub source : with_address key (found old.left key) ≡ Some s
  pub left : (q : List ℕ) → found new.left q ≡ cond (bytes_eq key q) None (found old.left q)
  pub ends : new.ends ≡ old.ends

-- a key is the first one of the chain, or has no definition left (own)
abbrev pub HasNoSourceLeft : List ℕ → List ℕ → Definitions → Type 0
HasNoSourceLeft beginning key d = (bytes_eq beginning key ≡ true) ⊎ (found d.left key ≡ None)
