-- The model of the sources along the chain, and the first definition of each key.
use Rattle.std.specs.Prelude.{◌≡◌, ℕ, List, Option, Some, None, option_map}
use Rattle.std.specs.Ordering.{nat_cmp}
use Rattle.std.specs.Borrow.{Bor}
use Rattle.std.specs.BTreeMap.{BTreeMap, get_by}
use Rattle.std.specs.Cmp.Lexicographic.{slice_cmp}
use Rattle.edit_sources.specs.Configuration as said
use Rattle.edit_sources.specs.SourceReplacement.{Definition, first}
use Rattle.edit_sources.specs.declared.registry.chain.Source.{Source}

-- the model of a source (own)
abbrev pub source_texts : Source → said.Source
source_texts s = record {
  registry = option_map (λ t. t.now) s.registry;
  replace_with = option_map
      (λ t. t.now) s.replace_with;
}

-- the source of a key in a map (own)
abbrev pub found : BTreeMap (Bor (List ℕ)) Source → List ℕ → Option said.Source
found sources key = option_map source_texts (get_by (λ k. slice_cmp nat_cmp key k.now) sources)

-- the first value, else the second (own)
abbrev pub or_else : {A : Type 0} → Option A → Option A → Option A
or_else None other = other
or_else (Some x) other = Some x

-- a map is unchanged except for new keys, each with its first definition (own)
abbrev pub Adds : BTreeMap (Bor (List ℕ)) Source → BTreeMap (Bor (List ℕ)) Source → List Definition → Type 0
Adds old new ds = (key : List ℕ) → found new key ≡ or_else (found old key) (first key ds)
