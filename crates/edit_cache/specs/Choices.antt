-- The model of the cached choices for requirements on a crate (own).
use Rattle.std.specs.Prelude.{◌≡◌, ◌&&◌, ℕ, List, Option, All, IfSome, option_and_then, option_map, slice_get}
use Rattle.std.specs.BTreeMap.{BTreeMap, get_by_text}
use Rattle.std.specs.Global.{Vec}
use Rattle.std.specs.List.{position_from}
use Rattle.std.proofs.Props.{props}
use Rattle.semver.specs.Parse.{Parts}
use Rattle.edit_version.specs.Candidates.{numbers_in}
use Rattle.edit_version.specs.Levels.{is_within}
use Rattle.edit_version.specs.Selection.{is_admitted, is_offered}
use Rattle.edit_cache.specs.Ranks.{Ranking, passes}
use Rattle.edit_cache.specs.declared.choices.Choice.{Choice}
use Rattle.std.specs.declared.alloc.Global.{Global}
use Rattle.std.specs.declared.string.String.{String}

-- the indices of the greatest version that a requirement admits and of the latest version, among the ranks
-- that support a Rust version and whose versions are within a level of the requirement (own)
pub record IsChoice (ranks : List Ranking) (text : List ℕ) (c : Choice) : Type 0 where
  pub compatible : c.compatible
      ≡ position_from (passes (numbers_in c.rust_version)
      (λ v. is_admitted text v && is_within c.level text v)) 0 ranks
  pub latest : c.latest
      ≡ position_from (passes (numbers_in c.rust_version)
      (λ v. is_offered text v && is_within c.level text v)) 0 ranks

-- each cached choice is that of its requirement (own)
abbrev pub AreChoices : List Ranking → BTreeMap (String Global) (Vec Choice) → Type 0
AreChoices ranks choices =
    (text : List ℕ) → IfSome (get_by_text choices text) (λ v. All (IsChoice ranks text) v.items)

-- the version at an index, if there is one (own)
abbrev pub version_at : List Ranking → Option ℕ → Option Parts
version_at ranks place = option_and_then (λ n. option_map (λ r. r.version) (slice_get ranks n)) place

pub AreChoices-prop : (ranks : List Ranking) (choices : BTreeMap (String Global) (Vec Choice))
    → IsProp (AreChoices ranks choices)
AreChoices-prop ranks choices = hlevel props
