-- The model of a rank (own).
use Rattle.std.specs.Prelude.{ℕ, ◌&&◌, List, Option, Bool, not, option_map, string_bytes}
use Rattle.semver.specs.Identifiers.{parts_of}
use Rattle.semver.specs.Parse.{Parts}
use Rattle.edit_version.specs.Admissible.{is_too_new}
use Rattle.edit_version.specs.RustVersions.{Numbers, numbers_of}
use Rattle.edit_cache.specs.declared.rank.Rank.{Rank}

-- a rank: the index of its entry, the name, and the versions that are parsed from it (own)
pub record Ranking : Type 0 where
  pub place : ℕ
  pub name : List ℕ
  pub version : Parts
  pub rust_version : Option Numbers

-- the model of a rank (own)
abbrev pub rank_of : Rank → Ranking
rank_of r = record {
  place = r.place.0;
  name = string_bytes r.name;
  version = parts_of r.version.0;
  rust_version = option_map numbers_of r.rust_version;
}

-- whether a rank supports a Rust version and its version passes a test (own)
abbrev pub passes : Option Numbers → (Parts → Bool) → Ranking → Bool
passes rust test r = not (is_too_new r.rust_version rust) && test r.version
