-- What an index says about one version of a crate (Cargo reference, "Registries", index format).
use Rattle.std.specs.Prelude.{ℕ, List, Option, Bool, option_map, string_bytes}
use Rattle.edit_version.specs.declared.fetch.IndexVersion.{IndexVersion}

-- the crate's name, the version's text, whether it is yanked, and the Rust version that it requires
pub record IndexEntry : Type 0 where
  pub name : List ℕ
  pub version : List ℕ
  pub yanked : Bool
  pub rust_version : Option (List ℕ)

-- an entry by its texts (own)
abbrev pub entry_of : IndexVersion → IndexEntry
entry_of v = record {
  name = string_bytes v.name;
  version = string_bytes v.version;
  yanked = v.yanked;
  rust_version = option_map string_bytes v.rust_version;
}
