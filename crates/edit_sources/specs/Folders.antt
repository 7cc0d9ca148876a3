-- The folders of registries, and the files of crates in them (Cargo reference, "Registries", index format).
use Rattle.std.specs.Prelude.{◌≡◌, ℕ, List, ◌∷◌, ◌++◌, false}
use Rattle.percent_encoding.specs.Percent.{percent_encode}
use Rattle.url.specs.Parts.{Parts, serialize}
use Rattle.edit_sources.specs.declared.index_dir.folder.TheConstants.{ESCAPED}
use Rattle.edit_sources.specs.LocalIndex.{below}
use Rattle.edit_sources.specs.Names.{is_crate_name, layout}

-- the name of a registry's folder: its address, with each `%` and `/` escaped (own)
abbrev pub registry_folder : List ℕ → List ℕ
registry_folder address = percent_encode ESCAPED address

-- the path of a crate's file in the folder of its registry (Cargo reference, "Registries", index files)
abbrev pub entry_path : List ℕ → Parts → List ℕ → List ℕ
entry_path folder address name = below folder (registry_folder (serialize address) ++ 47 ∷ layout name)

-- the number of the error `BadCrateName`, for an invalid crate name (own)
abbrev pub HasBadName : List ℕ → ℕ → Type 0
HasBadName name n = (n ≡ 29) × (is_crate_name name ≡ false)
