-- The kinds of dependencies and the names of their tables (Cargo reference, "Specifying Dependencies",
-- "Development dependencies" and "Build dependencies").
use Rattle.std.specs.Prelude.{ℕ, Bool, ◌||◌, List, codes}
use Rattle.std.specs.Str.{bytes_eq}
use Rattle.edit_manifest.specs.declared.dep_table.DepKind.{DepKind}
use Rattle.edit_manifest.specs.declared.dep_table.DepKind.TheVariants.{Normal, Development, Build}

-- the name of the table of a kind
abbrev pub kind_name : DepKind → List ℕ
kind_name Normal = codes "dependencies"
kind_name Development = codes "dev-dependencies"
kind_name Build = codes "build-dependencies"

-- the name of the table of one of the three kinds
abbrev pub is_kind : List ℕ → Bool
is_kind name = bytes_eq name (kind_name Normal)
    || (bytes_eq name (kind_name Development) || bytes_eq name (kind_name Build))
