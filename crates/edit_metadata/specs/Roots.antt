-- The manifest in the root of a workspace (own).
use Rattle.std.specs.Prelude.{◌≡◌, ℕ, List, Option, Some, None, find, slice_get}
use Rattle.std.specs.Str.{bytes_eq}
use Rattle.edit_base.specs.Paths.{IsNormalOf}
use Rattle.edit_metadata.specs.Inputs.{path_of, root_manifest}
use Rattle.edit_metadata.specs.Metadata.{WorkspaceModel}
use Rattle.edit_metadata.specs.declared.input.Input.{Input}

-- the input of the manifest in the root of a workspace: the first one at that path; without a workspace the
-- first of all
abbrev pub IsRoot : Option WorkspaceModel → List Input → Option Input → Type 0
IsRoot None inputs root = root ≡ slice_get inputs 0
IsRoot (Some w) inputs root =
    (path : List ℕ) × IsNormalOf (root_manifest w).path path
    × (root ≡ find (λ i. bytes_eq (path_of i) path) inputs)
