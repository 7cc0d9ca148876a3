-- Examples of removed features and tables.
use Rattle.std.proofs.Common.{◌≡◌, [], refl}
use Rattle.std.specs.Prelude.{ℕ, true, false, List, ◌∷◌, ◌++◌, Some, None, codes}
use Rattle.edit_tree.specs.Assertions.{Place, Step, at, key, index}
use Rattle.edit_tree.specs.DocumentViews.{node_at}
use Rattle.edit_tree.specs.Tree.{View, inline_table, static_array, string, table, truth}
use Rattle.edit_update.specs.Features.{features, stale_strings}
use Rattle.edit_update.specs.RemovedEntries.{empty_table_place, missing_table}
use Rattle.edit_manifest.specs.Tables.{Tree, place_of_keys}

-- `x` below `[features]`
abbrev x : Place
x = at features (key (codes "x"))

-- `x = ["dep", "dep:dep", "dep/std", "other"]` below `[features]`, beside these members of the root
abbrev with : List Step → List (Place × View) → Tree
with more nodes = node_at (([], table (key (codes "features") ∷ more))
    ∷ (features, table (key (codes "x") ∷ [])) ∷ (x, static_array 4)
    ∷ (at x (index 0), string (codes "dep")) ∷ (at x (index 1), string (codes "dep:dep"))
    ∷ (at x (index 2), string (codes "dep/std")) ∷ (at x (index 3), string (codes "other")) ∷ nodes)

-- `dep` below this table, with this member `optional`
abbrev an_entry : List (List ℕ) → View → List (Place × View)
an_entry path optional =
    (place_of_keys path, table (key (codes "dep") ∷ []))
    ∷ (place_of_keys (path ++ codes "dep" ∷ []), inline_table (key (codes "optional") ∷ []))
    ∷ (place_of_keys (path ++ codes "dep" ∷ codes "optional" ∷ []), optional) ∷ []

-- no section has the key: the key, and what begins with it and a slash, the last first
pub both_go : stale_strings (with [] []) (codes "dep") ≡ at x (index 2) ∷ at x (index 0) ∷ []
both_go = refl

-- a section has it: the key alone
pub the_key_goes : stale_strings (with (key (codes "dependencies") ∷ [])
    (an_entry (codes "dependencies" ∷ []) (truth false))) (codes "dep") ≡ at x (index 0) ∷ []
the_key_goes = refl

-- an optional entry: nothing
pub nothing_goes : stale_strings (with (key (codes "dependencies") ∷ [])
    (an_entry (codes "dependencies" ∷ []) (truth true))) (codes "dep") ≡ []
nothing_goes = refl

-- an optional entry of the workspace does not count
pub the_workspace_counts_not : stale_strings (with (key (codes "workspace") ∷ [])
    ((place_of_keys (codes "workspace" ∷ []), table (key (codes "dependencies") ∷ []))
    ∷ an_entry (codes "workspace" ∷ codes "dependencies" ∷ []) (truth true))) (codes "dep")
    ≡ at x (index 2) ∷ at x (index 0) ∷ []
the_workspace_counts_not = refl

-- of `target.x.dependencies`, where there is a `target` without `x`
pub the_first_missing : missing_table (node_at (([], table (key (codes "target") ∷ []))
    ∷ (place_of_keys (codes "target" ∷ []), table []) ∷ [])) (codes "target" ∷ codes "x" ∷ codes "dependencies" ∷ [])
    ≡ Some (codes "x")
the_first_missing = refl

-- what is no table leads nowhere
pub no_table : missing_table (node_at (([], table (key (codes "dependencies") ∷ []))
    ∷ (place_of_keys (codes "dependencies" ∷ []), truth true) ∷ [])) (codes "dependencies" ∷ [])
    ≡ Some (codes "dependencies")
no_table = refl

-- the root is a table
pub the_root : missing_table (node_at (([], table []) ∷ [])) [] ≡ None
the_root = refl

-- an empty table goes, and the empty root stays
pub a_bare_table : empty_table_place (node_at ((place_of_keys (codes "d" ∷ []), inline_table []) ∷ []))
    (place_of_keys (codes "d" ∷ []))
    ≡ place_of_keys (codes "d" ∷ []) ∷ []
a_bare_table = refl

pub the_bare_root : empty_table_place (node_at (([], table []) ∷ [])) [] ≡ []
the_bare_root = refl
