-- Worked set-version plans for small workspaces: the new texts and the lines of the report.
use Rattle.std.proofs.Common.{◌≡◌, [], ◌∷◌, None, refl, false}
use Rattle.std.specs.Prelude.{codes}
use Rattle.std.specs.Fmt.{digits}
use Rattle.semver.specs.Parse.{Parts}
use Rattle.semver.proofs.OnLiterals.{semver_on_literals}
use Rattle.edit_syntax.specs.Strings.{bare}
use Rattle.edit_syntax.specs.Grammar.{header, literal, pair}
use Rattle.edit_tree.specs.Assertions.{key}
use Rattle.edit_manifest.specs.Tables.{Tree}
use Rattle.edit_manifest.specs.Versions.{package_version, shared_version}
use Rattle.edit_set_version.specs.Bumps.{by_level, exactly}
use Rattle.edit_set_version.specs.Chosen.{SelectionView, Member}
use Rattle.edit_set_version.specs.PlanLines.{lines}
use Rattle.edit_set_version.specs.SetVersioned.{Project, edits}
use Rattle.edit_set_version.specs.declared.set_version.BumpLevel.TheVariants as level
use Rattle.edit_set_version.proofs.PlanRows.{a, b, inherited, only_a, tree, two, bare_key}

-- ---- a crate that is bumped, and one that depends on it by path

-- its own version
written_a : edits (by_level level.Minor) only_a two a.path a.tree ≡ (package_version, codes "0.2.0") ∷ []
unfolding semver_on_literals digits
written_a = refl

-- the requirement of the other one
written_b : edits (by_level level.Minor) only_a two b.path b.tree
    ≡ (key (codes "dependencies") ∷ key (codes "x") ∷ key (codes "version") ∷ [], codes "0.2") ∷ []
unfolding semver_on_literals digits
written_b = refl

-- both are reported
lines_of_two : lines (by_level level.Minor) only_a two
    ≡ (codes "Upgrading", codes "a from 0.1.0 to 0.2.0")
    ∷ (codes "Updating", codes "b's dependency from 0.1 to 0.2") ∷ []
unfolding semver_on_literals digits
lines_of_two = refl

-- ---- a member that inherits its version

-- 1.0.0
abbrev one_zero : Parts
one_zero = (1, 0, 0, [], [])

-- the root manifest, which has the version of the workspace
abbrev root : Tree
root =
    tree (header [] (record {
      first = bare (codes "workspace");
      others = record { before = []; behind = []; part = bare (codes "package") } ∷ [];
    }) [] ∷ pair (bare_key (codes "version")) [] [] (literal (codes "1.0.0")) ∷ [])

-- its one member, which inherits it
abbrev heir : Member
heir = record { name = codes "a"; version = one_zero; path = codes "/w/a/Cargo.toml"; tree = inherited }

-- both
abbrev one : Project
one = record { path = codes "/w/Cargo.toml"; tree = root; members = heir ∷ [] }

-- all are selected
abbrev everything : SelectionView
everything = record { packages = []; exclude = []; workspace = false; metadata = None }

-- the version of the workspace is written
written_root : edits (exactly (2, 0, 0, [], [])) everything one one.path one.tree
    ≡ (shared_version, codes "2.0.0") ∷ []
unfolding semver_on_literals digits
written_root = refl

-- the member keeps its text
written_heir : edits (exactly (2, 0, 0, [], [])) everything one heir.path heir.tree ≡ []
unfolding semver_on_literals digits
written_heir = refl

-- both are reported
lines_of_one : lines (exactly (2, 0, 0, [], [])) everything one
    ≡ (codes "Upgrading", codes "workspace version from 1.0.0 to 2.0.0")
    ∷ (codes "Upgrading", codes "a from 1.0.0 to 2.0.0 (inherited from workspace)") ∷ []
unfolding semver_on_literals digits
lines_of_one = refl
