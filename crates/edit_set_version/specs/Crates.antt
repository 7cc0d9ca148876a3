-- The members of a workspace and their next versions, over the program's types.
use Rattle.std.specs.Prelude.{◌≡◌, List, map, string_bytes}
use Rattle.semver.specs.Identifiers.{parts_of}
use Rattle.edit_manifest.specs.declared.manifest.Manifest.{Manifest}
use Rattle.edit_metadata.specs.declared.input.Input.{Input}
use Rattle.edit_syntax.specs.Grammar.{Text}
use Rattle.edit_tree.specs.Assertions.{IsDocument}
use Rattle.edit_tree.specs.DocumentViews.{ShowsTree, tree_of}
use Rattle.edit_set_version.specs.Chosen.{Member}
use Rattle.edit_set_version.specs.SetVersioned.{Bump, Project}
use Rattle.edit_set_version.specs.declared.crates.Bump.{Bump as Bumping}
use Rattle.edit_set_version.specs.declared.crates.Crate.{Crate}
use Rattle.edit_set_version.specs.declared.project.ProjectRead.{ProjectRead}

-- a crate of the program, as a member
abbrev pub member_of : Crate → Member
member_of c = record {
  name = string_bytes c.package_info.now.name;
  version = parts_of c.package_info.now.version;
  path = string_bytes c.input.now.path;
  tree = tree_of c.manifest.now.document;
}

-- crates of the program, as members
abbrev pub members_of : List Crate → List Member
members_of cs = map member_of cs

-- a bump of the program
abbrev pub bump_view : Bumping → Bump
bump_view b = record { member = member_of b.member; next = parts_of b.next }

-- bumps of the program, in order
abbrev pub bumps_view : List Bumping → List Bump
bumps_view bs = map bump_view bs

-- a project of the program
abbrev pub project_view : ProjectRead → Project
project_view p = record {
  path = string_bytes p.root.input.now.path;
  tree = tree_of p.root.manifest.now.document;
  members = members_of p.members.items;
}

-- the manifest is parsed from an input: it has its bytes and the tree of their text
pub record IsReadOf (i : Input) (m : Manifest) : Type 0 where
  pub bytes : m.document.bytes ≡ i.bytes.items
  pub form : Text
  pub manifest : IsDocument i.bytes.items form
  pub shows : ShowsTree m.document form
