-- Worked set-version plans for small workspaces: which members are chosen, which requirements are on bumped
-- crates, and which edits are made.
use Rattle.std.proofs.Common.{◌≡◌, ℕ, List, [], ◌∷◌, None, refl, false, true}
use Rattle.std.specs.Prelude.{codes, map}
use Rattle.semver.specs.Parse.{Parts}
use Rattle.edit_syntax.specs.Strings.{Key, bare, lf}
use Rattle.edit_syntax.specs.Grammar.{Value, Lines, boolean, literal, inline, last_member, member, Statement, pair, header, empty_line, full_line, one_line, more_lines, Text, text}
use Rattle.edit_tree.specs.Assertions.{key}
use Rattle.edit_tree.specs.Tree.{view_at}
use Rattle.edit_set_version.specs.Bumps.{by_level}
use Rattle.edit_set_version.specs.Chosen.{SelectionView, Member, bumps_workspace, chosen_members, excluded_inheriting, inheriting_members, missing}
use Rattle.edit_manifest.specs.Tables.{Tree}
use Rattle.edit_manifest.specs.Versions.{is_inherited}
use Rattle.edit_set_version.specs.Folders.{folder_of, resolve_folder, same_folder}
use Rattle.edit_set_version.specs.PlanLines.{note_if}
use Rattle.edit_set_version.specs.SetVersioned.{Project, bumps, dependents}
use Rattle.edit_set_version.specs.declared.set_version.BumpLevel.TheVariants as level

-- ---- paths: up, idle parts, itself, an absolute one, past the root, a file

up : same_folder (resolve_folder (codes "/w/b/Cargo.toml") (codes "../a")) (folder_of (codes "/w/a/Cargo.toml"))
    ≡ true
up = refl

idle : same_folder (resolve_folder (codes "/w/b/Cargo.toml") (codes "./.././a/")) (folder_of
    (codes "/w/a/Cargo.toml")) ≡ true
idle = refl

itself : same_folder (resolve_folder (codes "/w/a/Cargo.toml") []) (folder_of (codes "/w/a/Cargo.toml")) ≡ true
itself = refl

whole_path : same_folder (resolve_folder (codes "/w/b/Cargo.toml") (codes "/w/x/../a")) (folder_of
    (codes "/w/a/Cargo.toml")) ≡ true
whole_path = refl

past_root : same_folder (resolve_folder (codes "/w/b/Cargo.toml") (codes "../../../w/a")) (folder_of
    (codes "/w/a/Cargo.toml")) ≡ true
past_root = refl

other_file : same_folder (resolve_folder (codes "/w/b/Cargo.toml") (codes "../a/Cargo.toml")) (folder_of
    (codes "/w/a/Cargo.toml")) ≡ false
other_file = refl

-- ---- forms

-- a key of one bare part
abbrev pub bare_key : List ℕ → Key
bare_key name = record { first = bare name; others = [] }

-- lines of these statements
abbrev pub lines_of : List Statement → Lines
lines_of [] = one_line (empty_line [] None)
lines_of (s ∷ ss) = more_lines (full_line [] s [] None) lf (lines_of ss)

-- a text of these statements, one a line
abbrev pub form : List Statement → Text
form ss = record { has_byte_order_mark = false; lines = lines_of ss }

-- its tree
abbrev pub tree : List Statement → Tree
tree ss = view_at (form ss)

-- the header of the package
abbrev pub package_head : Statement
package_head = header [] (bare_key (codes "package")) []

-- ---- a crate, and one that depends on it by path

-- an entry of another name than its crate, by path
abbrev pub depends : Value
depends = inline [] (member (bare_key (codes "path")) [] [] (literal (codes "../a")) [] []
    (last_member (bare_key (codes "version")) [] [] (literal (codes "0.1")) []))

-- the manifest that has it
abbrev pub in_b : List Statement
in_b = header [] (bare_key (codes "dependencies")) [] ∷ pair (bare_key (codes "x")) [] [] depends ∷ []

text_b : text (form in_b) ≡ codes "[dependencies]\nx={path='../a',version='0.1'}\n"
text_b = refl

-- 0.1.0
abbrev pub zero_one : Parts
zero_one = (0, 1, 0, [], [])

-- the crate
abbrev pub a : Member
a = record {
  name = codes "a";
  version = zero_one;
  path = codes "/w/a/Cargo.toml";
  tree = tree (package_head ∷ pair (bare_key (codes "version")) [] [] (literal (codes "0.1.0")) ∷ []);
}

-- the one that depends on it
abbrev pub b : Member
b = record { name = codes "b"; version = zero_one; path = codes "/w/b/Cargo.toml"; tree = tree in_b }

-- both, below a root without members of its own
abbrev pub two : Project
two = record { path = codes "/w/Cargo.toml"; tree = tree []; members = b ∷ a ∷ [] }

-- the crate is selected, twice
abbrev pub only_a : SelectionView
only_a = record { packages = codes "a" ∷ codes "a" ∷ []; exclude = []; workspace = false; metadata = None }

minor : bumps (by_level level.Minor) only_a two ≡ record { member = a; next = (0, 2, 0, [], []) } ∷ []
minor = refl

-- the entry depends on the crate by its folder, though its key is another
points : dependents (bumps (by_level level.Minor) only_a two) b.path b.tree
    ≡ record {
      place = key (codes "dependencies") ∷ key (codes "x")
          ∷ [];
      text = codes "0.1";
      next = (0, 2, 0, [], []);
    } ∷ []
points = refl

points_not : dependents (bumps (by_level level.Minor) only_a two) a.path a.tree ≡ []
points_not = refl

-- ---- members that inherit

-- a manifest whose version is the workspace's
abbrev pub inherited : Tree
inherited = tree (package_head ∷ pair (record {
  first = bare (codes "version");
  others =
      record { before = []; behind = []; part = bare (codes "workspace") } ∷ [];
}) [] [] (boolean true) ∷ [])

-- a member at 0.1.0
abbrev pub member_named : List ℕ → List ℕ → Tree → Member
member_named name path t = record { name = name; version = zero_one; path = path; tree = t }

-- a member that inherits
abbrev pub c : Member
c = member_named (codes "c") (codes "/w/c/Cargo.toml") inherited

-- the root, which does too
abbrev pub d : Member
d = member_named (codes "root") (codes "/w/Cargo.toml") inherited

-- one of them is selected
abbrev pub only_c : SelectionView
only_c = record { packages = codes "c" ∷ []; exclude = []; workspace = false; metadata = None }

-- the others that inherit come after, and the version of the workspace is bumped with them
drawn : map (λ m. m.name) (chosen_members only_c (d ∷ a ∷ c ∷ [])) ≡ codes "c" ∷ codes "root" ∷ []
drawn = refl

drawn_workspace : bumps_workspace only_c (d ∷ a ∷ c ∷ []) ≡ true
drawn_workspace = refl

only_a_stays : bumps_workspace only_a (d ∷ a ∷ c ∷ []) ≡ false
only_a_stays = refl

note : note_if (is_inherited c.tree) ≡ codes " (inherited from workspace)"
note = refl

-- an excluded one that would be bumped with the workspace
abbrev pub but_root : SelectionView
but_root = record { packages = []; exclude = codes "root" ∷ []; workspace = true; metadata = None }

held : map (λ m. m.name) (excluded_inheriting but_root (d ∷ c ∷ [])) ≡ codes "root" ∷ []
held = refl

holders : map (λ m. m.name) (inheriting_members but_root (d ∷ c ∷ [])) ≡ codes "c" ∷ []
holders = refl

-- named and excluded at once: bumped
abbrev pub both : SelectionView
both = record { packages = codes "a" ∷ []; exclude = codes "a" ∷ []; workspace = false; metadata = None }

named_stays : map (λ m. m.name) (chosen_members both (b ∷ a ∷ [])) ≡ codes "a" ∷ []
named_stays = refl

-- names that no member has, each once
abbrev pub unknown : SelectionView
unknown =
    record {
      packages = codes "x" ∷ codes "a" ∷ codes "x" ∷ codes "y"
          ∷ [];
      exclude = [];
      workspace = false;
      metadata = None;
    }

unknown_names : missing unknown (codes "a" ∷ codes "b" ∷ []) ≡ codes "x" ∷ codes "y" ∷ []
unknown_names = refl
