-- The lines that a set-version plan reports (own, after cargo-edit).
use Rattle.std.specs.Prelude.{ℕ, Bool, false, List, [], ◌∷◌, ◌++◌, not, if◌then◌else◌, Option, Some, codes, map, option_map}
use Rattle.std.specs.List.{filter, filter_map, flat_map}
use Rattle.semver.specs.Identifiers.{parts_text}
use Rattle.semver.specs.Parse.{Parts}
use Rattle.edit_tree.specs.Assertions.{same_bytes}
use Rattle.edit_manifest.specs.Tables.{Tree}
use Rattle.edit_manifest.specs.Versions.{is_inherited}
use Rattle.edit_set_version.specs.Bumps.{Target}
use Rattle.edit_set_version.specs.Chosen.{SelectionView, Member}
use Rattle.edit_set_version.specs.declared.plan.ChangeKind.{ChangeKind}
use Rattle.edit_set_version.specs.declared.plan.ChangeKind.TheVariants as kinds
use Rattle.edit_set_version.specs.SetVersioned.{Bump, Project, bumps, dependents, raised_dependent_text, workspace_current, workspace_next}

-- a line: an action and a text
abbrev pub ReportLine : Type 0
ReportLine = List ℕ × List ℕ

-- what a line says, in parts: of what kind the change is, whose it is, the old and the new text, the path of
-- the manifest, and whether the version is inherited from the workspace (own)
pub record ChangeParts : Type 0 where
  pub kind : ChangeKind
  pub name : List ℕ
  pub old : List ℕ
  pub new : List ℕ
  pub path : List ℕ
  pub inherited : Bool

-- a line, and what it says in parts
abbrev pub Reported : Type 0
Reported = ReportLine × ChangeParts

-- whose line it is: the name in the line, and the path of the manifest
abbrev pub Owner : Type 0
Owner = List ℕ × List ℕ

-- the note that the line of an inherited version appends
abbrev pub note_if : Bool → List ℕ
note_if inherited = if inherited then codes " (inherited from workspace)" else []

-- the action and the text of a changed version
abbrev pub upgrading_text : List ℕ → Parts → Parts → List ℕ → ReportLine
upgrading_text name old new note = (
  codes "Upgrading",
  name ++ (codes " from " ++ (parts_text old ++ (codes " to " ++ (parts_text new
      ++ note)))),
)

-- the action and the text of a changed requirement
abbrev pub updating_text : List ℕ → List ℕ → List ℕ → ReportLine
updating_text name old new =
    (codes "Updating", name ++ (codes "'s dependency from " ++ (old ++ (codes " to " ++ new))))

-- the `Upgrading` line of a changed version
abbrev pub upgrading_line : ChangeKind → Owner → Parts → Parts → Bool → Reported
upgrading_line kind owner old new inherited = (
  upgrading_text owner.0 old new (note_if inherited),
  record {
    kind = kind;
    name = owner.0;
    old = parts_text old;
    new = parts_text new;
    path = owner.1;
    inherited = inherited;
  },
)

-- the `Updating` line of a changed requirement
abbrev pub updating_line : Owner → List ℕ → List ℕ → Reported
updating_line owner old new = (
  updating_text owner.0 old new,
  record {
    kind = kinds.Dependency;
    name = owner.0;
    old = old;
    new = new;
    path = owner.1;
    inherited = false;
  },
)

-- the line of the workspace's version, in the root manifest at a path, where it changes
abbrev pub shared_lines : List ℕ → Option Parts → Option Parts → List Reported
shared_lines path (Some old) (Some new) =
    upgrading_line kinds.Workspace (codes "workspace version", path) old new false ∷ []
shared_lines path _ _ = []

-- a manifest, and its name in the lines
pub record Named : Type 0 where
  pub name : List ℕ
  pub path : List ℕ
  pub tree : Tree

-- the manifests: that of the root, named `workspace`, then those of the other members
abbrev pub manifests : Project → List Named
manifests p = record { name = codes "workspace"; path = p.path; tree = p.tree }
    ∷ map (λ m. record { name = m.name; path = m.path; tree = m.tree })
    (filter (λ m. not (same_bytes m.path p.path)) p.members)

-- the lines of a manifest for one bump, in the order of its entries
abbrev pub updates : Bump → Named → List Reported
updates b m =
    filter_map (λ f. option_map (updating_line (m.name, m.path) f.text) (raised_dependent_text f)) (dependents
    (b ∷ []) m.path m.tree)

-- the line of a bump
abbrev pub own_line : Bump → Reported
own_line b =
    upgrading_line kinds.Member (b.member.name, b.member.path) b.member.version b.next (is_inherited b.member.tree)

-- the lines of a bump: its own, then those of the requirements on its crate
abbrev pub lines_of : Project → Bump → List Reported
lines_of p b = own_line b ∷ flat_map (updates b) (manifests p)

-- the lines: that of the workspace's version, then those of the bumps
abbrev pub reported : Target → SelectionView → Project → List Reported
reported t a p =
    shared_lines p.path (workspace_current a p) (workspace_next t a p) ++ flat_map (lines_of p) (bumps t a p)

-- their texts
abbrev pub lines : Target → SelectionView → Project → List ReportLine
lines t a p = map (λ l. l.0) (reported t a p)

-- what they say, in parts
abbrev pub changes : Target → SelectionView → Project → List ChangeParts
changes t a p = map (λ l. l.1) (reported t a p)
