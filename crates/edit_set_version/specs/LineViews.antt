-- The lines of a plan, over the program's types.
use Rattle.std.specs.Prelude.{ℕ, not, zero, suc, List, [], ◌∷◌, ◌++◌, ◌==◌, Bool, Option, Some, None, String, codes, if◌then◌else◌, map, option_map, string_bytes}
use Rattle.std.specs.Global.{Vec}
use Rattle.std.specs.List.{filter, filter_map, flat_map}
use Rattle.std.specs.declared.alloc.Global.{Global}
use Rattle.edit_tree.specs.Assertions.{same_bytes}
use Rattle.edit_set_version.specs.Chosen.{Member}
use Rattle.edit_set_version.specs.Dependents.{all_numbered}
use Rattle.edit_set_version.specs.PlanLines.{ChangeParts, Named, Owner, ReportLine, Reported, own_line, updating_line}
use Rattle.edit_set_version.specs.declared.lines.Line.{Line}
use Rattle.edit_set_version.specs.declared.lines.Owner.{Owner as NamedOwner}
use Rattle.edit_set_version.specs.declared.plan.VersionChange.{VersionChange}
use Rattle.edit_set_version.specs.SetVersioned.{Bump, Dependent, raised_dependent_text}

-- a line of the program, by its texts
abbrev pub report_line_view : String Global × String Global → ReportLine
report_line_view l = (string_bytes l.0, string_bytes l.1)

-- what a line says, from the program's type
abbrev pub change_view : VersionChange → ChangeParts
change_view c = record {
  kind = c.kind;
  name = string_bytes c.name;
  old = string_bytes c.old;
  new = string_bytes c.new;
  path = string_bytes c.path;
  inherited = c.inherited;
}

-- a line of the program, and what it says
abbrev pub line_view : Line → Reported
line_view l = (report_line_view l.text, change_view l.change)

-- whose line it is, from the program's type
abbrev pub owner_view : NamedOwner → Owner
owner_view o = (o.name.now, o.path.now)

-- ---- a list of lines for each bump

-- lists of lines, by their texts
abbrev pub line_lists_view : List (Vec Line) → List (List Reported)
line_lists_view lists = map (λ l. map line_view l.items) lists

-- the lists, with a line appended to the one at this index
abbrev pub with_line : ℕ → Reported → List (List Reported) → List (List Reported)
with_line n line [] = []
with_line zero line (l ∷ ls) = (l ++ line ∷ []) ∷ ls
with_line (suc n) line (l ∷ ls) = l ∷ with_line n line ls

-- the `Upgrading` line of a bump
abbrev pub bump_line_view : Bump → Reported
bump_line_view b = own_line b

-- the requirement, where its bump has this index
abbrev pub dependent_number : ℕ → ℕ × Dependent → Option Dependent
dependent_number n f = if f.0 == n then Some f.1 else None

-- the `Updating` line of a requirement of a manifest, where it changes
abbrev pub update_line_view : Owner → Dependent → Option Reported
update_line_view owner f = option_map (updating_line owner f.text) (raised_dependent_text f)

-- the lines of those of a manifest whose bump has this number
abbrev pub update_lines_view : Owner → List (ℕ × Dependent) → ℕ → List Reported
update_lines_view owner fs n = filter_map (update_line_view owner) (filter_map (dependent_number n) fs)

-- lists, of this number and the next ones, each with the lines of its number at the end
abbrev pub with_more : (ℕ → List Reported) → ℕ → List (List Reported) → List (List Reported)
with_more tell n [] = []
with_more tell n (l ∷ ls) = (l ++ tell n) ∷ with_more tell (suc n) ls

-- with the lines of the requirements of a manifest
abbrev pub with_updates : Owner → List (ℕ × Dependent) → ℕ → List (List Reported) → List (List Reported)
with_updates owner fs n ls = with_more (update_lines_view owner fs) n ls

-- ---- manifests

-- a member's manifest, under its name
abbrev pub named_member : Member → Named
named_member m = record { name = m.name; path = m.path; tree = m.tree }

-- those of the members that are not at this path
abbrev pub other_manifests : List ℕ → List Member → List Named
other_manifests path ms = map named_member (filter (λ m. not (same_bytes m.path path)) ms)

-- the lines of manifests for the bump with this number
abbrev pub manifest_lines_view : List Bump → List Named → ℕ → List Reported
manifest_lines_view bs ms n = flat_map (λ m. update_lines_view (m.name, m.path) (all_numbered bs m.path m.tree) n) ms

-- the lines of each bump, with those of these manifests added for the bump with this number
abbrev pub with_manifests : List Bump → List Named → ℕ → List (List Reported) → List (List Reported)
with_manifests bs ms n ls = with_more (manifest_lines_view bs ms) n ls
