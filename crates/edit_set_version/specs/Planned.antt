-- The result of a set-version plan for the inputs of a workspace (own, after cargo-edit).
use Rattle.std.specs.Prelude.{◌≡◌, ◌≢◌, ◌==◌, ℕ, List, [], ◌∷◌, Bool, Option, not, length, map, string_bytes}
use Rattle.std.specs.List.{filter}
use Rattle.semver.specs.Parse.{Parts}
use Rattle.edit_syntax.specs.Grammar.{Text}
use Rattle.edit_tree.specs.Assertions.{IsDocument, same_bytes}
use Rattle.edit_tree.specs.Replaces.{Edits, Replaces}
use Rattle.edit_tree.specs.Tree.{view_at}
use Rattle.edit_metadata.specs.declared.input.Input.{Input}
use Rattle.edit_report.specs.declared.output.Output.{Output}
use Rattle.edit_set_version.specs.Bumps.{Target}
use Rattle.edit_set_version.specs.Chosen.{SelectionView}
use Rattle.edit_set_version.specs.Admitted.{AllAdmitNext}
use Rattle.edit_set_version.specs.LineViews.{change_view}
use Rattle.edit_set_version.specs.PlanLines.{ChangeParts, ReportLine}
use Rattle.edit_metadata.specs.Inputs.{path_of}
use Rattle.edit_set_version.specs.SetVersioned.{Bump, Project, bumps, edits_by, workspace_next}
use Rattle.edit_set_version.specs.declared.plan.SetVersionPlan.{SetVersionPlan}

-- ---- outputs

-- the outputs at a path
abbrev pub outputs_at : List ℕ → List Output → List Output
outputs_at path outputs = filter (λ o. same_bytes (string_bytes o.path) path) outputs

-- the outputs are in the order of their inputs, and there is no other
abbrev pub OutputsInOrder : List Input → List Output → Type 0
OutputsInOrder inputs outputs =
    map (λ o. string_bytes o.path) outputs
    ≡ filter (λ path. not (length (outputs_at path outputs) == 0)) (map path_of inputs)

-- no output where there are no edits; else one with the path, and the text after the edits
pub data AreOutputs (path old : List ℕ) (es : Edits) : List Output → Type 0 where
  unchanged : es ≡ [] → AreOutputs path old es []
  changed : (output : Output) → es ≢ [] → string_bytes output.path ≡ path
      → Replaces es old output.bytes.items → AreOutputs path old es (output ∷ [])

-- the outputs of an input have the literals of its bumped versions and of its requirements on bumped crates,
-- and no other byte is new; by the root's path, the next version of the workspace, and the bumps
pub record AreOutputsOf (root : List ℕ) (next : Option Parts) (bs : List Bump) (input : Input)
    (own : List Output) : Type 0 where
  pub form : Text
  pub manifest : IsDocument input.bytes.items form
  pub are : AreOutputs (path_of input) input.bytes.items
      (edits_by root next bs (path_of input) (view_at form)) own

-- the outputs at the path of an input are correct for a root's path, a next version of the workspace and
-- bumps
abbrev pub HasOutputsBy : List ℕ → Option Parts → List Bump → List Output → Input → Type 0
HasOutputsBy root next bs outputs input =
    AreOutputsOf root next bs input (outputs_at (path_of input) outputs)

-- the outputs at the path of an input are correct for a project
abbrev pub HasSetOutputs : Target → SelectionView → List Output → Project → Input → Type 0
HasSetOutputs t a outputs p input =
    HasOutputsBy p.path (workspace_next t a p) (bumps t a p) outputs input

-- ---- lines

-- the lines, by their texts
abbrev pub plan_lines_view : SetVersionPlan → List ReportLine
plan_lines_view plan = map (λ l. (string_bytes l.0, string_bytes l.1)) plan.lines.items

-- what the lines say, in parts
abbrev pub plan_changes_view : SetVersionPlan → List ChangeParts
plan_changes_view plan = map change_view plan.changes.items

-- the plan has lines
abbrev pub has_lines : SetVersionPlan → Bool
has_lines plan = not (length plan.lines.items == 0)

-- ---- the theorem

-- the bytes after a plan: the first output's, or these where there is none
abbrev pub bytes_after : List ℕ → List Output → List ℕ
bytes_after old [] = old
bytes_after old (output ∷ outputs) = output.bytes.items

-- the bytes of an input after the plan are a manifest, and each of its requirements on a bumped crate
-- admits the crate's next version
pub record HasAdmitted
    (t : Target) (a : SelectionView) (outputs : List Output) (p : Project) (input : Input) : Type 0 where
  pub form : Text
  pub manifest : IsDocument
      (bytes_after input.bytes.items (outputs_at (path_of input) outputs)) form
  pub admit : AllAdmitNext (bumps t a p) (path_of input) (view_at form)
