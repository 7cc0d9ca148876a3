-- What annotations name: files and lines.
use Rattle.std.proofs.Common.{◌≡◌, ◌∙◌, ℕ, true, List, [], None, ap, drop, length, sym}
use Rattle.std.specs.Prelude.{if◌then◌else◌}
use Rattle.std.specs.Str.Pattern.{FindsTextPrefix, StripsPrefix}
use Rattle.edit_metadata.specs.declared.input.Input.{Input}
use Rattle.edit_report.specs.declared.row.Row.{Row}
use Rattle.edit_shown.specs.Annotations.{annotation, is_annotated, line_of_row, relative_path, row_annotation, row_text, without_folder}
use Rattle.edit_shown.specs.Messages.{path_at}
use Rattle.edit_shown.proofs.PathLemmas.{begun, other}

-- a path below the folder
pub below_folder : (folder path rest : List ℕ) → StripsPrefix (FindsTextPrefix folder) path rest
    → rest ≡ without_folder folder path
below_folder folder path rest h =
    let is = begun folder path rest h in
    is.1 ∙ sym (ap (λ b. if b then drop (length folder) path else path) is.0)

-- any other path
pub beside_folder : (folder path : List ℕ) → FindsTextPrefix folder path None → path ≡ without_folder folder path
beside_folder folder path h =
    sym (ap (λ b. if b then drop (length folder) path else path) (other folder path h))

-- the annotation of a row that has one
pub annotation_is : (root : List ℕ) (inputs : List Input) (row : Row) → is_annotated row ≡ true
    → row_annotation root inputs row
    ≡ annotation (relative_path root (path_at inputs row.input)) (line_of_row inputs row) (row_text row)
annotation_is root inputs row is =
    ap (λ b. if b then annotation (relative_path root (path_at inputs row.input)) (line_of_row inputs row)
    (row_text row) else []) is
