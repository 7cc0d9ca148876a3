-- Annotations of GitHub Actions, one for each requirement of an upgrade that changes or that an option could
-- raise (GitHub Docs, "Workflow commands for GitHub Actions", "Setting a notice message").
use Rattle.std.specs.Prelude.{ℕ, List, [], ◌++◌, Bool, ◌||◌, ◌==◌, Option, Some, None, codes, decimal, drop, encode_utf8, if◌then◌else◌, is_some, length, nat_eq, slice_get, string_bytes}
use Rattle.std.specs.List.{flat_map, starts_with}
use Rattle.std.specs.Option.{option_map_or}
use Rattle.std.specs.Str.{chars}
use Rattle.edit_document.specs.Items.{place_view}
use Rattle.edit_metadata.specs.declared.input.Input.{Input}
use Rattle.edit_report.specs.ShownRows.{is_held_back}
use Rattle.edit_report.specs.Table.{name_text, or_dash, reason_text}
use Rattle.edit_report.specs.declared.row.Row.{Row}
use Rattle.edit_shown.specs.Diffs.{folder_text}
use Rattle.edit_shown.specs.Markdown.{change_text}
use Rattle.edit_shown.specs.Messages.{path_at}
use Rattle.edit_shown.specs.RequirementLines.{requirement_line}

-- ---- escapes

-- a character of a message, where `%` and line ends would end or change the command (GitHub's
-- actions/toolkit, packages/core/src/command.ts, escapeData)
abbrev pub data_char : ℕ → List ℕ
data_char c =
    if c == 37 then codes "%25"
    else (if c == 13 then codes "%0D"
    else (if c == 10 then codes "%0A" else encode_utf8 c))

-- a character of a property, which `:` and `,` would end too (the same file, escapeProperty)
abbrev pub property_char : ℕ → List ℕ
property_char c =
    if c == 58 then codes "%3A"
    else (if c == 44 then codes "%2C" else data_char c)

-- a text as a message
abbrev pub data_text : List ℕ → List ℕ
data_text text = flat_map data_char (chars text)

-- a text as a property
abbrev pub property_text : List ℕ → List ℕ
property_text text = flat_map property_char (chars text)

-- ---- what an annotation says

-- the new requirement, and which version it was made from; empty where the requirement stays (own)
abbrev pub change_part : Row → List ℕ
change_part r =
    if is_some r.change
    then codes " -> " ++ (or_dash r.new ++ (codes " (" ++ (change_text r.change ++ codes ")")))
    else []

-- the latest version, and why it is not taken; empty where no option could raise the requirement further
-- (own)
abbrev pub held_part : Row → List ℕ
held_part r =
    if is_held_back r.reason
    then codes ", latest " ++ (or_dash r.latest ++ (codes " (" ++ (reason_text r.reason ++ codes ")")))
    else []

-- what becomes of a requirement (own)
abbrev pub row_text : Row → List ℕ
row_text r =
    name_text (string_bytes r.name) r.rename
    ++ (codes ": " ++ (or_dash r.old ++ (change_part r ++ held_part r)))

-- ---- annotations

-- a path without a folder before it; the path itself where it is not in the folder
abbrev pub without_folder : List ℕ → List ℕ → List ℕ
without_folder folder path = if starts_with nat_eq path folder then drop (length folder) path else path

-- the path of a file relative to a folder; the path itself where it is not in the folder (own)
abbrev pub relative_path : List ℕ → List ℕ → List ℕ
relative_path root path = without_folder (folder_text root) path

-- the line as a property; empty where it is not known
abbrev pub line_part : Option ℕ → List ℕ
line_part None = []
line_part (Some line) = codes ",line=" ++ decimal line

-- the beginning of an annotation of a file, at a line where it is known
abbrev pub place_part : List ℕ → Option ℕ → List ℕ
place_part file line = codes "::notice file=" ++ (property_text file ++ line_part line)

-- an annotation of a file, at a line where it is known (GitHub Docs, "Setting a notice message")
abbrev pub annotation : List ℕ → Option ℕ → List ℕ → List ℕ
annotation file line message =
    place_part file line ++ codes ",title=cargo upgrade::" ++ data_text message ++ codes "\n"

-- the bytes of the input at this index; empty where there is none
abbrev pub bytes_at : List Input → ℕ → List ℕ
bytes_at inputs i = option_map_or (λ input. input.bytes.items) (slice_get inputs i) []

-- the line on which the requirement of a row begins, where it is known
abbrev pub line_of_row : List Input → Row → Option ℕ
line_of_row inputs r = requirement_line (bytes_at inputs r.input) (place_view r.place.items)

-- the requirement of a row changes, or an option could raise it (own)
abbrev pub is_annotated : Row → Bool
is_annotated r = is_some r.change || is_held_back r.reason

-- the annotation of a row, where it has one
abbrev pub row_annotation : List ℕ → List Input → Row → List ℕ
row_annotation root inputs r =
    if is_annotated r
    then annotation (relative_path root (path_at inputs r.input)) (line_of_row inputs r) (row_text r)
    else []

-- the annotations of rows; files are named relative to a folder
abbrev pub annotations : List ℕ → List Input → List Row → List ℕ
annotations root inputs rows = flat_map (row_annotation root inputs) rows
