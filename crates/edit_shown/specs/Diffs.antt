-- Unified diffs of manifests (own).
use Rattle.std.specs.Prelude.{ℕ, List, [], ◌∷◌, ◌++◌, Bool, codes, drop, if◌then◌else◌, length, nat_eq, string_bytes}
use Rattle.std.specs.List.{ends_with, starts_with}
use Rattle.std.specs.Str.{bytes_eq}
use Rattle.edit_shown.specs.Unified.{diff_text}
use Rattle.edit_metadata.specs.declared.input.Input.{Input}
use Rattle.edit_report.specs.declared.output.Output.{Output}

-- a folder's path with a `/` at its end (own)
abbrev pub folder_text : List ℕ → List ℕ
folder_text root = if ends_with nat_eq root (codes "/") then root else root ++ codes "/"

-- a path relative to a folder, or without its first `/` where it is not in the folder (own)
abbrev pub strip_folder : List ℕ → List ℕ → List ℕ
strip_folder folder path =
    if starts_with nat_eq path folder then drop (length folder) path
    else if starts_with nat_eq path (codes "/") then drop 1 path
    else path

-- the path of a file in a diff whose paths are relative to a folder (own)
abbrev pub shown_path : List ℕ → List ℕ → List ℕ
shown_path root path = strip_folder (folder_text root) path

-- the diff of a manifest (own)
abbrev pub diff_of : List ℕ → Input → Output → List ℕ
diff_of root input output =
    diff_text (shown_path root (string_bytes input.path)) input.bytes.items output.bytes.items

-- whether an output is that of this input (own)
abbrev pub is_of : Input → Output → Bool
is_of input output = bytes_eq (string_bytes input.path) (string_bytes output.path)

-- the diff of an input, where the first output is its own (own)
abbrev pub next_diff : List ℕ → Input → List Output → List ℕ
next_diff root input [] = []
next_diff root input (output ∷ outputs) = if is_of input output then diff_of root input output else []

-- the outputs of the other inputs (own)
abbrev pub other_outputs : Input → List Output → List Output
other_outputs input [] = []
other_outputs input (output ∷ outputs) = if is_of input output then outputs else output ∷ outputs

-- the diffs of the inputs that have an output; outputs are in the order of their inputs (own)
abbrev pub diffs : List ℕ → List Input → List Output → List ℕ
diffs root [] outputs = []
diffs root (input ∷ inputs) outputs =
    next_diff root input outputs ++ diffs root inputs (other_outputs input outputs)
