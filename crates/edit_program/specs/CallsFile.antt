-- The file of the calls of `cargo update` (own).
use Rattle.std.specs.Prelude.{ℕ, List, [], ◌∷◌, ◌++◌, Option, Some, None, ◌||◌, if◌then◌else◌}
use Rattle.std.specs.List.{flat_map}
use Rattle.edit_upgrade.specs.declared.decision.options.Options.{Options}
use Rattle.edit_report.specs.Applied.{path_of}
use Rattle.edit_report.specs.declared.output.Output.{Output}
use Rattle.edit_upgrade.specs.UpdateCalls.{Call}

-- an argument as a line
abbrev pub arg_line : List ℕ → List ℕ
arg_line arg = arg ++ 10 ∷ []

-- a call: one argument a line, then an empty line
abbrev pub call_lines : Call → List ℕ
call_lines call = flat_map arg_line call ++ 10 ∷ []

-- calls, one after another
abbrev pub calls_text : List Call → List ℕ
calls_text calls = flat_map call_lines calls

-- the path of the file of the calls, where files are written
abbrev pub due_path : Options → Option (List ℕ) → Option (List ℕ)
due_path o path = if o.dry_run || o.locked then None else path

-- the file of the calls: its path and its bytes
abbrev pub calls_files : Option (List ℕ) → List Call → List (List ℕ × List ℕ)
calls_files None calls = []
calls_files (Some path) calls = (path, calls_text calls) ∷ []

-- an output as a file: its path and its bytes
abbrev pub file_of : Output → List ℕ × List ℕ
file_of output = (path_of output, output.bytes.items)
