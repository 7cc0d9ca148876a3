-- The output format of a plan, from the arguments of `upgrade` and `set-version`.
use Rattle.std.specs.Prelude.{◌&&◌, ◌||◌, ℕ, Bool, List, [], Option, Some, None, codes, false, if◌then◌else◌, option_map, true}
use Rattle.std.specs.Option.{option_map_or}
use Rattle.std.specs.Str.{bytes_eq}
use Rattle.clap.specs.Words.{Row, Text, first_of}
use Rattle.edit_shown.specs.declared.presentation.MessageFormat.{MessageFormat}
use Rattle.edit_shown.specs.declared.presentation.MessageFormat.TheVariants.{Human, Json, Markdown, Github, Numbered}
use Rattle.edit_shown.specs.declared.presentation.Presentation.{Presentation}
use Rattle.edit_program.specs.ParsedOptions.{is_given, lists_rows, value_of}
use Rattle.edit_program.specs.declared.output_format.PlanCommand.{PlanCommand}
use Rattle.edit_program.specs.declared.output_format.PlanCommand.TheVariants.{Upgrade, SetVersion}

-- a format that excludes `--diff`
abbrev pub without_diffs : MessageFormat → Bool → Option Presentation
without_diffs format diff = if diff then None else Some (record { format = format; diff = false })

-- a format that only an upgrade has, from `--message-format` and `--diff`
abbrev pub upgrade_format : Text → Bool → Option Presentation
upgrade_format format diff =
    if bytes_eq format (codes "markdown") then without_diffs Markdown diff
    else (if bytes_eq format (codes "github") then without_diffs Github diff else None)

-- a format beside the two that each command has
abbrev pub other_format : PlanCommand → Text → Bool → Option Presentation
other_format Upgrade format diff = upgrade_format format diff
other_format SetVersion format diff = None

-- the output format of a command, from `--message-format` and `--diff`
abbrev pub format_of_options : PlanCommand → Text → Bool → Option Presentation
format_of_options command format diff =
    if bytes_eq format (codes "human") then Some (record { format = Human; diff = diff })
    else (if bytes_eq format (codes "json") then without_diffs Json diff
    else other_format command format diff)

-- a text says when reports are colored (as cargo has it)
abbrev pub is_color : Text → Bool
is_color text =
    bytes_eq text (codes "auto") || (bytes_eq text (codes "always") || bytes_eq text (codes "never"))

-- `--color` is not given, or has one of its values; it changes nothing of what is printed here
abbrev pub has_color : List Row → Bool
has_color rows = option_map_or is_color (first_of (codes "color") rows) true

-- the format of numbered rows where only these are listed, else the given one
abbrev pub numbered_if : Bool → Presentation → Presentation
numbered_if lists given = if lists then record { format = Numbered; diff = false } else given

-- the output format that parsed arguments of a command give
abbrev pub presentation_of : PlanCommand → List Row → Option Presentation
presentation_of command rows =
    if has_color rows
    then option_map (numbered_if (lists_rows rows))
    (format_of_options command (value_of (codes "message-format") [] rows) (is_given (codes "diff") rows))
    else None

-- the exit status after a plan: 1 where `--check` is given and the plan has an output, else 0
abbrev pub status_after : List Row → Bool → ℕ
status_after rows due = if is_given (codes "check") rows && due then 1 else 0
