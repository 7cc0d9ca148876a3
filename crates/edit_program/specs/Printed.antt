-- What `set-version` prints (own, after cargo-edit).
use Rattle.std.specs.Prelude.{List, [], ◌++◌, ℕ, Bool, true, false, codes, if◌then◌else◌}
use Rattle.std.specs.List.{flat_map}
use Rattle.edit_metadata.specs.declared.input.Input.{Input}
use Rattle.edit_report.specs.Messages.{message_text}
use Rattle.edit_report.specs.declared.output.Output.{Output}
use Rattle.edit_set_version.specs.PlanLines.{ReportLine}
use Rattle.edit_set_version.specs.Planned.{plan_lines_view}
use Rattle.edit_set_version.specs.declared.plan.SetVersionPlan.{SetVersionPlan}
use Rattle.edit_set_version.specs.declared.plan.VersionChange.{VersionChange}
use Rattle.edit_shown.specs.Diffs.{diffs}
use Rattle.edit_shown.specs.Messages.{changes}
use Rattle.edit_shown.specs.VersionChanges.{version_changes}
use Rattle.edit_shown.specs.declared.presentation.MessageFormat.{MessageFormat}
use Rattle.edit_shown.specs.declared.presentation.MessageFormat.TheVariants.{Human, Json, Markdown, Github, Numbered}
use Rattle.edit_program.specs.declared.set_version_run.set_version_args.SetVersionArgs.{SetVersionArgs}

-- a warning, where it is due
abbrev pub warning_if : Bool → List ℕ → List ℕ
warning_if due message = if due then message_text false (codes "warning") message else []

-- the lines of a plan, each as a status line
abbrev pub statuses : List ReportLine → List ℕ
statuses lines = flat_map (λ line. message_text true line.0 line.1) lines

-- the status lines, unless standard output has the lines as messages
abbrev pub statuses_in : MessageFormat → List ReportLine → List ℕ
statuses_in Human lines = statuses lines
statuses_in Json lines = []
statuses_in Markdown lines = statuses lines
statuses_in Github lines = statuses lines
statuses_in Numbered lines = statuses lines

-- on standard error: the warning for `--all`, the lines, and the warning of a dry run
abbrev pub set_version_stderr_text : SetVersionArgs → List ReportLine → List ℕ
set_version_stderr_text args lines =
    warning_if args.all (codes "The flag `--all` has been deprecated in favor of `--workspace`")
    ++ (statuses_in args.presentation.format lines
    ++ warning_if args.dry_run (codes "aborting set-version due to dry run"))

-- the lines as messages, and then what they say in parts
abbrev pub messages_in : MessageFormat → List ReportLine → List VersionChange → List ℕ
messages_in Human lines parts = []
messages_in Json lines parts = changes lines ++ version_changes parts
messages_in Markdown lines parts = []
messages_in Github lines parts = []
messages_in Numbered lines parts = []

-- the diffs of the manifests, where they are requested
abbrev pub diffs_if : Bool → List ℕ → List Input → List Output → List ℕ
diffs_if wants_diff root inputs outputs = if wants_diff then diffs root inputs outputs else []

-- on standard output: the lines as messages and the diffs of the manifests, where they are requested
abbrev pub set_version_stdout_text : SetVersionArgs → List ℕ → List Input → SetVersionPlan → List ℕ
set_version_stdout_text args root inputs plan =
    messages_in args.presentation.format (plan_lines_view plan) plan.changes.items
    ++ diffs_if args.presentation.diff root inputs plan.outputs.items
