-- What is printed of a plan on standard output (own).
use Rattle.std.specs.Prelude.{ℕ, List, [], ◌++◌, Bool, if◌then◌else◌, length}
use Rattle.edit_upgrade.specs.declared.decision.options.Options.{Options}
use Rattle.edit_metadata.specs.declared.input.Input.{Input}
use Rattle.edit_report.specs.declared.output.Output.{Output}
use Rattle.edit_shown.specs.Annotations.{annotations}
use Rattle.edit_shown.specs.Diffs.{diffs}
use Rattle.edit_shown.specs.Markdown.{markdown}
use Rattle.edit_shown.specs.Messages.{messages}
use Rattle.edit_shown.specs.Numbered.{numbered}
use Rattle.edit_shown.specs.declared.presentation.MessageFormat.{MessageFormat}
use Rattle.edit_shown.specs.declared.presentation.MessageFormat.TheVariants.{Human, Json, Markdown, Github, Numbered}
use Rattle.edit_upgrade.specs.UpdateCalls.{Call}
use Rattle.edit_upgrade.specs.declared.upgrade.UpgradePlan.{UpgradePlan}
use Rattle.edit_program.specs.Delivery.{Delivery}
use Rattle.edit_program.specs.Tables.{tables}

-- a plan as JSON, as one table of Markdown, or as annotations, where that is requested; annotations name
-- files relative to a folder
abbrev pub messages_as : MessageFormat → UpgradePlan → List Input → List ℕ → Options → List Call → List ℕ
messages_as Human plan inputs root options calls = []
messages_as Json plan inputs root options calls = messages plan inputs options calls
messages_as Markdown plan inputs root options calls = markdown options.verbosity plan.rows.items inputs
messages_as Github plan inputs root options calls = annotations root inputs plan.rows.items
messages_as Numbered plan inputs root options calls = numbered root inputs plan.rows.items

-- the diffs of manifests, where they are requested
abbrev pub diffs_if : Bool → List ℕ → List Input → List Output → List ℕ
diffs_if due current inputs outputs = if due then diffs current inputs outputs else []

-- the tables, or the plan in another format; then the diffs of manifests
abbrev pub upgrade_stdout_text : Delivery → List ℕ
upgrade_stdout_text d =
    tables d.presentation.format d.options.verbosity d.plan.rows.items (length d.inputs)
    ++ (messages_as d.presentation.format d.plan d.inputs d.current d.options d.calls
    ++ diffs_if d.presentation.diff d.current d.inputs d.plan.outputs.items)
