-- JSON messages, one a line (own).
use Rattle.std.specs.Prelude.{ℕ, List, [], ◌∷◌, ◌++◌, if◌then◌else◌, not, ◌||◌, String, Vec, codes, map, slice_get, string_bytes}
use Rattle.std.specs.List.{flat_map}
use Rattle.std.specs.Option.{option_map_or}
use Rattle.std.specs.declared.alloc.Global.{Global}
use Rattle.serde_json.specs.Data.{boolean, string}
use Rattle.edit_upgrade.specs.declared.decision.options.Options.{Options}
use Rattle.edit_shown.specs.Fields.{list_data, text_data}
use Rattle.edit_shown.specs.HeldBack.{Lists, held_back, is_nothing}
use Rattle.edit_shown.specs.JsonMessages.{MessageMembers, change_members, file_members, message_text, row_members, warning_members}
use Rattle.edit_metadata.specs.declared.input.Input.{Input}
use Rattle.edit_report.specs.declared.output.Output.{Output}
use Rattle.edit_report.specs.declared.row.Row.{Row}
use Rattle.edit_upgrade.specs.declared.upgrade.UpgradePlan.{UpgradePlan}
use Rattle.edit_upgrade.specs.declared.upgrade.Warning.{Warning}

-- the path of the input at this index; the empty text where there is none (own)
abbrev pub path_at : List Input → ℕ → List ℕ
path_at inputs i = option_map_or (λ input. string_bytes input.path) (slice_get inputs i) []

-- a row, with the path of its manifest (own)
abbrev pub row_message : List Input → Row → List ℕ
row_message inputs row = message_text (row_members (path_at inputs row.input) row)

-- a warning, with the path of its manifest (own)
abbrev pub warning_message : List Input → Warning → List ℕ
warning_message inputs w = message_text (warning_members (path_at inputs w.input) (string_bytes w.text))

-- a manifest that changes: not written with a dry run and where the manifests are locked (own)
abbrev pub file_message : Options → Output → List ℕ
file_message o output = message_text (file_members (string_bytes output.path) (not (o.dry_run || o.locked)))

-- calls of `cargo update`, each as its arguments (own)
abbrev pub call_texts : List (Vec (String Global) Global) → List (List (List ℕ))
call_texts calls = map (λ call. map string_bytes call.items) calls

-- the members of the summary, with the calls of `cargo update` that follow (own)
abbrev pub summary_members : UpgradePlan → Options → List (List (List ℕ)) → MessageMembers
summary_members plan o calls =
    (codes "reason", string (codes "upgrade-summary"))
    ∷ (codes "dry_run", boolean o.dry_run)
    ∷ (codes "modified", list_data text_data plan.modified.items)
    ∷ (codes "git_crates", list_data text_data plan.git_crates.items)
    ∷ (codes "missing", list_data text_data plan.missing.items)
    ∷ (codes "pinned_present", boolean plan.pinned_present)
    ∷ (codes "incompatible_present", boolean plan.incompatible_present)
    ∷ (codes "update_calls", list_data (λ call. list_data string call) calls)
    ∷ []

-- the summary of an upgrade (own)
abbrev pub summary_message : UpgradePlan → Options → List (List (List ℕ)) → List ℕ
summary_message plan o calls = message_text (summary_members plan o calls)

-- the members of the message on what was held back for the age of versions (own)
abbrev pub held_back_members : Lists → MessageMembers
held_back_members lists =
    (codes "reason", string (codes "upgrade-held-back"))
    ∷ (codes "younger", list_data string lists.younger)
    ∷ (codes "undated", list_data string lists.undated)
    ∷ (codes "registries_without_times", list_data string lists.registries)
    ∷ []

-- what was held back for the age of versions, if there is something (own)
abbrev pub held_back_message : Lists → List ℕ
held_back_message lists = if is_nothing lists then [] else message_text (held_back_members lists)

-- an upgrade: its rows, its warnings, the manifests that change, what was held back, the summary (own)
abbrev pub messages : UpgradePlan → List Input → Options → List (List (List ℕ)) → List ℕ
messages plan inputs o calls =
    flat_map (row_message inputs) plan.rows.items
    ++ (flat_map (warning_message inputs) plan.warnings.items
    ++ (flat_map (file_message o) plan.outputs.items
    ++ (held_back_message (held_back plan o)
    ++ summary_message plan o calls)))

-- a line of new versions: an action and its text (own)
abbrev pub line_texts : String Global × String Global → List ℕ × List ℕ
line_texts line = (string_bytes line.0, string_bytes line.1)

-- a line of new versions as a message (own)
abbrev pub change_message : List ℕ × List ℕ → List ℕ
change_message line = message_text (change_members line.0 line.1)

-- the lines of new versions (own)
abbrev pub changes : List (List ℕ × List ℕ) → List ℕ
changes lines = flat_map change_message lines
