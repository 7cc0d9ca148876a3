-- The messages of `upgrade` and `set-version`: JSON objects, one a line (own; the member `reason` is that of
-- the messages of cargo: Cargo reference, "External tools", JSON messages).
use Rattle.std.specs.Prelude.{ℕ, List, [], ◌∷◌, ◌++◌, Bool, Option, Some, None, option_map, codes, string_bytes, if◌then◌else◌}
use Rattle.std.specs.List.{fold}
use Rattle.serde_json.specs.Data.{Data, Members, boolean, no_members, number, object, put, string, unsigned}
use Rattle.serde_json.specs.Written.{compact_text}
use Rattle.edit_report.specs.ShownRows.{is_unreadable}
use Rattle.edit_report.specs.declared.row.Change.{Change}
use Rattle.edit_report.specs.declared.row.Change.TheVariants as change
use Rattle.edit_report.specs.declared.row.Reason.{Reason}
use Rattle.edit_report.specs.declared.row.Reason.TheVariants as reason
use Rattle.edit_report.specs.declared.row.Row.{Row}
use Rattle.edit_shown.specs.Fields.{list_data, number_or_null, step_data, text_data, text_or_null}
use Rattle.edit_shown.specs.declared.held_back.HeldBack.{HeldBack}
use Rattle.edit_shown.specs.declared.json.errors.ErrorParts.{ErrorParts}
use Rattle.edit_shown.specs.declared.json.messages.Summary.{Summary}

-- members by their keys (own)
abbrev pub MessageMembers : Type 0
MessageMembers = List (List ℕ × Data)

-- the members with one more (own)
abbrev pub with_member : Members → List ℕ × Data → Members
with_member members m = put m.0 m.1 members

-- the member that each message has beside its own: the version of this format (own)
abbrev pub format_member : Members
format_member = put (codes "version") (number (unsigned 1)) no_members

-- the object of the format's version and of some members, in the byte order of their keys (own)
abbrev pub message_data : MessageMembers → Data
message_data members = object (fold with_member format_member members)

-- the text of a message: its object without spaces, and a line end (own)
abbrev pub message_text : MessageMembers → List ℕ
message_text members = compact_text (message_data members) ++ 10 ∷ []

-- the text of a reason (own)
abbrev pub reason_name : Option Reason → Option (List ℕ)
reason_name None = None
reason_name (Some reason.Latest) = Some (codes "latest")
reason_name (Some reason.Compatible) = Some (codes "compatible")
reason_name (Some reason.Incompatible) = Some (codes "incompatible")
reason_name (Some reason.Pinned) = Some (codes "pinned")
reason_name (Some reason.GitSource) = Some (codes "git")
reason_name (Some reason.PathSource) = Some (codes "local")
reason_name (Some reason.Excluded) = Some (codes "excluded")

-- the text of why a row's requirement was not raised further (own)
abbrev pub why_name : Row → Option (List ℕ)
why_name row = if is_unreadable row then Some (codes "unreadable") else reason_name row.reason

-- the text of a kind of change (own)
abbrev pub change_name : Option Change → Option (List ℕ)
change_name None = None
change_name (Some change.Explicit) = Some (codes "explicit")
change_name (Some change.Latest) = Some (codes "latest")
change_name (Some change.Compatible) = Some (codes "compatible")
change_name (Some change.Unified) = Some (codes "unified")

-- a row of a manifest's report (own)
abbrev pub row_members : List ℕ → Row → MessageMembers
row_members manifest row =
    (codes "reason", string (codes "upgrade-row"))
    ∷ (codes "manifest_path", string manifest)
    ∷ (codes "name", string (string_bytes row.name))
    ∷ (codes "rename", text_or_null (option_map string_bytes row.rename))
    ∷ (codes "place", list_data step_data row.place.items)
    ∷ (codes "old", text_or_null (option_map string_bytes row.old))
    ∷ (codes "compatible", text_or_null (option_map string_bytes row.compatible))
    ∷ (codes "latest", text_or_null (option_map string_bytes row.latest))
    ∷ (codes "new", text_or_null (option_map string_bytes row.new))
    ∷ (codes "why", text_or_null (why_name row))
    ∷ (codes "change", text_or_null (change_name row.change))
    ∷ []

-- a warning about a manifest (own)
abbrev pub warning_members : List ℕ → List ℕ → MessageMembers
warning_members manifest warning =
    (codes "reason", string (codes "upgrade-warning"))
    ∷ (codes "manifest_path", string manifest)
    ∷ (codes "message", string warning)
    ∷ []

-- a manifest that changes (own)
abbrev pub file_members : List ℕ → Bool → MessageMembers
file_members manifest written =
    (codes "reason", string (codes "upgrade-file"))
    ∷ (codes "manifest_path", string manifest)
    ∷ (codes "written", boolean written)
    ∷ []

-- what was held back for the age of versions (own)
abbrev pub held_back_members : HeldBack → MessageMembers
held_back_members held =
    (codes "reason", string (codes "upgrade-held-back"))
    ∷ (codes "younger", list_data text_data held.younger.items)
    ∷ (codes "undated", list_data text_data held.undated.items)
    ∷ (codes "registries_without_times", list_data text_data held.registries.items)
    ∷ []

-- the summary of an upgrade (own)
abbrev pub summary_members : Summary → MessageMembers
summary_members summary =
    (codes "reason", string (codes "upgrade-summary"))
    ∷ (codes "dry_run", boolean summary.dry_run)
    ∷ (codes "modified", list_data text_data summary.modified.now)
    ∷ (codes "git_crates", list_data text_data summary.git_crates.now)
    ∷ (codes "missing", list_data text_data summary.missing.now)
    ∷ (codes "pinned_present", boolean summary.pinned_present)
    ∷ (codes "incompatible_present", boolean summary.incompatible_present)
    ∷ (codes "update_calls", list_data (λ l. list_data text_data l.items) summary.update_calls.now)
    ∷ []

-- a line of `set-version`: an action and its text (own)
abbrev pub change_members : List ℕ → List ℕ → MessageMembers
change_members action message =
    (codes "reason", string (codes "set-version-change"))
    ∷ (codes "action", string action)
    ∷ (codes "message", string message)
    ∷ []

-- an error: its number and its message, and what else is known of it (own)
abbrev pub error_members : ErrorParts → MessageMembers
error_members parts =
    (codes "reason", string (codes "error"))
    ∷ (codes "number", number_or_null parts.number)
    ∷ (codes "message", string parts.message.now)
    ∷ (codes "place", text_or_null (option_map (λ t. t.now) parts.place))
    ∷ (codes "excerpt", text_or_null (option_map (λ t. t.now) parts.excerpt))
    ∷ (codes "cause", text_or_null (option_map (λ t. t.now) parts.cause))
    ∷ (codes "help", text_or_null (option_map (λ t. t.now) parts.help))
    ∷ []
