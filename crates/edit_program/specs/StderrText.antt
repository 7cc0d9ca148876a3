-- What an upgrade prints on standard error (own, after cargo-edit).
use Rattle.std.specs.Prelude.{ℕ, ℤ, pos, int_le, nat_le, List, [], ◌∷◌, ◌++◌, Bool, true, false, not, ◌&&◌, ◌||◌, ◌==◌, if◌then◌else◌, codes, filter, length, slice_get, string_bytes}
use Rattle.std.specs.BTreeSet.{insert_key}
use Rattle.std.specs.Cmp.Lexicographic.{slice_cmp}
use Rattle.std.specs.Fmt.{decimal}
use Rattle.std.specs.List.{flat_map, fold, join_by}
use Rattle.std.specs.List.Sorted.{IsNonDecreasingBy}
use Rattle.std.specs.Option.{option_map_or}
use Rattle.std.specs.Ordering.{nat_cmp}
use Rattle.std.specs.Str.{bytes_eq}
use Rattle.edit_metadata.specs.declared.input.Input.{Input}
use Rattle.edit_report.specs.Messages.{message_text}
use Rattle.edit_report.specs.ShownRows.{is_shown, is_unreadable}
use Rattle.edit_report.specs.Table.{name_text, reason_text}
use Rattle.edit_report.specs.declared.row.Row.{Row}
use Rattle.edit_shown.specs.declared.presentation.MessageFormat.{MessageFormat}
use Rattle.edit_shown.specs.declared.presentation.MessageFormat.TheVariants.{Numbered}
use Rattle.edit_upgrade.specs.UpdateCalls.{Call}
use Rattle.edit_upgrade.specs.Inputs.{below}
use Rattle.edit_upgrade.specs.declared.decision.options.Options.{Options}
use Rattle.edit_upgrade.specs.declared.upgrade.UpgradePlan.{UpgradePlan}
use Rattle.edit_upgrade.specs.declared.upgrade.Warning.{Warning}
use Rattle.plan_holds.specs.HoldNotes.{hold_notes}
use Rattle.edit_program.specs.Absent.{absent_note}
use Rattle.edit_program.specs.Delivery.{Delivery}
use Rattle.edit_program.specs.HeldBackNotes.{held_back_notes}
use Rattle.edit_program.specs.NameLists.{list_note}
use Rattle.edit_program.specs.declared.upgrade_output.name_lists.Noun.TheVariants.{Crate}

-- a warning
abbrev pub warning : List ℕ → List ℕ
warning message = message_text false (codes "warning") message

-- a note
abbrev pub note : List ℕ → List ℕ
note message = message_text false (codes "note") message

-- a report of this verbosity shows the warning, and it is about this input; verbose warnings are shown from
-- verbosity 1
abbrev pub is_warning_shown : ℤ → ℕ → Warning → Bool
is_warning_shown verbosity i w = (not w.verbose || int_le (pos 1) verbosity) && w.input == i

-- the warning, where a report of this verbosity shows it for this input
abbrev pub warning_on : ℤ → ℕ → Warning → List ℕ
warning_on verbosity i w = if is_warning_shown verbosity i w then warning (string_bytes w.text) else []

-- the warnings about an input
abbrev pub warnings_at : ℕ → List Warning → List Warning
warnings_at i warnings = filter (λ w. w.input == i) warnings

-- the warnings are in the order of their inputs
abbrev pub AreWarningsInOrder : List Warning → Type 0
AreWarningsInOrder warnings = IsNonDecreasingBy (λ w. w.input) warnings

-- the status line with the name of an input, and the warnings about it
abbrev pub input_report : ℤ → List Warning → ℕ → List ℕ → List ℕ
input_report verbosity warnings i name =
    message_text true (codes "Checking") (name ++ codes "'s dependencies")
    ++ flat_map (warning_on verbosity i) warnings

-- the status line and the warnings of the input at this index
abbrev pub input_report_at : ℤ → List Warning → List Input → ℕ → List ℕ
input_report_at verbosity warnings inputs i =
    option_map_or (λ input. input_report verbosity warnings i (string_bytes input.name))
    (slice_get inputs i) []

-- the status lines and the warnings of the first inputs, as many as this number
abbrev pub input_reports : ℤ → List Warning → List Input → ℕ → List ℕ
input_reports verbosity warnings inputs n = flat_map (input_report_at verbosity warnings inputs) (below n)

-- the status line of a call of cargo, with its arguments
abbrev pub call_status : Call → List ℕ
call_status call = message_text true (codes "Run") (join_by (λ arg. arg) (codes " ") call)

-- the calls
abbrev pub call_statuses : List Call → List ℕ
call_statuses calls = flat_map call_status calls

-- a message, where the test holds
abbrev pub message_if : Bool → List ℕ → List ℕ
message_if due message = if due then message else []

-- the reasons' texts, sorted by bytes
abbrev pub reasons : List (List ℕ)
reasons = codes "compatible" ∷ codes "excluded" ∷ codes "git" ∷ codes "incompatible" ∷ codes "latest"
    ∷ codes "local" ∷ codes "pinned" ∷ codes "unreadable" ∷ []

-- the text of a reason in notes: `latest` where the table has no text
abbrev pub or_latest : List ℕ → List ℕ
or_latest [] = codes "latest"
or_latest (c ∷ cs) = c ∷ cs

-- the text of a row's reason in notes
abbrev pub reason_in_notes : Row → List ℕ
reason_in_notes row = if is_unreadable row then codes "unreadable" else or_latest (reason_text row.reason)

-- these names with one more, sorted by bytes, without duplicates
abbrev pub with_name : List (List ℕ) → List ℕ → List (List ℕ)
with_name names name = insert_key (slice_cmp nat_cmp) names name

-- these names with that of a row, where the row has this reason
abbrev pub add_name : List ℕ → List (List ℕ) → Row → List (List ℕ)
add_name reason names row =
    if bytes_eq (reason_in_notes row) reason then with_name names
    (name_text (string_bytes row.name) row.rename)
    else names

-- the names of the rows with a reason, as tables show them: sorted by bytes, without duplicates
abbrev pub names_of : List ℕ → List Row → List (List ℕ)
names_of reason rows = fold (add_name reason) [] rows

-- names as a line lists them: at most three, or else only their number
abbrev pub names_text : List (List ℕ) → List ℕ
names_text names = if nat_le (length names) 3 then join_by (λ name. name) (codes ", ") names
    else decimal (length names) ++ codes " packages"

-- the line of a reason with these names, where there are any
abbrev pub names_line : List ℕ → List (List ℕ) → List ℕ
names_line reason [] = []
names_line reason (name ∷ names) = codes "\n  " ++ (reason ++ (codes ": " ++ names_text (name ∷ names)))

-- the line of a reason
abbrev pub reason_line : List Row → List ℕ → List ℕ
reason_line rows reason = names_line reason (names_of reason rows)

-- the first line of the note: which options show the rows
abbrev pub rerun : ℤ → List ℕ
rerun verbosity = if int_le (pos 1) verbosity
    then codes "Re-run with `--verbose --verbose` to show more dependencies"
    else codes "Re-run with `--verbose` to show more dependencies"

-- the note on rows that are not shown: which options show them, and a line for each reason
abbrev pub hidden_text : ℤ → List Row → List ℕ
hidden_text verbosity rows = rerun verbosity ++ flat_map (reason_line rows) reasons

-- the rows that a report of this verbosity does not show
abbrev pub hidden_rows : ℤ → List Row → List Row
hidden_rows verbosity rows = filter (λ row. not (is_shown verbosity row)) rows

-- the note on rows that are not shown, where there are any
abbrev pub hidden_note : ℤ → List Row → List ℕ
hidden_note verbosity [] = []
hidden_note verbosity (row ∷ rows) = note (hidden_text verbosity (row ∷ rows))

-- whether the warning of a dry run is due: not where the rows that would change are only listed
abbrev pub is_dry_run_noted : Options → MessageFormat → Bool
is_dry_run_noted options Numbered = false
is_dry_run_noted options format = options.dry_run

-- the notes on a plan, that on crates in more than one compatible range, the warning that a dry run wrote
-- nothing, the note on crates missing in the index, and the notes on what was held back for the age of
-- versions
abbrev pub notes : Delivery → List ℕ
notes d =
    message_if d.plan.pinned_present
    (note (codes "Re-run with `--pinned` to upgrade pinned version requirements"))
    ++ (message_if d.plan.incompatible_present
    (note (codes "Re-run with `--incompatible` to upgrade incompatible version requirements"))
    ++ (hidden_note d.options.verbosity (hidden_rows d.options.verbosity d.plan.rows.items)
    ++ (list_note (codes "incompatible ranges are required") Crate d.apart
    ++ (message_if (is_dry_run_noted d.options d.presentation.format)
    (warning (codes "aborting upgrade due to dry run"))
    ++ (absent_note d.plan d.options d.offline
    ++ held_back_notes d.plan d.options)))))

-- all that standard error has of a plan: the report on each input, the calls, the notes on the crates that
-- the policy holds, and the other notes
abbrev pub upgrade_stderr_text : Delivery → List ℕ
upgrade_stderr_text d =
    input_reports d.options.verbosity d.plan.warnings.items d.inputs (length d.inputs)
    ++ (call_statuses d.calls ++ (hold_notes d.plan.rows.items d.crates ++ notes d))
