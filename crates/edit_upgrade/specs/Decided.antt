-- The values that a decision is made of, over the program's types.
use Rattle.std.specs.Prelude.{List, ℕ, Bool, true, false, not, ◌&&◌, if◌then◌else◌, is_some, Option, option_copied, string_bytes, Some, None}
use Rattle.edit_upgrade.specs.Decision.{Case, Choice, Outcome, first_reason, first_row, up_to_date, given, left_out, or_else, row_change, row_text, same_text, to_compatible, to_latest, unless, unread, some_if}
use Rattle.edit_upgrade.specs.declared.decision.options.Options.{Options}
use Rattle.edit_report.specs.declared.row.Reason.{Reason}
use Rattle.edit_report.specs.declared.row.Reason.TheVariants as reason
use Rattle.edit_upgrade.specs.Offers.{offered_version}
use Rattle.edit_upgrade.specs.declared.decision.decide.Decided.{Decided}
use Rattle.edit_upgrade.specs.declared.decision.decide.EntryCase.{EntryCase}

-- the case of a decision, from the program's values (own)
abbrev pub case_view : EntryCase → Bool → List ℕ → Case
case_view case never_lower old = record {
  excluded = case.excluded;
  renamed = case.renamed;
  never_lower = never_lower;
  selected = option_copied case.selected;
  old = old;
  compatible = offered_version (option_copied case.compatible);
  latest = offered_version (option_copied case.latest);
}

-- the choice of a decision, by its text (own)
abbrev pub choice_view : Decided → Choice
choice_view d = record { new = string_bytes d.new; change = d.change; reason = d.reason }

-- `withheld_reason`, from the candidate text for the latest version (own)
abbrev pub withheld_reason_by : Bool → Bool → Option (List ℕ) → Option Reason
withheld_reason_by jumps pinned far =
    some_if (is_some far && not jumps) (Some (if pinned then reason.Pinned else reason.Incompatible))

-- `row_reason`, from the candidate texts for the latest and the compatible version (own)
abbrev pub reason_by : Bool → Bool → Option (List ℕ) → Option (List ℕ) → Outcome → Option Reason
reason_by jumps pinned far near left_out = Some reason.Excluded
reason_by jumps pinned far near (given text) = None
reason_by jumps pinned far near unread = None
reason_by jumps pinned far near (to_latest text) = None
reason_by jumps pinned far near (to_compatible text) = withheld_reason_by jumps pinned far
reason_by jumps pinned far near up_to_date =
    or_else (withheld_reason_by jumps pinned far) (some_if (is_some near) (Some reason.Compatible))

-- whether an entry may be raised to the latest version: the option `pinned` decides for pinned entries, the
-- option `incompatible` for others
abbrev pub jumps_by : Options → Bool → Bool
jumps_by o pinned = if pinned then o.pinned else o.incompatible

-- the choice, from the candidate texts and the outcome (own)
abbrev pub choice_by : Options → Bool → Bool → List ℕ → Option (List ℕ) → Option (List ℕ) → Outcome → Choice
choice_by o pinned aside old far near row = record {
  new = row_text old row;
  change = row_change old row;
  reason = first_reason row aside (reason_by (jumps_by o pinned) pinned far near row)
      (same_text (row_text old row) old);
}

-- the choice for a requirement that can be parsed, where no `--package` argument sets it (own)
abbrev pub raised_choice : Options → Bool → Bool → List ℕ → Option (List ℕ) → Option (List ℕ) → Choice
raised_choice o pinned aside old far near =
    choice_by o pinned aside old far near
    (first_row false None true (some_if (jumps_by o pinned) far) (some_if o.compatible near))

-- the choice, from the candidate texts for the latest and the compatible version
abbrev pub decision_by : Options → Bool → Bool → Bool → Option (List ℕ) → List ℕ → Option (List ℕ)
    → Option (List ℕ) → Choice
decision_by o excluded pinned readable selected old far near =
    let aside = is_some selected && pinned && not o.pinned in
    choice_by o pinned aside old far near
    (first_row excluded (unless aside selected) readable (some_if (jumps_by o pinned) far)
    (some_if o.compatible near))
