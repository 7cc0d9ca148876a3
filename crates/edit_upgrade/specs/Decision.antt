-- The decision for an entry that has a requirement: its new requirement, the kind of change, and why it was
-- not raised further.
use Rattle.std.specs.Prelude.{ℕ, List, Bool, true, false, not, ◌&&◌, ◌||◌, if◌then◌else◌, Option, Some, None, Result, Ok, Err, is_some, is_ok, nat_eq, option_and_then}
use Rattle.std.specs.Cmp.Lexicographic.{pointwise}
use Rattle.std.specs.List.{list_any}
use Rattle.semver.specs.Parse.{Held, Parts, req_of}
use Rattle.semver.specs.declared.error.Error.{Error}
use Rattle.semver.specs.declared.Op.{Op}
use Rattle.semver.specs.declared.Op.TheVariants as op
use Rattle.edit_version.specs.Requirement.{UpgradeResult, Unread, Nothing, Unsupported, Text, upgrade_of}
use Rattle.edit_version.specs.Requirement.{plain_text}
use Rattle.edit_report.specs.declared.row.Change.{Change}
use Rattle.edit_report.specs.declared.row.Change.TheVariants as change
use Rattle.edit_version.specs.Floors.{is_below}
use Rattle.edit_upgrade.specs.declared.decision.options.Options.{Options}
use Rattle.edit_report.specs.declared.row.Reason.{Reason}
use Rattle.edit_report.specs.declared.row.Reason.TheVariants as reason

-- what a decision depends on
pub record Case : Type 0 where
  -- `--package` or `--exclude` leaves the entry out
  pub excluded : Bool
  pub renamed : Bool
  -- a latest version below the floor of the old requirement is not considered
  pub never_lower : Bool
  -- the requirement that a `--package` argument gives
  pub selected : Option (List ℕ)
  -- the requirement, cut before the first `+`
  pub old : List ℕ
  pub compatible : Option Parts
  pub latest : Option Parts

-- ---- pinned entries

-- operators that pin an entry: `=`, `<`, `<=` and wildcards
abbrev pub is_pin : Op → Bool
is_pin op.Exact = true
is_pin op.Less = true
is_pin op.LessEq = true
is_pin op.Wildcard = true
is_pin o = false

-- one of the parsed comparators pins the entry (own)
abbrev pub has_pin_read : Result (List Held) Error → Bool
has_pin_read (Ok cs) = list_any (λ c. is_pin c.0) cs
has_pin_read (Err e) = false

-- the entry is renamed, or one of its comparators pins it
abbrev pub is_pinned : Case → Bool
is_pinned c = c.renamed || has_pin_read (req_of c.old)

-- ---- the candidate texts

-- the two texts are the same
abbrev pub same_text : List ℕ → List ℕ → Bool
same_text a b = pointwise nat_eq a b

-- the latest version, unless its text equals that of the compatible one
abbrev pub newer : Option Parts → Option Parts → Option Parts
newer None near = None
newer (Some far) None = Some far
newer (Some far) (Some near) = if same_text (plain_text far) (plain_text near) then None else Some far

-- the raised text, or `other` where a comparator cannot be raised; none where the requirement cannot be
-- parsed
abbrev pub text_or : List ℕ → UpgradeResult → Option (List ℕ)
text_or other Unread = None
text_or other Nothing = None
text_or other (Unsupported c) = Some other
text_or other (Text t) = Some t

-- none where the test holds, else the value
abbrev pub unless : {A : Type 0} → Bool → Option A → Option A
unless true a = None
unless false a = a

-- requirements are never to be lowered, and the newer version is lower than the requirement's floor
abbrev pub is_too_low : Bool → List ℕ → Option Parts → Bool
is_too_low never old far = never && is_below old far

-- the candidate for the latest version: the raised text, or the version itself where a comparator cannot be
-- raised; none where that would lower the floor
abbrev pub latest_text : Case → Option (List ℕ)
latest_text c = unless (is_too_low c.never_lower c.old (newer c.latest c.compatible))
    (option_and_then (λ v. text_or (plain_text v) (upgrade_of c.old v)) (newer c.latest c.compatible))

-- the candidate for the compatible version: the raised text, or the old text where a comparator cannot be
-- raised
abbrev pub compatible_text : Case → Option (List ℕ)
compatible_text c = option_and_then (λ v. text_or c.old (upgrade_of c.old v)) c.compatible

-- ---- the decision

-- a `--package` argument gives a requirement, but the entry is pinned and pinned entries must not change
abbrev pub is_set_aside : Options → Case → Bool
is_set_aside o c = is_some c.selected && is_pinned c && not o.pinned

-- none where the test does not hold, else the value
abbrev pub some_if : {A : Type 0} → Bool → Option A → Option A
some_if true a = a
some_if false a = None

-- the option `pinned` decides for pinned entries, the option `incompatible` for others
abbrev pub may_jump : Options → Case → Bool
may_jump o c = if is_pinned c then o.pinned else o.incompatible

-- the outcome for an entry: unchanged since it is left out, unparsable or up to date, or one of the new
-- texts (own)
pub data Outcome : Type 0 where
  left_out : Outcome
  given : List ℕ → Outcome
  unread : Outcome
  to_latest : List ℕ → Outcome
  to_compatible : List ℕ → Outcome
  up_to_date : Outcome

-- the first outcome that applies: left out, a given text, an unparsable one, the latest, the compatible
abbrev pub first_row : Bool → Option (List ℕ) → Bool → Option (List ℕ) → Option (List ℕ) → Outcome
first_row true text read far near = left_out
first_row false (Some text) read far near = given text
first_row false None false far near = unread
first_row false None true (Some text) near = to_latest text
first_row false None true None (Some text) = to_compatible text
first_row false None true None None = up_to_date

-- the outcome for an entry under these options (own)
abbrev pub row_of : Options → Case → Outcome
row_of o c = first_row c.excluded (unless (is_set_aside o c) c.selected) (is_ok (req_of c.old))
    (some_if (may_jump o c) (latest_text c)) (some_if o.compatible (compatible_text c))

-- the new requirement of an outcome
abbrev pub row_text : List ℕ → Outcome → List ℕ
row_text old (given text) = text
row_text old (to_latest text) = text
row_text old (to_compatible text) = text
row_text old row = old

-- this kind of change, unless the text equals the old one
abbrev pub unless_old : List ℕ → List ℕ → Change → Option Change
unless_old old text kind = if same_text text old then None else Some kind

-- the kind of change of an outcome, none where the text is unchanged
abbrev pub row_change : List ℕ → Outcome → Option Change
row_change old (given text) = unless_old old text change.Explicit
row_change old (to_latest text) = unless_old old text change.Latest
row_change old (to_compatible text) = unless_old old text change.Compatible
row_change old row = None

-- there is a candidate for a later version, and the options forbid to take it
abbrev pub is_latest_withheld : Options → Case → Bool
is_latest_withheld o c = is_some (latest_text c) && not (may_jump o c)

-- why the latest version is not taken: the entry is pinned, or its requirement does not admit it (own)
abbrev pub withheld_reason : Options → Case → Option Reason
withheld_reason o c = some_if (is_latest_withheld o c) (Some (if is_pinned c then reason.Pinned
    else reason.Incompatible))

-- the first value, or the second where there is no first
abbrev pub or_else : {A : Type 0} → Option A → Option A → Option A
or_else (Some a) b = Some a
or_else None b = b

-- the reason of an outcome (own)
abbrev pub row_reason : Options → Case → Outcome → Option Reason
row_reason o c left_out = Some reason.Excluded
row_reason o c (given text) = None
row_reason o c unread = None
row_reason o c (to_latest text) = None
row_reason o c (to_compatible text) = withheld_reason o c
row_reason o c up_to_date = or_else (withheld_reason o c) (some_if (is_some (compatible_text c))
    (Some reason.Compatible))

-- the decision: the new requirement, the kind of change, and why the requirement was not raised further
-- (own)
pub record Choice : Type 0 where
  pub new : List ℕ
  pub change : Option Change
  pub reason : Option Reason

-- the first reason that applies; the last one is that the text is unchanged
abbrev pub first_reason : Outcome → Bool → Option Reason → Bool → Option Reason
first_reason left_out aside why same = why
first_reason row true why same = Some reason.Pinned
first_reason row false (Some why) same = Some why
first_reason row false None true = Some reason.Latest
first_reason row false None false = None

-- the decision for an entry (own)
abbrev pub decision : Options → Case → Choice
decision o c =
    let row = row_of o c in
    let new = row_text c.old row in
    record {
      new = new;
      change = row_change c.old row;
      reason = first_reason row (is_set_aside o c) (row_reason o c row) (same_text new c.old);
    }
