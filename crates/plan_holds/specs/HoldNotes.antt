-- The notes on the crates that a policy holds (own).
use Rattle.std.specs.Prelude.{ℕ, List, [], ◌++◌, Bool, Option, Some, None, String, codes, if◌then◌else◌, string_bytes, false}
use Rattle.std.specs.List.{flat_map, list_any}
use Rattle.std.specs.Option.{option_map_or}
use Rattle.std.specs.Str.{bytes_eq}
use Rattle.std.specs.declared.alloc.Global.{Global}
use Rattle.edit_policy.specs.declared.policy.CratePolicy.{CratePolicy}
use Rattle.edit_policy.specs.declared.policy.Hold.{Hold}
use Rattle.edit_report.specs.Messages.{message_text}
use Rattle.edit_report.specs.declared.row.Row.{Row}

-- a requirement, and the reason of a hold, where it has one
abbrev pub with_reason : List ℕ → Option (String Global) → List ℕ
with_reason requirement None = requirement
with_reason requirement (Some reason) = requirement ++ (codes ": " ++ string_bytes reason)

-- the note on a crate that is held at a requirement: its name, the requirement and the reason
abbrev pub hold_text : CratePolicy → Hold → List ℕ
hold_text c hold =
    string_bytes c.name ++ (codes " is held at " ++ with_reason (string_bytes hold.text) c.reason)

-- whether one of these rows is that of a crate of this name
abbrev pub has_row : List ℕ → List Row → Bool
has_row name rows = list_any (λ r. bytes_eq (string_bytes r.name) name) rows

-- the note on a crate, where it is held and a test holds of its name (own)
abbrev pub note_where : (List ℕ → Bool) → CratePolicy → List ℕ
note_where test c =
    option_map_or (λ hold. if test (string_bytes c.name)
    then message_text false (codes "note") (hold_text c hold) else []) c.hold []

-- the note on a crate, where it is held and has one of these rows
abbrev pub hold_note : List Row → CratePolicy → List ℕ
hold_note rows c = note_where (λ name. has_row name rows) c

-- the notes on the crates that are held and have one of these rows
abbrev pub hold_notes : List Row → List CratePolicy → List ℕ
hold_notes rows crates = flat_map (hold_note rows) crates
