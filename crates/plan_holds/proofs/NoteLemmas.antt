-- Notes by a set of the names of rows.
use Rattle.std.proofs.Common.{◌≡◌, ◌∙◌, ◌+◌, ◌<◌, ◌++◌, ◌∷◌, [], ℕ, List, Bool, Option, Some, ap, append-nil, codes, false, get_or, length, string_bytes, sym, take}
use Rattle.std.specs.Prelude.{if◌then◌else◌}
use Rattle.std.specs.List.{flat_map}
use Rattle.std.specs.Option.{option_map_or}
use Rattle.std.proofs.lemmas.Grind.{flat_map-append}
use Rattle.std.proofs.lemmas.List.{take_more}
use Rattle.edit_policy.specs.declared.policy.CratePolicy.{CratePolicy}
use Rattle.edit_policy.specs.declared.policy.Hold.{Hold}
use Rattle.edit_report.specs.Messages.{message_text}
use Rattle.plan_holds.specs.HoldNotes.{hold_text, note_where}

-- the note on a held crate, by whether a test holds of its name
pub note_at : (test : List ℕ → Bool) (c : CratePolicy) (hold : Hold) (b : Bool) → c.hold ≡ Some hold
    → test (string_bytes c.name) ≡ b
    → note_where test c ≡ (if b then message_text false (codes "note") (hold_text c hold) else [])
note_at test c hold b is tested =
    ap (λ (o : Option Hold). option_map_or (λ h. if test (string_bytes c.name)
    then message_text false (codes "note") (hold_text c h) else []) o []) is
    ∙ ap (λ (x : Bool). if x then message_text false (codes "note") (hold_text c hold) else []) tested

-- the note on one more crate
pub notes_more : (note : CratePolicy → List ℕ) (crates : List CratePolicy) (i : ℕ) (c d : CratePolicy)
    → i < length crates → c ≡ get_or crates i d
    → flat_map note (take i crates) ++ note c ≡ flat_map note (take (i + 1) crates)
notes_more note crates i c d lt is = sym (
    ap (flat_map note) (take_more crates i d lt ∙ ap (λ (x : CratePolicy). take i crates ++ x ∷ []) (sym is))
    ∙ flat_map-append note (take i crates) (c ∷ [])
    ∙ ap (λ (notes : List ℕ). flat_map note (take i crates) ++ notes) (append-nil (note c)))
