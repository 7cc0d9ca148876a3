use Rattle.std.proofs.Common.{◌∙◌, ◌++◌, List, ap, string_bytes, take, ℕ}
use Rattle.std.proofs.lemmas.List.{append_assoc}
use Rattle.std.specs.List.{flat_map}
use Rattle.edit_report.specs.NameSets.{has_name}
use Rattle.plan_holds.specs.HoldNotes.{note_where}
use Rattle.plan_holds.proofs.NoteLemmas.{notes_more}
use Rattle.plan_holds.proofs.hold_notes.push_holds.Goals as goal

pub loop-held-preserved : goal.loop-held-preserved
loop-held-preserved c =
    let before = string_bytes c.args.text.now in
    let note = note_where (has_name c.in_ok-names.names) in
    c.in_ok-push_hold.ensures
    ∙ ap (λ (text : List ℕ). text ++ note c.held-item.result) c.loop-held.invariant
    ∙ append_assoc before (flat_map note (take c.loop-held.held-index c.args.crates.now))
    (note c.held-item.result)
    ∙ ap (λ (text : List ℕ). before ++ text)
    (notes_more note c.args.crates.now c.loop-held.held-index c.held-item.result _ c.loop-held-test.true
    c.held-item.is)
