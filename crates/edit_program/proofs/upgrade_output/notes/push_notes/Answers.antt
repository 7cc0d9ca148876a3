use Rattle.std.proofs.Common.{◌≡◌, ◌∙◌, Some, ap, of_z, rules, string_bytes, subst, to_z, w8}
use Rattle.std.specs.Io.KnownBytes.{Appends}
use Rattle.std.specs.Prelude.{codes}
use Rattle.std.proofs.lemmas.Result.{on_ok_weaker}
use Rattle.edit_program.specs.Delivery.{delivery_of}
use Rattle.edit_program.specs.StderrText.{hidden_rows, hidden_note, message_if, warning}
use Rattle.edit_program.proofs.NoteLemmas.{notes_said}
use Rattle.edit_program.proofs.upgrade_output.notes.push_notes.Goals as goal

pub returns-clause-text : goal.returns-clause-text
returns-clause-text c =
    let v = c.args.task.now.options.now.verbosity in
    let known : to_z w8 (of_z w8 v) ≡ v = search rules in
    let before = Some (string_bytes c.push_note_if-2.new.text) in
    let behind = Some (string_bytes c.push_hidden.new.text) in
    let listed = Some (string_bytes c.push_list.new.text) in
    let warned = Some (string_bytes c.push_warning_if.new.text) in
    on_ok_weaker c.push_held_back.result
    (λ h. notes_said (delivery_of c.args.task.now)
    (Some (string_bytes c.args.text.now)) (Some (string_bytes c.push_note_if.new.text)) before behind
    listed warned
    (Some (string_bytes c.push_absent_note.new.text)) (Some (string_bytes c.push_held_back.new.text))
    c.in_ok-push_note_if.ensures.text c.in_ok-push_note_if-2.ensures.text
    (subst (Appends before behind)
    (ap (λ n. hidden_note n (hidden_rows n c.as_slice.result.now)) known
    ∙ ap (λ rows. hidden_note v (hidden_rows v rows)) c.as_slice.ensures.value)
    c.in_ok-push_hidden.ensures.text) c.in_ok-push_list.ensures.text
    (subst (λ due. Appends listed warned (message_if due (warning (codes "aborting upgrade due to dry run"))))
    c.is_dry_run_noted-is_noted.ensures c.in_ok-push_warning_if.ensures.text)
    c.in_ok-push_absent_note.ensures.text h)
    c.push_held_back.ensures.text
