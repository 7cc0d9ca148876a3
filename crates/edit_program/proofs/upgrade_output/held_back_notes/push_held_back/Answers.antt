use Rattle.std.proofs.Common.{Some, string_bytes}
use Rattle.edit_program.proofs.HeldBackNoteLemmas.{held_back_said}
use Rattle.edit_program.proofs.upgrade_output.held_back_notes.push_held_back.Goals as goal

pub returns-clause-text : goal.returns-clause-text
returns-clause-text c =
    held_back_said c.args.plan.now c.args.options.now c.in_ok-held.held c.as_slice.result.now
    c.as_slice-2.result.now c.as_slice-3.result.now (Some (string_bytes c.args.text.now))
    (Some (string_bytes c.push_list.new.text)) (Some (string_bytes c.push_list-2.new.text))
    (Some (string_bytes c.push_list-3.new.text)) c.in_ok-held.ensures c.as_slice.ensures.value
    c.as_slice-2.ensures.value c.as_slice-3.ensures.value c.in_ok-push_list.ensures.text
    c.in_ok-push_list-2.ensures.text c.in_ok-push_list-3.ensures.text
