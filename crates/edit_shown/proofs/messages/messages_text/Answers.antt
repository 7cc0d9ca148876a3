use Rattle.std.proofs.Common.{◌∙◌, ◌++◌, ap}
use Rattle.std.specs.Prelude.{string_bytes}
use Rattle.std.specs.List.{flat_map}
use Rattle.edit_shown.specs.Messages.{call_texts, row_message}
use Rattle.edit_shown.proofs.MessageLemmas.{messages_all}
use Rattle.edit_shown.proofs.messages.messages_text.Goals as goal

pub returns-clause-text : goal.returns-clause-text
returns-clause-text c =
    messages_all c.args.plan.now c.args.inputs.now c.args.options.now (call_texts c.args.calls.now)
    c.as_slice.result.now c.as_slice-2.result.now c.as_slice-3.result.now
    (string_bytes c.push_rows.new.text) (string_bytes c.push_warnings.new.text)
    (string_bytes c.push_files.new.text) (string_bytes c.push_held_back.new.text)
    (string_bytes c.push_summary.new.text)
    c.as_slice.ensures.value c.as_slice-2.ensures.value c.as_slice-3.ensures.value
    (c.in_ok-push_rows.ensures.text
    ∙ ap (λ t. t ++ flat_map (row_message c.args.inputs.now) c.as_slice.result.now) c.new-text.ensures.bytes)
    c.in_ok-push_warnings.ensures.text
    c.in_ok-push_files.ensures.text c.in_ok-push_held_back.ensures.text c.in_ok-push_summary.ensures.text
