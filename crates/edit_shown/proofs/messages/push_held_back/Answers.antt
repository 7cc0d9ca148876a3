use Rattle.std.proofs.Common.{◌∙◌, ◌++◌, ap, append-nil, sym}
use Rattle.std.specs.Prelude.{[], if◌then◌else◌, string_bytes}
use Rattle.edit_shown.specs.HeldBack.{lists_of}
use Rattle.edit_shown.specs.JsonMessages.{message_text}
use Rattle.edit_shown.specs.Messages.{held_back_members, held_back_message}
use Rattle.edit_shown.proofs.HeldBackLemmas.{members_are, nothing_held}
use Rattle.edit_shown.proofs.messages.push_held_back.Goals as goal

pub returns-then-is_empty-clause-text : goal.returns-then-is_empty-clause-text
returns-then-is_empty-clause-text c =
    let text = string_bytes c.args.text.now in
    let lists = lists_of c.in_ok-held.held in
    sym (append-nil text) ∙ ap (λ t. text ++ t)
    (sym (ap (λ b. if b then [] else message_text (held_back_members lists))
    (nothing_held c.in_ok-held.held _ (sym c.is_empty.ensures ∙ c.if-is_empty.true)))
    ∙ ap held_back_message c.in_ok-held.ensures)

pub returns-clause-text : goal.returns-clause-text
returns-clause-text c =
    let held = c.in_ok-held.held in
    let lists = lists_of held in
    c.in_ok-push_str.ensures.bytes ∙ ap (λ t. string_bytes c.args.text.now ++ t)
    (c.as_str.ensures.value ∙ c.in_ok-line.ensures.text ∙ ap message_text (members_are held)
    ∙ sym (ap (λ b. if b then [] else message_text (held_back_members lists))
    (nothing_held held _ (sym c.is_empty.ensures ∙ c.if-is_empty.false)))
    ∙ ap held_back_message c.in_ok-held.ensures)
