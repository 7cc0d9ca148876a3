use Rattle.std.proofs.Common.{true, false, sym, ◌∙◌}
use Rattle.edit_syntax.specs.declared.read.syntax_tokens.TokenKind.TheVariants as kinds
use Rattle.edit_document.specs.Items.{place_view}
use Rattle.edit_rewrite.proofs.KeyWays.{says_first, last_way, more_way}
use Rattle.edit_rewrite.proofs.path_matching.+follow_key.Goals as goal

pub returns-then-not-begins_part-clause-goes : goal.returns-then-not-begins_part-clause-goes
returns-then-not-begins_part-clause-goes t c table resolve n ns h follows begins =
    last_way c.args.text.now (place_view c.args.place.now) resolve table n ns c.args.tokens.now c.args.start
    c.step_by_key-here.result c.decoded_str.result.now h (sym c.begins_part.ensures ∙
    c.if-not-begins_part.true) begins
    (c.decoded_str.ensures ∙ (c.in_ok-decoded.ensures {u = tt}).says n.0
    (says_first c.args.text.now n ns c.args.tokens.now _ h)) c.step_by_key-here.ensures

pub returns-then-is_at-clause-goes : goal.returns-then-is_at-clause-goes
returns-then-is_at-clause-goes t c table resolve n ns h follows begins =
    more_way c.args.text.now (place_view c.args.place.now) c.args.counts.now resolve table n ns
    c.args.tokens.now _ c.args.start c.step_by_key-here.result c.step_to_last_element-next.result c.decoded_str.result.now
    (c.in_ok-end.end, c.in_ok-end.front)
    (c.in_ok-end.ensures {u = tt}).goes h (sym c.begins_part.ensures ∙
    c.if-not-begins_part.false) follows begins
    (c.decoded_str.ensures ∙ (c.in_ok-decoded.ensures {u = tt}).says n.0
    (says_first c.args.text.now n ns c.args.tokens.now _ h)) c.step_by_key-here.ensures c.step_to_last_element-next.ensures
    true (sym c.if-is_at.true ∙ c.is_at.ensures)

pub returns-clause-goes : goal.returns-clause-goes
returns-clause-goes t c table resolve n ns h follows begins =
    more_way c.args.text.now (place_view c.args.place.now) c.args.counts.now resolve table n ns
    c.args.tokens.now (record { kind = kinds.Header; from = 0; to = 0 }) c.args.start c.step_by_key-here.result
    c.step_to_last_element-next.result c.decoded_str.result.now (c.in_ok-end.end, c.in_ok-end.front)
    (c.in_ok-end.ensures {u = tt}).goes h (sym c.begins_part.ensures ∙
    c.if-not-begins_part.false) follows begins
    (c.decoded_str.ensures ∙ (c.in_ok-decoded.ensures {u = tt}).says n.0
    (says_first c.args.text.now n ns c.args.tokens.now _ h)) c.step_by_key-here.ensures c.step_to_last_element-next.ensures
    false (sym c.if-is_at.false ∙ c.is_at.ensures)
