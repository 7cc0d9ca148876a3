use Rattle.std.proofs.Common.{◌≡◌, ℕ, List, ◌∷◌, length, drop, sym, ap, ◌∙◌}
use Rattle.std.proofs.lemmas.Result.{IfOk-weaker}
use Rattle.edit_syntax.specs.Characters.{right_brace}
use Rattle.edit_syntax.specs.Grammar.{gap, no_members}
use Rattle.edit_syntax.specs.Reading.{past_blanks}
use Rattle.edit_tree.specs.EditBytes.{Splice, with_splice}
use Rattle.edit_rewrite.proofs.GrownInline.{empty_closes, empty_closed, blank_row, open_row}
use Rattle.edit_rewrite.proofs.InlineSuffixes.{inline_suffixes}
use Rattle.edit_rewrite.proofs.inline.with_first_member.Goals as goal

pub returns-then-begins-clause-text : goal.returns-then-begins-clause-text
returns-then-begins-clause-text c g after s h is =
    let text = c.args.text.now in
    let m = c.args.member.now in
    let close = c.past_blanks-close.result.now in
    let inner : c.behind_one-inner.result.now ≡ gap g (right_brace ∷ after) =
    c.behind_one-inner.ensures ∙ ap (λ (x : List ℕ). drop 1 x) h.spelled in
    let blanks = c.past_blanks-close.ensures ∙ ap past_blanks inner in
    let is_blank = sym (empty_closes g after close h.valid.0 blanks) ∙ sym c.begins.ensures ∙
    c.if-begins.true in
    let offsets = inline_suffixes text c.args.table.now g no_members after c.utf8.text h in
    IfOk-weaker c.with_alone.result _ _
    (λ t e. e ∙ ap (λ (x : Splice). with_splice text x) (sym (blank_row m g after s is_blank is)))
    (c.with_alone.ensures.text (gap g (right_brace ∷ after)) (right_brace ∷ after) offsets.opened offsets.close
    (ap length inner) (ap length (empty_closed g after close h.valid.0 blanks is_blank)))

pub returns-else-begins-clause-text : goal.returns-else-begins-clause-text
returns-else-begins-clause-text c g after s h is =
    let text = c.args.text.now in
    let m = c.args.member.now in
    let close = c.past_blanks-close.result.now in
    let inner : c.behind_one-inner.result.now ≡ gap g (right_brace ∷ after) =
    c.behind_one-inner.ensures ∙ ap (λ (x : List ℕ). drop 1 x) h.spelled in
    let blanks = c.past_blanks-close.ensures ∙ ap past_blanks inner in
    let is_open = sym (empty_closes g after close h.valid.0 blanks) ∙ sym c.begins.ensures ∙
    c.if-begins.false in
    let offsets = inline_suffixes text c.args.table.now g no_members after c.utf8.text h in
    IfOk-weaker c.with_lead.result _ _
    (λ t e. e ∙ ap (λ (x : Splice). with_splice text x) (sym (open_row m g after s is_open is)))
    (c.with_lead.ensures.text (gap g (right_brace ∷ after)) offsets.opened (ap length inner))
