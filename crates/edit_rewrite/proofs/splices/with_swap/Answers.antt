use Rattle.std.proofs.Common.{List, ℕ, ◌++◌, ap, ◌∙◌}
use Rattle.edit_rewrite.proofs.SuffixTexts.{text_swapped}
use Rattle.edit_rewrite.proofs.splices.with_swap.Goals as goal

pub returns-clause-text : goal.returns-clause-text
returns-clause-text c s t at_s at_t is_s is_t =
    text_swapped c.args.text.now s t c.args.now.now _ _ _ c.between.result.now c.between-2.result.now
    c.args.from c.args.to c.utf8.text at_s at_t is_s is_t c.between.ensures c.between-2.ensures
    ((c.in_ok-push_str.ensures {u = tt}).bytes
    ∙ ap (λ (l : List ℕ). l ++ c.between.result.now) c.new-out.ensures.bytes)
    (c.in_ok-push_str-2.ensures {u = tt}).bytes (c.in_ok-push_str-3.ensures {u = tt}).bytes
