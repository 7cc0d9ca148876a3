use Rattle.std.proofs.Common.{List, ℕ, ◌++◌, ap, ◌∙◌}
use Rattle.edit_rewrite.proofs.AroundValues.{part_put}
use Rattle.edit_rewrite.proofs.remove_text.with_part.Goals as goal

pub returns-clause-text : goal.returns-clause-text
returns-clause-text c w s =
    part_put c.args.text.now c.args.now.now _ _ _ c.between.result.now c.between-2.result.now w c.args.from
    c.args.to c.utf8.text s c.between.ensures c.between-2.ensures
    ((c.in_ok-push_str.ensures {u = tt}).bytes
    ∙ ap (λ (l : List ℕ). l ++ c.between.result.now) c.new-out.ensures.bytes)
    (c.in_ok-push_str-2.ensures {u = tt}).bytes
    (c.in_ok-push_str-3.ensures {u = tt}).bytes
