use Rattle.std.proofs.Common.{◌∙◌, rules, sym, tests, ◌||◌}
use Rattle.std.specs.Prelude.{◌==◌}
use Rattle.std.proofs.lemmas.Iterator.{YieldsList-from_slice}
use Rattle.std.proofs.lemmas.Iterator.Search.{all_from_yields_List}
use Rattle.edit_terminal.proofs.LineLemmas.{both_true}
use Rattle.edit_terminal.proofs.lines.is_underline.Goals as goal

pub returns-then-starts_with : goal.returns-then-starts_with
returns-then-starts_with c =
    both_true _ _ c.all.result (sym c.starts_with.ensures.value ∙ c.if-starts_with.true)
    (all_from_yields_List (λ b. (b == 61) || (b == 32)) _ _ c.all.result c.all.ensures.ran
    (YieldsList-from_slice c.args.line.now cc) (λ x b q k. search (rules, tests)))
