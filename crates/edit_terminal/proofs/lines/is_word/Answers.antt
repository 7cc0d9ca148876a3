use Rattle.std.proofs.Common.{rules, tests}
use Rattle.std.specs.Char.{is_ascii_alphabetic}
use Rattle.std.proofs.lemmas.Bool.{le-leb}
use Rattle.std.proofs.lemmas.Iterator.{YieldsList-from_slice}
use Rattle.std.proofs.lemmas.Iterator.Search.{all_from_yields_List}
use Rattle.edit_terminal.proofs.LineLemmas.{both_true}
use Rattle.edit_terminal.proofs.lines.is_word.Goals as goal

pub returns-then-text-ge1 : goal.returns-then-text-ge1
returns-then-text-ge1 c =
    both_true _ _ c.all.result (le-leb 1 _ c.if-text-ge1.true)
    (all_from_yields_List is_ascii_alphabetic _ _ c.all.result c.all.ensures.ran
    (YieldsList-from_slice c.args.text.now cc) (λ x b q k. search (rules, tests)))
