use Rattle.std.proofs.Common.{not, rules, tests}
use Rattle.std.specs.Prelude.{◌==◌}
use Rattle.std.proofs.lemmas.Iterator.{YieldsList-from_slice}
use Rattle.std.proofs.lemmas.Iterator.Search.{position_from_yields_List}
use Rattle.edit_terminal.proofs.LineLemmas.{spaces_alone, spaces_found}
use Rattle.edit_terminal.proofs.lines.without_spaces.Goals as goal

pub returns-in-Some : goal.returns-in-Some
returns-in-Some c =
    spaces_found c.args.text.now c.position.result c.in-Some.count
    (position_from_yields_List (λ b. not (b == 32)) _ _ c.position.result c.position.ensures.ran
    (YieldsList-from_slice c.args.text.now cc) (λ x b q k. search (rules, tests)))
    c.in-Some.is

pub returns-in-None : goal.returns-in-None
returns-in-None c =
    spaces_alone c.args.text.now c.position.result
    (position_from_yields_List (λ b. not (b == 32)) _ _ c.position.result c.position.ensures.ran
    (YieldsList-from_slice c.args.text.now cc) (λ x b q k. search (rules, tests)))
    c.in-None.is
