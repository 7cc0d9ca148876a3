use Rattle.std.proofs.Common.{◌≡◌, Option, Some, None, codes, refl, subst}
use Rattle.std.specs.Prelude.{IfErr, IfOk}
use Rattle.clap.specs.Words.{Text}
use Rattle.edit_version.specs.declared.levels.Level.{Level}
use Rattle.edit_program.specs.ParsedUpgrade.{level_in}
use Rattle.edit_program.proofs.ArgsLemmas.{option_text_is}
use Rattle.edit_program.proofs.upgrade_parser.level_of.Goals as goal

pub returns-clause-ok : goal.returns-clause-ok
returns-clause-ok c =
    subst (λ (o : Option Text). IfOk c.level_in.result (λ (l : Option Level). level_in o ≡ Some l))
    (option_text_is c.args.matches.now (codes "level") c.get_str.result _ refl c.get_str.ensures)
    c.level_in.ensures.ok

pub returns-clause-error : goal.returns-clause-error
returns-clause-error c =
    subst (λ (o : Option Text). IfErr c.level_in.result (λ e. level_in o ≡ None))
    (option_text_is c.args.matches.now (codes "level") c.get_str.result _ refl c.get_str.ensures)
    c.level_in.ensures.error
