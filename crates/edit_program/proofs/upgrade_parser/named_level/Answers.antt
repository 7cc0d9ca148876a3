use Rattle.std.proofs.Common.{Some, ap, sym}
use Rattle.std.specs.Prelude.{option_map}
use Rattle.edit_version.specs.declared.levels.Level.{Level}
use Rattle.edit_program.proofs.upgrade_parser.named_level.Goals as goal

pub returns-in-Some-clause-ok : goal.returns-in-Some-clause-ok
returns-in-Some-clause-ok c = ap (option_map (λ (l : Level). Some l)) (sym c.in-Some.ensures)

pub returns-in-None-clause-error : goal.returns-in-None-clause-error
returns-in-None-clause-error c = ap (option_map (λ (l : Level). Some l)) (sym c.in-None.ensures)
