use Rattle.std.proofs.Common.{Bool, Some, ap, codes, ◌∙◌}
use Rattle.std.specs.Str.{bytes_eq}
use Rattle.edit_program.proofs.ArgsLemmas.{none_is, some_is}
use Rattle.edit_program.proofs.upgrade_parser.recursive_option.Goals as goal

pub returns-in-Some : goal.returns-in-Some
returns-in-Some c = ap (λ (b : Bool). Some b) c.eq.ensures
    ∙ some_is (λ v. bytes_eq v (codes "true")) c.args.matches.now (codes "recursive") c.get_str.result
    c.in-Some.value c.in-Some.is c.get_str.ensures

pub returns-in-None : goal.returns-in-None
returns-in-None c = none_is (λ v. bytes_eq v (codes "true")) c.args.matches.now (codes "recursive")
    c.get_str.result c.in-None.is c.get_str.ensures
