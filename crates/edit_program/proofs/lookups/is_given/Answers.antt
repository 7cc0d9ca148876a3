use Rattle.std.proofs.Common.{[], ◌∙◌, ap, codes, refl}
use Rattle.std.specs.Str.{bytes_eq}
use Rattle.edit_program.proofs.ArgsLemmas.{value_is}
use Rattle.edit_program.proofs.lookups.is_given.Goals as goal

pub returns : goal.returns
returns c = c.eq.ensures ∙ ap (λ x. bytes_eq x (codes "true"))
    (value_is c.args.matches.now c.args.id.now [] c.get_str.result c.unwrap_or.result _ c.get_str.ensures
    c.unwrap_or.ensures refl)
