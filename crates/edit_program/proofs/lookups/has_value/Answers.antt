use Rattle.std.proofs.Common.{◌∙◌}
use Rattle.edit_program.proofs.ArgsLemmas.{is_there}
use Rattle.edit_program.proofs.lookups.has_value.Goals as goal

pub returns : goal.returns
returns c = c.is_some.ensures ∙ is_there c.args.matches.now c.args.id.now c.get_str.result c.get_str.ensures
