use Rattle.std.proofs.Common.{◌∙◌, ap}
use Rattle.clap.specs.Words.{found_of}
use Rattle.edit_program.specs.ParsedOptions.{is_from_arguments}
use Rattle.edit_program.proofs.ArgsLemmas.{source-rows}
use Rattle.edit_program.proofs.lookups.is_explicit.Goals as goal

pub returns : goal.returns
returns c =
    c.is_from_arguments.ensures
    ∙ ap is_from_arguments (c.value_source.ensures ∙ source-rows (found_of c.args.matches.now) c.args.id.now)
