use Rattle.std.proofs.Common.{rules}
use Rattle.edit_cache.specs.RegistryAnswers.{result_in}
use Rattle.edit_cache.proofs.registry_answers.RegistryAnswers.new.Goals as goal

pub returns : goal.returns
unfolding result_in
returns c = λ name. search rules
