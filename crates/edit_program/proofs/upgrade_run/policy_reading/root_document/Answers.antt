use Rattle.std.specs.Prelude.{option_copied}
use Rattle.edit_program.proofs.PolicyLemmas.{root_parsed}
use Rattle.edit_program.proofs.upgrade_run.policy_reading.root_document.Goals as goal

pub returns-in-None : goal.returns-in-None
returns-in-None c = λ root is.
    root_parsed c.args.target.now c.deref.result.now (option_copied c.first.result) root c.in-None.is
    c.deref.ensures.value c.first.ensures.value c.requires.documents is
