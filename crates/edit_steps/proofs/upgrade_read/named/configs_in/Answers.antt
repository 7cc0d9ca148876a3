use Rattle.edit_steps.proofs.NamedLemmas.{unread_said}
use Rattle.edit_steps.proofs.upgrade_read.named.configs_in.Goals as goal

pub returns-in-Err-clause-error : goal.returns-in-Err-clause-error
returns-in-Err-clause-error c =
    unread_said c.args.file c.in-Some.file c.as_str.result.now c.deref.result.now c.in-Err.error c.in-Some.is
    c.as_str.ensures.value c.deref.ensures.value c.in-Err.ensures.error
