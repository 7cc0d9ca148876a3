use Rattle.std.proofs.Common.{refl, inr}
use Rattle.edit_record.specs.EntryRecords.{unknown_source}
use Rattle.edit_record.proofs.dependency.read.workspace_source.Goals as goal

pub returns-in-Some-clause-ok : goal.returns-in-Some-clause-ok
returns-in-Some-clause-ok c = rw c.in-Some.ensures.2 c.true_workspace.ensures.ok

pub returns-in-Some-clause-error : goal.returns-in-Some-clause-error
returns-in-Some-clause-error c = rw c.in-Some.ensures.2 c.true_workspace.ensures.error

pub returns-in_ok-from_str-in-None-clause-error : goal.returns-in_ok-from_str-in-None-clause-error
returns-in_ok-from_str-in-None-clause-error c =
    rw c.in-None.ensures
    (inr (unknown_source c.args.dep.now, refl, c.in_ok-from_str-in-None.ensures.ok))
