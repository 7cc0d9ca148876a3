use Rattle.edit_record.proofs.CopiedLists.{copied_entries}
use Rattle.edit_record.proofs.dependency.Dependency.try_clone.Goals as goal

pub returns-clause-preserved : goal.returns-clause-preserved
returns-clause-preserved c = copied_entries _ _ c.in_ok-clone-2.ensures.cases
