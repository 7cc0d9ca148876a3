use Rattle.std.proofs.Common.{refl, inr}
use Rattle.edit_record.specs.EntryRecords.{old_default_features}
use Rattle.edit_record.proofs.dependency.members.check_spelling.Goals as goal

pub returns-in_ok-from_str-in-Some-clause-error :
    goal.returns-in_ok-from_str-in-Some-clause-error
returns-in_ok-from_str-in-Some-clause-error c =
    rw c.in-Some.ensures.2
    (inr (old_default_features c.args.dep.now, refl, c.in_ok-from_str-in-Some.ensures.ok))
