use Rattle.std.proofs.Common.{Some, ap}
use Rattle.edit_record.proofs.CopiedLists.{copied_texts}
use Rattle.edit_record.proofs.dependency.copies.clone_text_list.Goals as goal

pub returns-in_ok-clone-in-Some : goal.returns-in_ok-clone-in-Some
returns-in_ok-clone-in-Some c =
    let copy = c.in_ok-clone-in-Some in
    rw c.in-Some.is (ap Some (copied_texts c.in-Some.texts.now copy.field-0 copy.ensures.cases.0))
