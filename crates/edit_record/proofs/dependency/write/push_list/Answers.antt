use Rattle.std.proofs.Common.{List, ℕ, [], ◌∷◌, ◌++◌, ◌∙◌, ap}
use Rattle.std.proofs.lemmas.Result.{on_ok_weaker}
use Rattle.edit_tree.specs.NewItems.{a_list}
use Rattle.edit_document.specs.NewItemViews.{new_pair_views}
use Rattle.edit_record.proofs.CopiedLists.{copied_texts}
use Rattle.edit_record.proofs.dependency.write.push_list.Goals as goal

pub returns-in_ok-clone-in-Some : goal.returns-in_ok-clone-in-Some
returns-in_ok-clone-in-Some c =
    let copy = c.in_ok-clone-in-Some in
    let old = new_pair_views c.args.members.now.items in
    rw c.in-Some.is
    (on_ok_weaker c.push_value.result
    (λ h. h ∙ ap (λ (ss : List (List ℕ)). old ++ (c.args.name.now, a_list ss) ∷ [])
    (copied_texts c.in-Some.texts.now copy.field-0 copy.ensures.cases.0)) c.push_value.ensures)
