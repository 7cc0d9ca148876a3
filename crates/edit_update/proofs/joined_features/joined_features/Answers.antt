use Rattle.std.proofs.Common.{◌++◌, ap, map, string_bytes, ◌∙◌}
use Rattle.edit_tree.specs.NewItems.{a_list}
use Rattle.edit_record.specs.EachOnce.{each_once}
use Rattle.edit_record.proofs.CopiedLists.{copied_texts}
use Rattle.edit_update.proofs.joined_features.joined_features.Goals as goal

pub returns-clause-ok : goal.returns-clause-ok
returns-clause-ok c =
    let copy = copied_texts c.args.new.now c.in_ok-clone.field-0 c.in_ok-clone.ensures.cases.0 in
    ap a_list (c.in_ok-remove_duplicates.ensures
    ∙ ap each_once (ap (map string_bytes) c.deref.ensures.value ∙ c.in_ok-all.ensures
    ∙ (λ i. c.in_ok-old.ensures.ok i ++ copy i)))
