use Rattle.std.proofs.Common.{◌∙◌, rules}
use Rattle.edit_base.specs.Errors.{IsMemory}
use Rattle.edit_document.specs.Items.{place_view}
use Rattle.edit_document.specs.NewItemViews.{new_value_view}
use Rattle.edit_tree.specs.DocumentViews.{tree_of}
use Rattle.edit_rewrite.proofs.SetBytes.{form_set}
use Rattle.edit_changes.proofs.SetValues.{set_manifest, set_tree}
use Rattle.edit_changes.proofs.document_ext.DocumentDocumentExt.set_value.Goals as goal

pub returns-in_err-self-clause-error : goal.returns-in_err-self-clause-error
returns-in_err-self-clause-error c =
    let f = c.lemma_form.ensures.some in
    let p = place_view c.args.place.now in
    let v = new_value_view c.args.value.now in
    let value_there = c.requires.is_value f.0 f.1 in
    let is = set_manifest c.args.self.now.bytes c.as_str.result.now f.0 p v f.1 value_there c.requires.room
    (c.as_str.ensures.value ∙ (c.in_ok-text.ensures {u = tt}).bytes f.0 f.1) in
    let memory : IsMemory c.in_err-self.field-0.0 = (c.in_err-self.ensures {u = tt}).only
    (form_set p v f.0) is in
    search rules

pub returns-clause-tree : goal.returns-clause-tree
returns-clause-tree c =
    let f = c.lemma_form.ensures.some in
    let p = place_view c.args.place.now in
    let v = new_value_view c.args.value.now in
    let value_there = c.requires.is_value f.0 f.1 in
    let is = set_manifest c.args.self.now.bytes c.as_str.result.now f.0 p v f.1 value_there c.requires.room
    (c.as_str.ensures.value ∙ (c.in_ok-text.ensures {u = tt}).bytes f.0 f.1) in
    set_tree c.args.self.now.bytes f.0 p v f.1 value_there (tree_of c.args.self.now) _
    (c.lemma_form.ensures.shows f.0 f.1)
    ((c.in_ok-self.ensures {u = tt}).only (form_set p v f.0) is)
