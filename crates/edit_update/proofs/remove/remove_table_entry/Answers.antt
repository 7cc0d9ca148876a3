use Rattle.std.proofs.Common.{◌≡◌, map, ap, sym, ◌∙◌, None, ◌⊎◌, not, subst}
use Rattle.std.proofs.lemmas.Result.{err_from_is_err_and}
use Rattle.std.specs.Prelude.{string_bytes}
use Rattle.edit_base.specs.declared.errors.Error.TheVariants.{EditRefused}
use Rattle.edit_base.specs.Errors.{IsMemory}
use Rattle.edit_tree.specs.Assertions.{IsDocument, at, key}
use Rattle.edit_document.specs.Items.{place_view}
use Rattle.edit_tree.specs.IntendedTrees.{Removed, RemoveFails}
use Rattle.edit_tree.specs.DocumentViews.{tree_of}
use Rattle.edit_update.specs.RemovedEntries.{IsEntryRemovalError}
use Rattle.edit_manifest.specs.Tables.{place_of_keys}
use Rattle.edit_update.proofs.RemovedTables.{entry_fails, found_stands, member_gone, table_fails, taken_out}
use Rattle.edit_update.proofs.remove.remove_table_entry.Goals as goal

pub returns-in_err-remove-clause-error : goal.returns-in_err-remove-clause-error
returns-in_err-remove-clause-error c =
    let path = map string_bytes c.args.table_path.now in
    let old = c.args.document.now in
    let r = place_view c.deref.result.now in
    let p = place_view c.deref-3.result.now in
    let table : r ≡ place_of_keys path = ap place_view c.deref.ensures.value ∙ c.in_ok-table.ensures.ok in
    let entry : p ≡ at r (key c.args.name.now) =
    ap place_view c.deref-3.ensures.value ∙ c.in_ok-entry.ensures.ok in
    let stands : (tree_of old p ≡ None → ⊥) =
    subst (λ q. tree_of old (place_view q) ≡ None → ⊥) (c.deref-2.ensures.value ∙ sym c.deref-3.ensures.value)
    (found_stands old (place_view c.deref-2.result.now) c.item.result c.item.ensures
    (c.is_none.ensures ∙ ap not c.if-is_none.false)) in
    let form = c.lemma_form.ensures.some in
    let same = c.in_ok-left.ensures.same in
    let why : IsEntryRemovalError path c.args.name.now old c.in_err-remove.field-0.0 =
    entry_fails path c.args.name.now old form.0 r p table entry form.1
    (c.lemma_form.ensures.shows form.0 form.1) c.in_err-remove.field-0.0
    (sym c.in_default.ensures) stands
    (subst (λ d. IsMemory c.in_err-remove.field-0.0 ⊎ ((c.in_err-remove.field-0.0 ≡ EditRefused)
    × RemoveFails p d.bytes))
    same c.in_err-remove.ensures.error) in
    let stop = c.from_residual-in_err-remove in
    let e = err_from_is_err_and stop.result stop.ensures.1 in
    rw (e.1, e.2) why

pub returns-in_err-remove_empty_table-clause-error : goal.returns-in_err-remove_empty_table-clause-error
returns-in_err-remove_empty_table-clause-error c =
    let path = map string_bytes c.args.table_path.now in
    let old = c.args.document.now in
    let r = place_view c.deref-4.result.now in
    let p = place_view c.deref-3.result.now in
    let table : r ≡ place_of_keys path = ap place_view c.deref-4.ensures.value ∙ c.in_ok-table.ensures.ok in
    let entry : p ≡ at r (key c.args.name.now) =
    ap place_view c.deref-3.ensures.value ∙ c.in_ok-entry.ensures.ok
    ∙ ap (λ q. at (place_view q) (key c.args.name.now)) (c.deref.ensures.value ∙ sym c.deref-4.ensures.value)
    in
    let stands : (tree_of old p ≡ None → ⊥) =
    subst (λ q. tree_of old (place_view q) ≡ None → ⊥) (c.deref-2.ensures.value ∙ sym c.deref-3.ensures.value)
    (found_stands old (place_view c.deref-2.result.now) c.item.result c.item.ensures
    (c.is_none.ensures ∙ ap not c.if-is_none.false)) in
    let form = c.lemma_form.ensures.some in
    let same = c.in_ok-left.ensures.same in
    let reads = subst (λ d. IsDocument d.bytes form.0) (sym same) form.1 in
    let again = c.lemma_form-2.ensures.some in
    let removed = subst (λ d. Removed form.0 p (tree_of d) (tree_of c.remove.new.self)) same
    (c.in_ok-remove.ensures.tree form.0 reads) in
    let why : IsEntryRemovalError path c.args.name.now old c.in_err-remove_empty_table.field-0.0 =
    table_fails path c.args.name.now old form.0 r p table entry form.1
    (c.lemma_form.ensures.shows form.0 form.1) c.remove.new.self again.0
    c.in_err-remove_empty_table.field-0.0
    (sym c.in_default.ensures) stands (c.in_ok-remove.ensures.bytes form.0 reads) again.1
    (c.lemma_form-2.ensures.shows again.0 again.1) removed c.in_err-remove_empty_table.ensures.error in
    let stop = c.from_residual-in_err-remove_empty_table in
    let e = err_from_is_err_and stop.result stop.ensures.1 in
    rw (e.1, e.2) why

pub returns-clause-text : goal.returns-clause-text
returns-clause-text c =
    let path = map string_bytes c.args.table_path.now in
    let old = c.args.document.now in
    let r = place_view c.deref-4.result.now in
    let p = place_view c.deref-3.result.now in
    let table : r ≡ place_of_keys path = ap place_view c.deref-4.ensures.value ∙ c.in_ok-table.ensures.ok in
    let entry : p ≡ at r (key c.args.name.now) =
    ap place_view c.deref-3.ensures.value ∙ c.in_ok-entry.ensures.ok
    ∙ ap (λ q. at (place_view q) (key c.args.name.now)) (c.deref.ensures.value ∙ sym c.deref-4.ensures.value)
    in
    let stands : (tree_of old p ≡ None → ⊥) =
    subst (λ q. tree_of old (place_view q) ≡ None → ⊥) (c.deref-2.ensures.value ∙ sym c.deref-3.ensures.value)
    (found_stands old (place_view c.deref-2.result.now) c.item.result c.item.ensures
    (c.is_none.ensures ∙ ap not c.if-is_none.false)) in
    let form = c.lemma_form.ensures.some in
    let same = c.in_ok-left.ensures.same in
    let reads = subst (λ d. IsDocument d.bytes form.0) (sym same) form.1 in
    let again = c.lemma_form-2.ensures.some in
    let removed = subst (λ d. Removed form.0 p (tree_of d) (tree_of c.remove.new.self)) same
    (c.in_ok-remove.ensures.tree form.0 reads) in
    taken_out path c.args.name.now old form.0 r p table entry form.1
    (c.lemma_form.ensures.shows form.0 form.1) c.remove.new.self _ again.0
    (sym c.in_default.ensures) stands (c.in_ok-remove.ensures.bytes form.0 reads) again.1
    (c.lemma_form-2.ensures.shows again.0 again.1) removed c.in_ok-remove_empty_table.ensures.without

pub returns-clause-gone : goal.returns-clause-gone
returns-clause-gone c =
    let path = map string_bytes c.args.table_path.now in
    let name = c.args.name.now in
    let r = place_view c.deref-4.result.now in
    let p = place_view c.deref-3.result.now in
    let table : r ≡ place_of_keys path = ap place_view c.deref-4.ensures.value ∙ c.in_ok-table.ensures.ok in
    let entry : p ≡ at r (key name) =
    ap place_view c.deref-3.ensures.value ∙ c.in_ok-entry.ensures.ok
    ∙ ap (λ q. at (place_view q) (key name)) (c.deref.ensures.value ∙ sym c.deref-4.ensures.value) in
    let form = c.lemma_form.ensures.some in
    let same = c.in_ok-left.ensures.same in
    let reads = subst (λ d. IsDocument d.bytes form.0) (sym same) form.1 in
    let removed = subst (λ q. Removed form.0 q (tree_of c.in_ok-left.left) (tree_of c.remove.new.self)) entry
    (c.in_ok-remove.ensures.tree form.0 reads) in
    ap (λ q. tree_of c.remove_empty_table.new.document (at q (key name))) (sym table)
    ∙ c.in_ok-remove_empty_table.ensures.gone path name table
    (member_gone r name form.0 (tree_of c.in_ok-left.left) (tree_of c.remove.new.self) removed)
