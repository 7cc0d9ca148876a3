use Rattle.std.proofs.Common.{◌≡◌, [], sym, ◌∙◌, ◌⊎◌, inl, inr, ⊎_elim, subst}
use Rattle.std.proofs.lemmas.Result.{err_from_is_err_and}
use Rattle.edit_base.specs.declared.errors.Error.TheVariants.{EditRefused}
use Rattle.edit_base.specs.Errors.{IsMemory}
use Rattle.edit_document.specs.Items.{place_view}
use Rattle.edit_tree.specs.DocumentViews.{tree_of}
use Rattle.edit_update.specs.Removals.{HasFailedRemoval, IsTextWithout, none}
use Rattle.edit_update.specs.RemovedEntries.{empty_table_place}
use Rattle.edit_update.proofs.RemovedTables.{bare_none, bare_root, bare_some, inner_gone, root_is, root_not}
use Rattle.edit_update.proofs.RemovalSteps.{first_stays, shown_removed, without_one}
use Rattle.edit_update.proofs.remove.remove_empty_table.Goals as goal

pub returns-then-is_empty-clause-without : goal.returns-then-is_empty-clause-without
returns-then-is_empty-clause-without c =
    let bytes = c.args.document.now.bytes in
    subst (λ ps. IsTextWithout ps bytes bytes)
    (sym (bare_root (tree_of c.args.document.now) (place_view c.args.table.now)
    (root_is c.args.table.now (sym c.is_empty.ensures ∙ c.if-is_empty.true))))
    (none bytes)

pub returns-then-not-is_empty_table-clause-without : goal.returns-then-not-is_empty_table-clause-without
returns-then-not-is_empty_table-clause-without c =
    let bytes = c.args.document.now.bytes in
    let place = place_view c.args.table.now in
    let is = c.is_empty_table.ensures c.args.document.now place c.item.ensures in
    subst (λ ps. IsTextWithout ps bytes bytes)
    (sym (bare_none (tree_of c.args.document.now) place (sym is ∙ c.if-not-is_empty_table.true))) (none bytes)

pub returns-clause-without : goal.returns-clause-without
returns-clause-without c =
    let old = c.args.document.now in
    let new = c.remove.new.self in
    let place = place_view c.args.table.now in
    let is = c.is_empty_table.ensures old place c.item.ensures in
    let form = c.lemma_form.ensures.some in
    let again = c.lemma_form-2.ensures.some in
    subst (λ ps. IsTextWithout ps old.bytes new.bytes)
    (sym (bare_some (tree_of old) place (root_not c.args.table.now
    (sym c.is_empty.ensures ∙ c.if-is_empty.false)) (sym is ∙ c.if-not-is_empty_table.false)))
    (without_one place form.0 again.0 old.bytes new.bytes form.1 (c.in_ok-remove.ensures.bytes form.0 form.1)
    again.1
    (shown_removed form.0 again.0 place old new (c.lemma_form.ensures.shows form.0 form.1)
    (c.lemma_form-2.ensures.shows again.0 again.1) (c.in_ok-remove.ensures.tree form.0 form.1)))

pub returns-clause-gone : goal.returns-clause-gone
returns-clause-gone c path name e absent =
    let form = c.lemma_form.ensures.some in
    inner_gone path (place_view c.args.table.now) name form.0 (tree_of c.args.document.now)
    (tree_of c.remove.new.self) e (root_not c.args.table.now (sym c.is_empty.ensures ∙ c.if-is_empty.false))
    (c.in_ok-remove.ensures.tree form.0 form.1)

pub returns-in_err-remove-clause-error : goal.returns-in_err-remove-clause-error
returns-in_err-remove-clause-error c =
    let old = c.args.document.now in
    let place = place_view c.args.table.now in
    let is = c.is_empty_table.ensures old place c.item.ensures in
    let why : IsMemory c.in_err-remove.field-0.0 ⊎ ((c.in_err-remove.field-0.0 ≡ EditRefused)
    × HasFailedRemoval (empty_table_place (tree_of old) place) old.bytes) =
    ⊎_elim (λ m. inl m)
    (λ r. inr (
      r.0,
      subst (λ ps. HasFailedRemoval ps old.bytes)
          (sym (bare_some (tree_of old) place (root_not c.args.table.now
          (sym c.is_empty.ensures ∙ c.if-is_empty.false)) (sym is ∙ c.if-not-is_empty_table.false)))
          (first_stays place [] old.bytes r.1),
    ))
    c.in_err-remove.ensures.error in
    let stop = c.from_residual in
    let e = err_from_is_err_and stop.result stop.ensures.1 in
    rw (e.1, e.2) why
