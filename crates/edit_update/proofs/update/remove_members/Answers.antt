use Rattle.std.proofs.Common.{ap, not, ◌∙◌}
use Rattle.std.proofs.lemmas.Result.{err_from_is_err_and}
use Rattle.edit_document.specs.Items.{place_view}
use Rattle.edit_update.specs.EntryUpdates.{removal_of, removes}
use Rattle.edit_update.proofs.Updates.{is_remaining, is_removed, no_edit, one_made, one_refused, reads_changed}
use Rattle.edit_update.proofs.update.remove_members.Goals as goal
use Rattle.edit_update.proofs.update.remove_members.Goals.{then-is_none+in_ok-remove_member, else-is_none}

pub returns-in_err-remove_member-clause-error : goal.returns-in_err-remove_member-clause-error
returns-in_err-remove_member-clause-error c =
    let p = err_from_is_err_and c.from_residual.result c.from_residual.ensures.1 in
    let end = c.end-item.result in
    let is_edit = is_removed end.name.now end.value (c.is_none.ensures ∙ ap not c.if-is_none.true) in
    rw (p.1, p.2)
    (one_refused removal_of (place_view c.args.entry.now) c.args.ends.now c.ends.end-index end
    c.ends-test.true c.end-item.is (removes end.name.now) c.args.document.now.bytes
    c.ends.document.bytes _ is_edit c.ends.invariant c.in_err-remove_member.ensures.error)

pub ends-preserved : goal.ends-preserved
ends-preserved c =
    let end = c.end-item.result in
    elim c.if-is_none.branch [
      | then-is_none+in_ok-remove_member w ↦
          let is_edit = is_removed end.name.now end.value (c.is_none.ensures ∙ ap not w.if-is_none.true) in
          rw w.document-is
          (one_made removal_of (place_view c.args.entry.now) c.args.ends.now c.ends.end-index end
          c.ends-test.true c.end-item.is (removes end.name.now)
          c.args.document.now.bytes c.ends.document.bytes w.remove_member.new.document.bytes is_edit
          c.ends.invariant c.lemma_form.ensures.some w.in_ok-remove_member.ensures.bytes
          (λ form is. reads_changed (place_view c.args.entry.now) (removes end.name.now)
          form w.lemma_form-then-is_none.ensures.some.0 c.ends.document w.remove_member.new.document
          (c.lemma_form.ensures.shows form is) w.lemma_form-then-is_none.ensures.some.1
          (w.lemma_form-then-is_none.ensures.shows w.lemma_form-then-is_none.ensures.some.0 w.lemma_form-then-is_none.ensures.some.1)
          (w.in_ok-remove_member.ensures.bytes form is) (w.in_ok-remove_member.ensures.tree form is)))
      | else-is_none w ↦
          let is_edit = is_remaining end.name.now end.value (c.is_none.ensures ∙ ap not w.if-is_none.false) in
          rw w.document-is
          (no_edit removal_of (place_view c.args.entry.now) c.args.ends.now c.ends.end-index
          end c.ends-test.true c.end-item.is c.args.document.now.bytes c.ends.document.bytes
          is_edit c.ends.invariant)
    ]
