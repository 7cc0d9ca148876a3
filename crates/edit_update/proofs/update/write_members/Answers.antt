use Rattle.std.proofs.Common.{Option, ap}
use Rattle.std.proofs.lemmas.Result.{err_from_is_err_and}
use Rattle.std.specs.Prelude.{option_map}
use Rattle.edit_document.specs.Items.{place_view}
use Rattle.edit_document.specs.NewItemViews.{new_value_view}
use Rattle.edit_document.specs.declared.new_item.NewValue.{NewValue as WrittenValue}
use Rattle.edit_update.specs.EntryUpdates.{write_of, writes}
use Rattle.edit_update.proofs.Updates.{no_edit, one_made, one_refused, reads_changed}
use Rattle.edit_update.proofs.update.write_members.Goals as goal
use Rattle.edit_update.proofs.update.write_members.Goals.{in-Some+in_ok-write_member, in_default}

pub returns-in_err-write_member-clause-error : goal.returns-in_err-write_member-clause-error
returns-in_err-write_member-clause-error c =
    let p = err_from_is_err_and c.from_residual.result c.from_residual.ensures.1 in
    let name = c.end-item.result.name.now in
    let is_edit = ap (λ (o : Option WrittenValue). option_map (writes name) (option_map new_value_view o))
    c.in-Some.is in
    rw (p.1, p.2)
    (one_refused write_of (place_view c.args.entry.now) c.args.ends.now c.ends.end-index c.end-item.result
    c.ends-test.true c.end-item.is (writes name (new_value_view c.in-Some.value)) c.args.document.now.bytes
    c.ends.document.bytes _ is_edit c.ends.invariant c.in_err-write_member.ensures.error)

pub ends-preserved : goal.ends-preserved
ends-preserved c =
    let name = c.end-item.result.name.now in
    elim c.match-end.branch [
      | in-Some+in_ok-write_member w ↦
          let is_edit = ap (λ (o : Option WrittenValue). option_map (writes name) (option_map new_value_view o))
          w.in-Some.is in
          rw w.document-is
          (one_made write_of (place_view c.args.entry.now) c.args.ends.now c.ends.end-index c.end-item.result
          c.ends-test.true c.end-item.is (writes name (new_value_view w.in-Some.value))
          c.args.document.now.bytes c.ends.document.bytes w.write_member.new.document.bytes is_edit
          c.ends.invariant c.lemma_form.ensures.some w.in_ok-write_member.ensures.bytes
          (λ form is. reads_changed (place_view c.args.entry.now) (writes name (new_value_view w.in-Some.value))
          form w.lemma_form-in-Some.ensures.some.0 c.ends.document w.write_member.new.document
          (c.lemma_form.ensures.shows form is) w.lemma_form-in-Some.ensures.some.1
          (w.lemma_form-in-Some.ensures.shows w.lemma_form-in-Some.ensures.some.0 w.lemma_form-in-Some.ensures.some.1)
          (w.in_ok-write_member.ensures.bytes form is) (w.in_ok-write_member.ensures.tree form is)))
      | in_default w ↦
          let is_edit = ap (λ (o : Option WrittenValue). option_map (writes name) (option_map new_value_view o))
          w.in_default.is in
          rw w.document-is
          (no_edit write_of (place_view c.args.entry.now) c.args.ends.now c.ends.end-index
          c.end-item.result c.ends-test.true c.end-item.is c.args.document.now.bytes c.ends.document.bytes
          is_edit c.ends.invariant)
    ]
