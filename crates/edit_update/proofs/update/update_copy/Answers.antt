use Rattle.std.proofs.Common.{sym, subst, ◌∙◌, inl, inr}
use Rattle.std.proofs.lemmas.Bool.{and_parts}
use Rattle.std.proofs.lemmas.Result.{IfErr-weaker, IfOk-weaker, err_from_is_err_and}
use Rattle.std.specs.List.{filter_map}
use Rattle.edit_document.specs.Items.{place_view}
use Rattle.edit_tree.specs.IntendedTrees.{ReplaceFails}
use Rattle.edit_tree.specs.NewItems.{IsEntry}
use Rattle.edit_update.specs.FinalValueViews.{final_values_view}
use Rattle.edit_update.specs.EntryUpdates.{removal_of, replaced_by, write_of}
use Rattle.edit_record.specs.RecordViews.{record_view}
use Rattle.edit_update.specs.UpdatedTexts.{HasFailedUpdate, Changed, IsUpdatedText, OneFails}
use Rattle.edit_update.proofs.Updates.{is_entry, item_changed, item_other, reads_replaced, stops_before, stops_behind, then_others}
use Rattle.edit_update.proofs.update.update_copy.Goals as goal

pub replace_entry-requires-clause-one : goal.replace_entry-requires-clause-one
replace_entry-requires-clause-one c = λ form is.
    (and_parts _ _ (sym (c.is_replaced.ensures form is) ∙ c.if-is_replaced.true)).0

pub replace_entry-requires-clause-entry : goal.replace_entry-requires-clause-entry
replace_entry-requires-clause-entry c =
    subst IsEntry (sym c.in_ok-new.ensures.item) (is_entry c.args.crate_root.now
    (record_view c.args.dependency.now))

pub returns-then-is_replaced-clause-text : goal.returns-then-is_replaced-clause-text
returns-then-is_replaced-clause-text c form is =
    let place = place_view c.args.entry.now in
    let old = c.args.document.now in
    let new = c.replace_entry.new.self in
    let again = c.lemma_form-then-is_replaced.ensures.some in
    let bytes = c.in_ok-replace_entry.ensures.bytes form is in
    let becomes = item_other c.args.document.now form place c.args.crate_root.now
    (record_view c.args.dependency.now) _ _ (c.lemma_form.ensures.shows form is) c.in-Some.ensures.2
    (c.is_replaced.ensures form is) c.if-is_replaced.true in
    subst (λ u. IsUpdatedText place u form old.bytes new.bytes) (sym becomes)
    (subst (λ i. IsUpdatedText place (replaced_by i) form old.bytes new.bytes) c.in_ok-new.ensures.item (
      bytes,
      reads_replaced place _ form again.0 old new (c.lemma_form.ensures.shows form is) again.1
          (c.lemma_form-then-is_replaced.ensures.shows again.0 again.1) bytes c.in_ok-replace_entry.ensures.tree,
    ))

pub returns-in_err-replace_entry-clause-error : goal.returns-in_err-replace_entry-clause-error
returns-in_err-replace_entry-clause-error c =
    let stop = c.from_residual-in_err-replace_entry in
    let p = err_from_is_err_and stop.result stop.ensures.1 in
    rw (p.1, p.2)
    (elim c.in_err-replace_entry.ensures.error [
      | inl memory ↦ inl memory
      | inr p ↦ inr (
        p.0,
        λ form is.
            let place = place_view c.args.entry.now in
            let becomes = item_other c.args.document.now form place c.args.crate_root.now
            (record_view c.args.dependency.now) _ _ (c.lemma_form.ensures.shows form is) c.in-Some.ensures.2
            (c.is_replaced.ensures form is) c.if-is_replaced.true in
            subst (λ u. HasFailedUpdate place u c.args.document.now.bytes) (sym becomes)
            (subst (λ i. ReplaceFails place i c.args.document.now.bytes) c.in_ok-new.ensures.item p.1),
      )
    ])

pub returns-in_err-write_members-clause-error : goal.returns-in_err-write_members-clause-error
returns-in_err-write_members-clause-error c =
    let stop = c.from_residual-in_err-write_members in
    let p = err_from_is_err_and stop.result stop.ensures.1 in
    rw (p.1, p.2)
    (elim c.in_err-write_members.ensures.error [
      | inl memory ↦ inl memory
      | inr h ↦ inr (
        h.0,
        λ form is.
            let place = place_view c.args.entry.now in
            let all = c.in_ok-ends.ends.items in
            let becomes = item_changed c.in-Some.item c.args.document.now form place c.args.crate_root.now
            (record_view c.args.dependency.now) (final_values_view all) _ _ (c.lemma_form.ensures.shows form is)
            c.in-Some.ensures.0
            c.in-Some.ensures.1 c.in_ok-ends.ensures.ok c.in-Some.ensures.2 (c.is_replaced.ensures form is)
            c.if-is_replaced.false in
            subst (λ u. HasFailedUpdate place u c.args.document.now.bytes) (sym becomes)
            (stops_before place (filter_map write_of (final_values_view all)) (filter_map removal_of (final_values_view all))
            c.args.document.now.bytes
            (subst (λ l. OneFails place (filter_map write_of (final_values_view l)) c.args.document.now.bytes)
            c.as_slice.ensures.value h.1)),
      )
    ])

pub returns-clause-text : goal.returns-clause-text
returns-clause-text c =
    IfOk-weaker c.remove_members.result _ _
    (λ x h. λ form is.
    let place = place_view c.args.entry.now in
    let all = c.in_ok-ends.ends.items in
    let old = c.args.document.now.bytes in
    let mid = c.write_members.new.document.bytes in
    let new = c.remove_members.new.document.bytes in
    let becomes = item_changed c.in-Some.item c.args.document.now form place c.args.crate_root.now
    (record_view c.args.dependency.now) (final_values_view all) _ _ (c.lemma_form.ensures.shows form is) c.in-Some.ensures.0
    c.in-Some.ensures.1 c.in_ok-ends.ensures.ok c.in-Some.ensures.2 (c.is_replaced.ensures form is)
    c.if-is_replaced.false in
    subst (λ u. IsUpdatedText place u form old new) (sym becomes)
    (then_others place (filter_map write_of (final_values_view all)) (filter_map removal_of (final_values_view all))
    old mid new
    (subst (λ l. Changed place (filter_map write_of (final_values_view l)) old mid)
    c.as_slice.ensures.value c.in_ok-write_members.ensures.changed)
    (subst (λ l. Changed place (filter_map removal_of (final_values_view l)) mid new)
    c.as_slice-2.ensures.value h)))
    c.remove_members.ensures.changed

pub returns-clause-error : goal.returns-clause-error
returns-clause-error c =
    IfErr-weaker c.remove_members.result _ _
    (λ e h. elim h [
      | inl memory ↦ inl memory
      | inr p ↦ inr (
        p.0,
        λ form is.
            let place = place_view c.args.entry.now in
            let all = c.in_ok-ends.ends.items in
            let old = c.args.document.now.bytes in
            let mid = c.write_members.new.document.bytes in
            let becomes = item_changed c.in-Some.item c.args.document.now form place c.args.crate_root.now
            (record_view c.args.dependency.now) (final_values_view all) _ _ (c.lemma_form.ensures.shows form is)
            c.in-Some.ensures.0
            c.in-Some.ensures.1 c.in_ok-ends.ensures.ok c.in-Some.ensures.2 (c.is_replaced.ensures form is)
            c.if-is_replaced.false in
            subst (λ u. HasFailedUpdate place u old) (sym becomes)
            (stops_behind place (filter_map write_of (final_values_view all)) (filter_map removal_of (final_values_view all))
            old mid
            (subst (λ l. Changed place (filter_map write_of (final_values_view l)) old mid)
            c.as_slice.ensures.value c.in_ok-write_members.ensures.changed)
            (subst (λ l. OneFails place (filter_map removal_of (final_values_view l)) mid)
            c.as_slice-2.ensures.value p.1)),
      )
    ]) c.remove_members.ensures.error
