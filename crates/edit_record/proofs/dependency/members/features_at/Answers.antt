use Rattle.std.proofs.Common.{◌≡◌, Ok, Some, ap, codes, subst}
use Rattle.std.proofs.lemmas.Result.{err_from_is_err_and}
use Rattle.edit_tree.specs.Assertions.{key}
use Rattle.edit_document.specs.ItemViews.{document_of, place_of, view_of}
use Rattle.edit_record.specs.ReadEntries.{Tree, feature_texts, ok_map}
use Rattle.edit_record.specs.RecordViews.{IsErrorOfResult, texts_view}
use Rattle.edit_record.proofs.EntryLemmas.{member_tree, failure_stays}
use Rattle.edit_record.proofs.dependency.members.features_at.Goals as goal

pub returns-in_err-feature_texts-in-Some-clause-error :
    goal.returns-in_err-feature_texts-in-Some-clause-error
returns-in_err-feature_texts-in-Some-clause-error c =
    let p = err_from_is_err_and c.from_residual.result c.from_residual.ensures.1 in
    let there = c.in-Some.ensures in
    let same = member_tree c.in-Some.item (document_of c.args.table) (place_of c.args.table)
    (key (codes "features")) there.0 there.1 in
    let P : Tree → Type 0 = λ t. IsErrorOfResult (feature_texts t c.args.dep.now (view_of c.in-Some.item))
    c.in_err-feature_texts-in-Some.field-0.0 in
    rw (p.1, p.2, there.2)
    (failure_stays _ _ _ (subst P same c.in_err-feature_texts-in-Some.ensures.error))

pub returns-in_ok-feature_texts-in-Some-clause-ok :
    goal.returns-in_ok-feature_texts-in-Some-clause-ok
returns-in_ok-feature_texts-in-Some-clause-ok c =
    let there = c.in-Some.ensures in
    let same = member_tree c.in-Some.item (document_of c.args.table) (place_of c.args.table)
    (key (codes "features")) there.0 there.1 in
    let P : Tree → Type 0 = λ t. feature_texts t c.args.dep.now (view_of c.in-Some.item)
    ≡ Ok (texts_view c.in_ok-feature_texts-in-Some.field-0) in
    rw there.2 (ap (ok_map Some) (subst P same c.in_ok-feature_texts-in-Some.ensures.ok))
