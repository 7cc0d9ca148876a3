use Rattle.std.proofs.Common.{◌≡◌, Ok, Result, ap, subst, sym, ◌∙◌}
use Rattle.std.specs.Prelude.{IfOk}
use Rattle.edit_document.specs.ItemViews.{view_of}
use Rattle.edit_record.specs.EntryRecords.{EntryRecord, EntryError}
use Rattle.edit_record.specs.ReadEntries.{entry_record}
use Rattle.edit_record.specs.RecordViews.{record_view, item_tree}
use Rattle.edit_record.proofs.EntryLemmas.{no_entry, table_entry}
use Rattle.edit_record.proofs.dependency.Dependency.from_toml.Goals as goal

pub returns-in_ok-from_str-in-None-clause-error : goal.returns-in_ok-from_str-in-None-clause-error
returns-in_ok-from_str-in-None-clause-error c =
    rw c.lemma_exists.ensures
    (no_entry (item_tree c.args.item) c.args.crate_root.now c.args.key.now (view_of c.args.item) _
    c.in-None.ensures (sym c.if-is_table_like.ensures) c.in_ok-from_str-in-None.ensures.ok)

pub returns-then-is_table_like-clause-record : goal.returns-then-is_table_like-clause-record
returns-then-is_table_like-clause-record c =
    let item = item_tree c.args.item in
    let root = c.args.crate_root.now in
    let dep = c.args.key.now in
    let same = ap (entry_record item root dep) c.lemma_exists.ensures
    ∙ table_entry item root dep (view_of c.args.item) (sym c.if-is_table_like.ensures) in
    subst (λ (x : Result EntryRecord EntryError). IfOk c.table_record.result (λ d. x ≡ Ok (record_view d)))
    (sym same)
    c.table_record.ensures.ok
