use Rattle.std.proofs.Common.{◌∙◌, List, ap, length, map, subst, sym}
use Rattle.std.specs.BTreeSet.{contains_text}
use Rattle.std.specs.List.{filter_map}
use Rattle.std.specs.Prelude.{option_map}
use Rattle.edit_version.specs.RustVersions.{numbers_of}
use Rattle.edit_cache.specs.IndexCache.{index_of}
use Rattle.edit_manifest.specs.EntryViews.{entry_view}
use Rattle.edit_upgrade.specs.Caches.{cache_view}
use Rattle.edit_upgrade.specs.Found.{row_entry_view}
use Rattle.edit_upgrade.specs.Lines.{line_of}
use Rattle.edit_upgrade.specs.Lists.{warning_view}
use Rattle.edit_upgrade.specs.Lookups.{cached_basis, cached_by}
use Rattle.edit_upgrade.specs.PlannedView.{AreRowEntries}
use Rattle.edit_upgrade.specs.Records.{with_row}
use Rattle.edit_upgrade.specs.declared.planned.Planned.{Planned}
use Rattle.edit_upgrade.specs.declared.entries_with_rows.Entry.{Entry}
use Rattle.edit_upgrade.proofs.PlannedLemmas.{document-seen, planned-left, planned-names, planned-fails, planned-shown, planned-walked, planned-warnings, failure-has, rows-long}
use Rattle.edit_upgrade.proofs.planned.plan_input.Goals as goal

pub returns-clause-shown : goal.returns-clause-shown
returns-clause-shown g c =
    let p : Planned = record {
      entries = c.in_ok-entries.entries;
      rows = c.in_ok-rows.rows;
      warnings = c.in_ok-warnings.warnings;
    } in
    planned-shown c.args.job.input.now.bytes.items c.args.document.now p c.requires.document
    c.lemma_form.ensures.some c.lemma_form.ensures.shows
    (c.in_ok-entries.ensures.ok ∙ ap (filter_map with_row) c.in_ok-found.ensures.ok)
    (rows-long (cached_basis c.args.job.number c.args.job.parsed.options.now
    (option_map numbers_of c.args.job.input.now.rust_version) c.args.addresses.now.configs.now
    (cached_by c.walk.new.index)) c.deref-3.result.now c.in_ok-rows.rows.items c.in_ok-rows.ensures.rows
    ∙ ap length c.deref-3.ensures.value)

pub returns-clause-warnings : goal.returns-clause-warnings
returns-clause-warnings g c =
    planned-warnings c.args.job.parsed.options.now c.args.job.number c.args.job.input.now.bytes.items c.args.document.now
    (map entry_view c.deref.result.now)
    (map warning_view c.in_ok-warnings.warnings.items) c.requires.document c.lemma_form.ensures.some
    c.lemma_form.ensures.shows
    (ap (map entry_view) c.deref.ensures.value ∙ c.in_ok-found.ensures.ok) c.in_ok-warnings.ensures.texts

pub returns-clause-known : goal.returns-clause-known
returns-clause-known g c =
    planned-names c.args.job.parsed.options.now c.args.job.input.now.bytes.items c.args.document.now
    (map entry_view c.deref-2.result.now) (contains_text c.args.known.now)
    (contains_text c.add_names.new.known) c.requires.document c.lemma_form.ensures.some c.lemma_form.ensures.shows
    (ap (map entry_view) c.deref-2.ensures.value ∙ c.in_ok-found.ensures.ok) c.in_ok-add_names.ensures.ok

pub returns-clause-walked : goal.returns-clause-walked
returns-clause-walked g c =
    let seen = subst (λ (xs : List Entry). AreRowEntries c.args.job.input.now.bytes.items (map row_entry_view xs))
    (sym c.deref-3.ensures.value)
    (document-seen c.args.job.input.now.bytes.items c.args.document.now
    (map row_entry_view c.in_ok-entries.entries.items) c.requires.document
    c.lemma_form.ensures.some c.lemma_form.ensures.shows
    (c.in_ok-entries.ensures.ok ∙ ap (filter_map with_row) c.in_ok-found.ensures.ok)) in
    planned-walked c.args.job.number c.args.job.parsed.options.now c.args.job.input.now
    c.args.addresses.now.configs.now (g.I.Index.view (index_of c.args.index.now)).gives
    (cached_by c.args.index.now) (cached_by c.walk.new.index) c.args.books.now c.walk.new.books
    (map row_entry_view c.deref-3.result.now) (map line_of c.in_ok-rows.rows.items) seen
    c.in_ok-rows.ensures.steps c.in_ok-rows.ensures.passed c.in_ok-rows.ensures.rows

pub returns-clause-left : goal.returns-clause-left
returns-clause-left g c =
    let seen = subst (λ (xs : List Entry). AreRowEntries c.args.job.input.now.bytes.items (map row_entry_view xs))
    (sym c.deref-3.ensures.value)
    (document-seen c.args.job.input.now.bytes.items c.args.document.now
    (map row_entry_view c.in_ok-entries.entries.items) c.requires.document
    c.lemma_form.ensures.some c.lemma_form.ensures.shows
    (c.in_ok-entries.ensures.ok ∙ ap (filter_map with_row) c.in_ok-found.ensures.ok)) in
    planned-left c.args.addresses.now.configs.now c.args.job.input.now.bytes.items
    (g.I.Index.view (index_of c.args.index.now)).gives (g.I.Index.view (index_of c.walk.new.index)).gives
    (g.I.Index.view (index_of c.args.index.now)).faults (g.I.Index.view (index_of c.walk.new.index)).faults
    (cached_by c.args.index.now) (cached_by c.walk.new.index) (map row_entry_view c.deref-3.result.now) seen
    c.in_ok-rows.ensures.left

pub returns-in_err-rows-clause-left : goal.returns-in_err-rows-clause-left
returns-in_err-rows-clause-left g c =
    let seen = subst (λ (xs : List Entry). AreRowEntries c.args.job.input.now.bytes.items (map row_entry_view xs))
    (sym c.deref-3.ensures.value)
    (document-seen c.args.job.input.now.bytes.items c.args.document.now
    (map row_entry_view c.in_ok-entries.entries.items) c.requires.document
    c.lemma_form.ensures.some c.lemma_form.ensures.shows
    (c.in_ok-entries.ensures.ok ∙ ap (filter_map with_row) c.in_ok-found.ensures.ok)) in
    planned-left c.args.addresses.now.configs.now c.args.job.input.now.bytes.items
    (g.I.Index.view (index_of c.args.index.now)).gives (g.I.Index.view (index_of c.walk.new.index)).gives
    (g.I.Index.view (index_of c.args.index.now)).faults (g.I.Index.view (index_of c.walk.new.index)).faults
    (cached_by c.args.index.now) (cached_by c.walk.new.index) (map row_entry_view c.deref-3.result.now) seen
    c.in_err-rows.ensures.left

pub returns-in_err-rows-clause-error : goal.returns-in_err-rows-clause-error
returns-in_err-rows-clause-error g c =
    let seen = subst (λ (xs : List Entry). AreRowEntries c.args.job.input.now.bytes.items (map row_entry_view xs))
    (sym c.deref-3.ensures.value)
    (document-seen c.args.job.input.now.bytes.items c.args.document.now
    (map row_entry_view c.in_ok-entries.entries.items) c.requires.document
    c.lemma_form.ensures.some c.lemma_form.ensures.shows
    (c.in_ok-entries.ensures.ok ∙ ap (filter_map with_row) c.in_ok-found.ensures.ok)) in
    failure-has c.from_residual-in_err-rows.result c.in_err-rows.field-0.0 _ c.from_residual-in_err-rows.ensures.1
    (planned-fails c.args.job.number c.args.addresses.now.configs.now c.args.job.input.now.bytes.items
    (cache_view g.I.Index.view c.args.index.now) (cache_view g.I.Index.view c.walk.new.index)
    (map row_entry_view c.deref-3.result.now) c.in_err-rows.field-0.0 seen c.in_err-rows.ensures.error)
