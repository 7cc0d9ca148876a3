use Rattle.std.proofs.Common.{◌++◌, ◌∙◌, ap, sym}
use Rattle.std.specs.Global.{Vec}
use Rattle.std.specs.List.{flat_map}
use Rattle.std.proofs.lemmas.List.{take_all}
use Rattle.std.proofs.lemmas.Result.{err_from_is_err_and}
use Rattle.edit_document.specs.Items.{place_view}
use Rattle.edit_tree.specs.declared.place.Step.{Step}
use Rattle.edit_manifest.specs.Places.{places_view}
use Rattle.edit_tree.specs.DocumentViews.{tree_of}
use Rattle.edit_set_version.specs.PathDependency.{path_dependencies_in, path_dependency_views}
use Rattle.edit_set_version.proofs.ChoiceLemmas.{spread_more}
use Rattle.edit_set_version.proofs.path_deps.entries_of.Goals as goal

pub returns-in_err-tables-clause-error : goal.returns-in_err-tables-clause-error
returns-in_err-tables-clause-error c =
    let r = err_from_is_err_and c.from_residual.result c.from_residual.ensures.1 in
    rw (r.1, r.2) c.in_err-tables.ensures.error

pub tables-init : goal.tables-init
tables-init c = ap path_dependency_views c.new-entries.ensures.items

pub tables-preserved : goal.tables-preserved
tables-preserved c =
    let t = tree_of c.args.document.now in
    let own = c.table-item.result in
    c.in_ok-push_table.ensures.ok
    ∙ ap (λ steps. path_dependency_views c.tables.entries.items ++ path_dependencies_in t (place_view steps)) c.deref.ensures.value
    ∙ ap (λ es. es ++ path_dependencies_in t (place_view own.items)) c.tables.invariant
    ∙ sym (spread_more (path_dependencies_in t) (λ (p : Vec Step). place_view p.items)
    c.deref-table-items.result.now c.tables.table-index own c.tables-test.true c.table-item.is)

pub returns-in_err-push_table-clause-error : goal.returns-in_err-push_table-clause-error
returns-in_err-push_table-clause-error c =
    let r = err_from_is_err_and c.from_residual-in_err-push_table.result
    c.from_residual-in_err-push_table.ensures.1 in
    rw (r.1, r.2) c.in_err-push_table.ensures.error

pub returns-clause-ok : goal.returns-clause-ok
returns-clause-ok c =
    let t = tree_of c.args.document.now in
    c.tables.invariant ∙ ap (λ ts. flat_map (path_dependencies_in t) (places_view ts))
    (take_all c.tables.table-index c.deref-table-items.result.now c.tables-test.false
    ∙ c.deref-table-items.ensures.value)
    ∙ ap (flat_map (path_dependencies_in t)) c.in_ok-tables.ensures.ok
