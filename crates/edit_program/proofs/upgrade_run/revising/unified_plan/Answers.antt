use Rattle.std.proofs.Common.{◌∙◌, List, Option, String, ap, length, map, option_map, string_bytes, subst, sym}
use Rattle.std.specs.Global.{Vec}
use Rattle.std.specs.declared.alloc.Global.{Global}
use Rattle.std.proofs.lemmas.List.{length-map}
use Rattle.edit_metadata.specs.declared.input.Input.{Input}
use Rattle.edit_report.specs.declared.row.Row.{Row}
use Rattle.edit_sources.specs.declared.config.Config.{Config}
use Rattle.edit_steps.specs.Shared.{lists_for}
use Rattle.edit_version.specs.Levels.{level_of}
use Rattle.edit_upgrade.specs.ConfigLists.{AreIndices}
use Rattle.edit_upgrade.specs.Revisions.{AreRowsOf, HasRowAddresses, HaveAddresses}
use Rattle.edit_upgrade.proofs.RevisedRows.{as_many}
use Rattle.edit_program.proofs.RevisionLemmas.{documents_of, over_slices, unified_over, unified_rows_of, utf8_of}
use Rattle.edit_program.proofs.upgrade_run.revising.unified_plan.Goals as goal

pub row_addresses-requires-clause-documents : goal.row_addresses-requires-clause-documents
row_addresses-requires-clause-documents c =
    documents_of c.args.target.now.documents.items c.args.target.now.inputs.items c.deref-2.result.now
    c.deref.result.now c.deref-2.ensures.value c.deref.ensures.value c.requires.documents

pub row_addresses-requires-clause-utf8 : goal.row_addresses-requires-clause-utf8
row_addresses-requires-clause-utf8 c =
    utf8_of c.args.target.now.documents.items c.args.target.now.inputs.items c.deref-2.result.now
    c.deref.result.now c.deref-2.ensures.value c.deref.ensures.value c.requires.utf8

pub row_addresses-requires-clause-lists : goal.row_addresses-requires-clause-lists
row_addresses-requires-clause-lists c =
    subst (λ (ls : List (Vec Config)). AreIndices ls c.deref-4.result.now) (sym c.deref-3.ensures.value)
    (subst (AreIndices c.args.configs.now.lists.items) (sym c.deref-4.ensures.value) c.requires.lists)

pub row_addresses-requires-clause-resolved : goal.row_addresses-requires-clause-resolved
row_addresses-requires-clause-resolved c =
    over_slices HaveAddresses c.args.target.now.inputs.items c.deref.result.now c.args.configs.now.lists.items
    c.deref-3.result.now c.args.configs.now.which.items c.deref-4.result.now c.deref.ensures.value
    c.deref-3.ensures.value c.deref-4.ensures.value c.requires.resolved

pub unify_rows-requires : goal.unify_rows-requires
unify_rows-requires c =
    let addresses = map (option_map string_bytes) c.in_ok-addresses.addresses.items in
    let are = over_slices (λ is configs. HasRowAddresses is configs addresses) c.deref.result.now
    c.args.target.now.inputs.items c.deref-3.result.now c.args.configs.now.lists.items c.deref-4.result.now
    c.args.configs.now.which.items (sym c.deref.ensures.value) (sym c.deref-3.ensures.value)
    (sym c.deref-4.ensures.value) c.in_ok-addresses.ensures.addresses in
    ap (λ (known : List (Option (String Global))). length known) c.deref-5.ensures.value
    ∙ sym (length-map c.in_ok-addresses.addresses.items (option_map string_bytes))
    ∙ as_many 0 c.args.target.now.inputs.items (lists_for c.args.configs.now) c.args.plan.rows.items addresses are
    c.requires.rows

pub revised_plan-requires-clause-documents : goal.revised_plan-requires-clause-documents
revised_plan-requires-clause-documents c =
    documents_of c.args.target.now.documents.items c.args.target.now.inputs.items c.deref-7.result.now
    c.deref-6.result.now c.deref-7.ensures.value c.deref-6.ensures.value c.requires.documents

pub revised_plan-requires-clause-utf8 : goal.revised_plan-requires-clause-utf8
revised_plan-requires-clause-utf8 c =
    utf8_of c.args.target.now.documents.items c.args.target.now.inputs.items c.deref-7.result.now
    c.deref-6.result.now c.deref-7.ensures.value c.deref-6.ensures.value c.requires.utf8

pub revised_plan-requires-clause-rows : goal.revised_plan-requires-clause-rows
revised_plan-requires-clause-rows c =
    subst (λ (xs : List Input). AreRowsOf xs c.in_ok-rows.rows.items) (sym c.deref-6.ensures.value)
    (unified_rows_of (level_of c.args.levels) (map (option_map string_bytes) c.deref-5.result.now)
    c.args.target.now.inputs.items c.args.plan.rows.items c.in_ok-rows.rows.items c.in_ok-rows.ensures.rows
    c.requires.rows)

pub returns-clause-unified : goal.returns-clause-unified
returns-clause-unified c =
    let addresses = map (option_map string_bytes) c.in_ok-addresses.addresses.items in
    let are = over_slices (λ is configs. HasRowAddresses is configs addresses) c.deref.result.now
    c.args.target.now.inputs.items c.deref-3.result.now c.args.configs.now.lists.items c.deref-4.result.now
    c.args.configs.now.which.items (sym c.deref.ensures.value) (sym c.deref-3.ensures.value)
    (sym c.deref-4.ensures.value) c.in_ok-addresses.ensures.addresses in
    unified_over (level_of c.args.levels) c.args.target.now.inputs.items c.deref-6.result.now (lists_for c.args.configs.now)
    c.args.plan c.in_ok-plan.plan c.in_ok-rows.rows.items addresses
    (map (option_map string_bytes) c.deref-5.result.now) c.deref-6.ensures.value
    (ap (map (option_map string_bytes)) c.deref-5.ensures.value) are c.in_ok-rows.ensures.rows
    c.in_ok-rows.ensures.one (ap (λ (v : Vec Row). v.items) c.in_ok-plan.ensures.rows)
    c.in_ok-plan.ensures.outputs c.in_ok-plan.ensures.lists c.in_ok-plan.ensures.others
