use Rattle.std.specs.Prelude.{IfErr, IfOk, ◌⊎◌}
use Rattle.edit_base.specs.Errors.{IsMemory}
use Rattle.edit_restricted_index.specs.RestrictedIndex.{restricted_view}
use Rattle.edit_restricted_index.specs.VersionTests.{test_of}
use Rattle.edit_sources.specs.Index.{IndexView}
use Rattle.edit_steps.specs.Shared.{lists_for}
use Rattle.edit_program.specs.Planned.{IsPlanCause, IsPlanned}
use Rattle.edit_program.proofs.IndexFaults.{folder_fault, lines_fault, local_fault, over_files, over_folder}
use Rattle.edit_program.proofs.upgrade_run.plan.plan_for.Goals as goal

pub returns-in-Files-clause-planned : goal.returns-in-Files-clause-planned
returns-in-Files-clause-planned g c =
    let test = test_of c.args.restriction in
    over_files g.T.Store.view c.with_bound.result c.args.index_files c.args.args.now.published_before
    c.args.index
    (λ (view : IndexView). IfOk c.plan_over.result (IsPlanned c.args.args.now.options
    c.args.target.now.inputs.items (lists_for c.args.configs.now) (restricted_view test view)))
    c.in-Files.is c.with_bound.ensures.store c.with_bound.ensures.bound c.plan_over.ensures.planned

pub returns-in-Files-clause-error : goal.returns-in-Files-clause-error
returns-in-Files-clause-error g c =
    let test = test_of c.args.restriction in
    over_files g.T.Store.view c.with_bound.result c.args.index_files c.args.args.now.published_before
    c.args.index
    (λ (view : IndexView). IfErr c.plan_over.result (λ f. IsMemory f.error
    ⊎ IsPlanCause c.args.args.now.options c.args.target.now.inputs.items (lists_for c.args.configs.now)
    (restricted_view test view) f.error))
    c.in-Files.is c.with_bound.ensures.store c.with_bound.ensures.bound c.plan_over.ensures.error

pub returns-in-Files-clause-counted : goal.returns-in-Files-clause-counted
returns-in-Files-clause-counted g c =
    local_fault g.T.Store.view c.with_bound.result c.args.index_files c.plan_over.result
    c.with_bound.ensures.store c.plan_over.ensures.counted

pub returns-in-Lines-clause-counted : goal.returns-in-Lines-clause-counted
returns-in-Lines-clause-counted g c =
    lines_fault g.T.Store.view c.in-Lines.index c.args.index_files c.plan_over-in-Lines.result
    c.plan_over-in-Lines.ensures.counted

pub returns-in-Folder-clause-planned : goal.returns-in-Folder-clause-planned
returns-in-Folder-clause-planned g c =
    let test = test_of c.args.restriction in
    over_folder g.T.Store.view c.with_bound-in-Folder.result c.args.index_files
    c.args.args.now.published_before c.args.index c.in-Folder.folder
    (λ (view : IndexView). IfOk c.plan_over-in-Folder.result (IsPlanned c.args.args.now.options
    c.args.target.now.inputs.items (lists_for c.args.configs.now) (restricted_view test view)))
    c.in-Folder.is c.with_bound-in-Folder.ensures.store c.with_bound-in-Folder.ensures.bound
    c.with_bound-in-Folder.ensures.folder c.plan_over-in-Folder.ensures.planned

pub returns-in-Folder-clause-error : goal.returns-in-Folder-clause-error
returns-in-Folder-clause-error g c =
    let test = test_of c.args.restriction in
    over_folder g.T.Store.view c.with_bound-in-Folder.result c.args.index_files
    c.args.args.now.published_before c.args.index c.in-Folder.folder
    (λ (view : IndexView). IfErr c.plan_over-in-Folder.result (λ f. IsMemory f.error
    ⊎ IsPlanCause c.args.args.now.options c.args.target.now.inputs.items (lists_for c.args.configs.now)
    (restricted_view test view) f.error))
    c.in-Folder.is c.with_bound-in-Folder.ensures.store c.with_bound-in-Folder.ensures.bound
    c.with_bound-in-Folder.ensures.folder c.plan_over-in-Folder.ensures.error

pub returns-in-Folder-clause-counted : goal.returns-in-Folder-clause-counted
returns-in-Folder-clause-counted g c =
    folder_fault g.T.Store.view c.with_bound-in-Folder.result c.args.index_files c.plan_over-in-Folder.result
    c.with_bound-in-Folder.ensures.store c.plan_over-in-Folder.ensures.counted
