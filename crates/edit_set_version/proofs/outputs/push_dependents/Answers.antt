use Rattle.std.proofs.Common.{◌≡◌, ◌∙◌, ◌++◌, List, ℕ, ap, map, subst, sym}
use Rattle.std.specs.Prelude.{All}
use Rattle.edit_set_version.specs.Dependents.{HasRaisedText, dependent_of}
use Rattle.edit_set_version.specs.declared.dependents.DependentEntry.{DependentEntry}
use Rattle.std.specs.List.{filter_map}
use Rattle.std.proofs.lemmas.Result.{err_from_is_err_and}
use Rattle.edit_metadata.specs.Inputs.{path_of}
use Rattle.edit_tree.specs.DocumentViews.{tree_of}
use Rattle.edit_document.specs.Ranges.{edit_views}
use Rattle.edit_set_version.specs.Crates.{bumps_view}
use Rattle.edit_set_version.specs.SetVersioned.{Dependent, dependents, requirement_edit}
use Rattle.edit_set_version.proofs.DependentLemmas.{all_rise, dependents_numbered, without_indices}
use Rattle.edit_set_version.proofs.EditsStand.{unraised_memory}
use Rattle.edit_set_version.proofs.outputs.push_dependents.Goals as goal

pub returns-in_err-dependents-clause-error : goal.returns-in_err-dependents-clause-error
returns-in_err-dependents-clause-error c =
    let p = err_from_is_err_and c.from_residual.result c.from_residual.ensures.1 in
    let bs = bumps_view c.args.writing.now.bumps.now in
    rw (p.1, p.2) (unraised_memory bs (path_of c.args.input.now) (tree_of c.args.document.now)
    c.in_err-dependents.field-0.0 (c.in_err-dependents.ensures.error bs c.requires.numbers))

-- the entries that depend on bumped crates have the requirements on them
same : (c : goal.After-drop-dependents-2)
    → map dependent_of c.in_ok-dependents.dependents.items
    ≡ dependents (bumps_view c.args.writing.now.bumps.now) (path_of c.args.input.now) (tree_of c.args.document.now)
same c =
    let bs = bumps_view c.args.writing.now.bumps.now in
    without_indices c.in_ok-dependents.dependents.items
    ∙ ap (map (λ (n : ℕ × Dependent). n.1)) (c.in_ok-dependents.ensures.ok bs c.requires.numbers)
    ∙ sym (dependents_numbered bs (path_of c.args.input.now) (tree_of c.args.document.now))

pub returns-clause-ok : goal.returns-clause-ok
returns-clause-ok c =
    let was = edit_views c.args.edits.now.items in
    c.in_ok-push_requirements.ensures.ok
    (subst (All HasRaisedText) (sym c.deref.ensures.value) c.in_ok-dependents.ensures.risen)
    ∙ ap (λ (fs : List DependentEntry). was ++ filter_map requirement_edit (map dependent_of fs))
    c.deref.ensures.value
    ∙ ap (λ (fs : List Dependent). was ++ filter_map requirement_edit fs) (same c)

pub returns-clause-rise : goal.returns-clause-rise
returns-clause-rise c =
    let bs = bumps_view c.args.writing.now.bumps.now in
    all_rise bs (path_of c.args.input.now) (tree_of c.args.document.now) c.in_ok-dependents.dependents.items
    (c.in_ok-dependents.ensures.ok bs c.requires.numbers) c.in_ok-dependents.ensures.risen
