use Rattle.std.proofs.Common.{◌∙◌, ◌++◌, ◌∷◌, [], ap, inl, sym, subst, map, append_assoc, arith}
use Rattle.std.specs.Prelude.{All, option_to_list}
use Rattle.std.proofs.lemmas.Result.{err_from_is_err_and}
use Rattle.edit_base.specs.Errors.{IsMemory}
use Rattle.edit_metadata.specs.Inputs.{path_of}
use Rattle.edit_tree.specs.DocumentViews.{tree_of}
use Rattle.edit_set_version.specs.Dependents.{HasRaisedText, numbered_dependent_view, with_bump_index}
use Rattle.edit_set_version.specs.PathDependency.{path_dependency_view, path_dependency_views}
use Rattle.edit_set_version.proofs.DependentLemmas.{numbered_more, unraised}
use Rattle.edit_set_version.proofs.dependents.dependents_of.Goals as goal

pub entries-preserved : goal.entries-preserved
entries-preserved c =
    let file = path_of c.args.input.now in
    let e = c.in-Some.entry in
    record {
      seen = λ bs tells.
          c.in_ok-push_dependent.ensures.ok bs tells
          ∙ ap (λ fs. fs ++ option_to_list (with_bump_index bs file (path_dependency_view e)))
          (c.entries.invariant.seen bs tells)
          ∙ sym (numbered_more bs file c.entries.yielded e);
      rest = ap path_dependency_views (append_assoc c.entries.yielded (e ∷ []) c.next.new.self.rest.items
          ∙ ap (λ xs. c.entries.yielded ++ xs) (sym c.in-Some.ensures.steps.0)) ∙ c.entries.invariant.rest;
      risen = c.in_ok-push_dependent.ensures.risen c.entries.invariant.risen;
    }

pub returns-in_err-push_dependent-clause-error : goal.returns-in_err-push_dependent-clause-error
returns-in_err-push_dependent-clause-error c =
    let p = err_from_is_err_and c.from_residual-in_err-push_dependent.result
    c.from_residual-in_err-push_dependent.ensures.1 in
    rw (p.1, p.2) (λ bs tells. unraised bs (path_of c.args.input.now) (tree_of c.args.document.now) c.entries.yielded
    c.in-Some.entry c.next.new.self.rest.items c.entries.dependents.items c.in_err-push_dependent.field-0.0
    (ap (λ xs. path_dependency_views (c.entries.yielded ++ xs)) (sym c.in-Some.ensures.steps.0)
    ∙ c.entries.invariant.rest)
    (c.entries.invariant.seen bs tells) c.entries.invariant.risen
    (c.in_err-push_dependent.ensures.error bs tells))

pub entries-init : goal.entries-init
entries-init c = record {
  seen = λ bs tells. ap (map numbered_dependent_view) c.new-dependents.ensures.items;
  rest = ap path_dependency_views c.into_iter-entry-iterator.ensures.into_iter_gives.0
      ∙ c.in_ok-entries.ensures.entries;
  risen = subst (All HasRaisedText) (sym c.new-dependents.ensures.items) (λ k d below. absurd (omega
      (arith, below)));
}

pub returns-in_err-entries-clause-error : goal.returns-in_err-entries-clause-error
returns-in_err-entries-clause-error c =
    let r = err_from_is_err_and c.from_residual.result
    c.from_residual.ensures.1 in
    rw r.1 (λ bs tells. inl (subst IsMemory (sym r.2.0) c.in_err-entries.ensures.error))
