use Rattle.std.proofs.Common.{◌≡◌, ◌∙◌, ◌+◌, ◌++◌, ◌∷◌, [], ap, map, subst, sym, take}
use Rattle.std.proofs.lemmas.List.{map_more}
use Rattle.edit_set_version.specs.Dependents.{HasRaisedText, numbered_dependent_view}
use Rattle.edit_set_version.specs.LineViews.{line_lists_view, owner_view, with_updates}
use Rattle.edit_set_version.proofs.LineLists.{no_updates, updates_in_parts}
use Rattle.edit_set_version.proofs.bump_lines.push_updates.Goals as goal

pub dependents-init : goal.dependents-init
dependents-init c = λ all. sym (no_updates (owner_view c.args.owner) 0 (line_lists_view c.args.lists.now.items))

pub dependents-preserved : goal.dependents-preserved
dependents-preserved c = λ all.
    let fs = c.args.dependents.now in
    let i = c.dependents.dependent-index in
    let f = c.dependent-item.result in
    let owner = owner_view c.args.owner in
    let was = line_lists_view c.args.lists.now.items in
    let more : map numbered_dependent_view (take (i + 1) fs) ≡ map numbered_dependent_view (take i fs) ++ numbered_dependent_view f ∷ []
    = map_more numbered_dependent_view fs i f c.dependents-test.true
    ∙ ap (λ z. map numbered_dependent_view (take i fs) ++ numbered_dependent_view z ∷ []) (sym c.dependent-item.is) in
    c.in_ok-push_update.ensures.ok (subst HasRaisedText (sym c.dependent-item.is) (all i f c.dependents-test.true))
    ∙ ap (with_updates owner (numbered_dependent_view f ∷ []) 0) (c.dependents.invariant all)
    ∙ sym (updates_in_parts owner (map numbered_dependent_view (take i fs)) (numbered_dependent_view f ∷ []) 0 was)
    ∙ ap (λ xs. with_updates owner xs 0 was) (sym more)
