use Rattle.std.proofs.Common.{◌≡◌, ◌∙◌, ◌⊎◌, ◌==◌, ◌++◌, ℕ, List, [], Bool, not, length, ap, ap₂, inl, refl, sym, subst}
use Rattle.std.specs.Prelude.{◌||◌, if◌then◌else◌}
use Rattle.std.specs.List.{filter}
use Rattle.std.proofs.lemmas.List.{length-map, map-append}
use Rattle.std.proofs.lemmas.Result.{err_from_is_err_and}
use Rattle.edit_base.specs.Errors.{IsMemory}
use Rattle.edit_set_version.specs.Chosen.{Member, added_by_inheritance, inheriting_members, is_among}
use Rattle.edit_set_version.specs.Crates.{member_of, members_of}
use Rattle.edit_set_version.specs.PlanCauses.{IsExcludeError}
use Rattle.edit_set_version.specs.Selections.{selection_view}
use Rattle.edit_set_version.specs.SelectedNames.{is_in}
use Rattle.edit_set_version.specs.declared.choose.Part.TheVariants.{Others}
use Rattle.edit_set_version.proofs.ChoiceLemmas.{selected_part, inheriting_part, others_part}
use Rattle.edit_set_version.proofs.choose.choose.Goals as goal
use Rattle.edit_set_version.proofs.choose.choose.Goals.{then-is_whole_selected, else-is_whole_selected}

pub returns-in_err-check_excluded-clause-error : goal.returns-in_err-check_excluded-clause-error
returns-in_err-check_excluded-clause-error c =
    let a = selection_view c.args.selection.now in
    let ms = members_of c.args.crates.now in
    let w = c.in_ok-wanted.wanted in
    let is = c.in_ok-wanted.ensures.ok in
    let held : Member → Bool = λ m. is_among a.exclude m.name in
    let inh : members_of c.in_ok-inheriting.inheriting.items ≡ inheriting_members a ms
    = c.in_ok-inheriting.ensures.ok ∙ inheriting_part a w ms is in
    let long : length c.deref.result.now ≡ length (inheriting_members a ms)
    = ap length c.deref.ensures.value ∙ sym (length-map c.in_ok-inheriting.inheriting.items member_of)
    ∙ ap length inh in
    let more : members_of c.in_ok-others.others.items ≡ added_by_inheritance a ms
    = c.in_ok-others.ensures.ok ∙ ap (λ n. if n == 0 then [] else filter (is_in Others w) ms) long
    ∙ ap (λ xs. if length (inheriting_members a ms) == 0 then [] else xs) (others_part a w ms is) in
    let p = err_from_is_err_and c.from_residual-in_err-check_excluded.result
    c.from_residual-in_err-check_excluded.ensures.1 in
    let e = c.in_err-check_excluded.field-0.0 in
    rw (p.1, p.2)
    (subst (λ xs. IsMemory e ⊎ IsExcludeError (filter held xs) (inheriting_members a ms) e)
    (ap members_of c.deref-2.ensures.value ∙ more)
    (subst (λ ys. IsMemory e ⊎ IsExcludeError (filter held (members_of c.deref-2.result.now)) ys e)
    (ap members_of c.deref-3.ensures.value ∙ inh) c.in_err-check_excluded.ensures.error))

pub returns-clause-chosen : goal.returns-clause-chosen
returns-clause-chosen c =
    let a = selection_view c.args.selection.now in
    let ms = members_of c.args.crates.now in
    let w = c.in_ok-wanted.wanted in
    let is = c.in_ok-wanted.ensures.ok in
    let inh : members_of c.in_ok-inheriting.inheriting.items ≡ inheriting_members a ms
    = c.in_ok-inheriting.ensures.ok ∙ inheriting_part a w ms is in
    let long : length c.deref.result.now ≡ length (inheriting_members a ms)
    = ap length c.deref.ensures.value ∙ sym (length-map c.in_ok-inheriting.inheriting.items member_of)
    ∙ ap length inh in
    let more : members_of c.in_ok-others.others.items ≡ added_by_inheritance a ms
    = c.in_ok-others.ensures.ok ∙ ap (λ n. if n == 0 then [] else filter (is_in Others w) ms) long
    ∙ ap (λ xs. if length (inheriting_members a ms) == 0 then [] else xs) (others_part a w ms is) in
    ap members_of c.in_ok-extend_from_slice.ensures.items
    ∙ map-append member_of c.in_ok-chosen.chosen.items c.deref-4.result.now
    ∙ ap₂ (λ (x y : List Member). x ++ y) (c.in_ok-chosen.ensures.ok ∙ selected_part a w ms is)
    (ap members_of c.deref-4.ensures.value ∙ more)

pub returns-clause-workspace : goal.returns-clause-workspace
returns-clause-workspace c =
    let a = selection_view c.args.selection.now in
    let ms = members_of c.args.crates.now in
    let is = c.in_ok-wanted.ensures.ok in
    let inh : members_of c.in_ok-inheriting.inheriting.items ≡ inheriting_members a ms
    = c.in_ok-inheriting.ensures.ok ∙ inheriting_part a c.in_ok-wanted.wanted ms is in
    let some = not (length (inheriting_members a ms) == 0) in
    elim c.if-is_whole_selected.branch [
      | then-is_whole_selected w ↦
          w.workspace-is ∙ w.if-is_whole_selected.true
          ∙ sym (ap (λ b. b || some) (sym c.is_whole_selected.ensures ∙ w.if-is_whole_selected.true))
      | else-is_whole_selected w ↦
          w.workspace-is ∙ ap not w.is_empty_list.ensures
          ∙ ap (λ (n : ℕ). not (n == 0)) (ap length w.deref-else-is_whole_selected.ensures.value
          ∙ sym (length-map c.in_ok-inheriting.inheriting.items member_of) ∙ ap length inh)
          ∙ sym (ap (λ b. b || some) (sym c.is_whole_selected.ensures ∙ w.if-is_whole_selected.false))
    ]

pub returns-clause-excluded : goal.returns-clause-excluded
returns-clause-excluded c =
    let a = selection_view c.args.selection.now in
    let ms = members_of c.args.crates.now in
    let w = c.in_ok-wanted.wanted in
    let is = c.in_ok-wanted.ensures.ok in
    let held : Member → Bool = λ m. is_among a.exclude m.name in
    let inh : members_of c.in_ok-inheriting.inheriting.items ≡ inheriting_members a ms
    = c.in_ok-inheriting.ensures.ok ∙ inheriting_part a w ms is in
    let long : length c.deref.result.now ≡ length (inheriting_members a ms)
    = ap length c.deref.ensures.value ∙ sym (length-map c.in_ok-inheriting.inheriting.items member_of)
    ∙ ap length inh in
    let more : members_of c.in_ok-others.others.items ≡ added_by_inheritance a ms
    = c.in_ok-others.ensures.ok ∙ ap (λ n. if n == 0 then [] else filter (is_in Others w) ms) long
    ∙ ap (λ xs. if length (inheriting_members a ms) == 0 then [] else xs) (others_part a w ms is) in
    ap (filter held) (sym (ap members_of c.deref-2.ensures.value ∙ more))
    ∙ c.in_ok-check_excluded.ensures.none

pub returns-in_err-wanted-clause-error : goal.returns-in_err-wanted-clause-error
returns-in_err-wanted-clause-error c =
    let r = err_from_is_err_and c.from_residual.result c.from_residual.ensures.1 in
    rw (r.1, r.2) (inl refl)

pub returns-in_err-inheriting-clause-error : goal.returns-in_err-inheriting-clause-error
returns-in_err-inheriting-clause-error c =
    let r = err_from_is_err_and c.from_residual-in_err-inheriting.result c.from_residual-in_err-inheriting.ensures.1 in
    rw (r.1, r.2) (inl refl)

pub returns-in_err-others-clause-error : goal.returns-in_err-others-clause-error
returns-in_err-others-clause-error c =
    let r = err_from_is_err_and c.from_residual-in_err-others.result c.from_residual-in_err-others.ensures.1 in
    rw (r.1, r.2) (inl refl)

pub returns-in_err-chosen-clause-error : goal.returns-in_err-chosen-clause-error
returns-in_err-chosen-clause-error c =
    let r = err_from_is_err_and c.from_residual-in_err-chosen.result c.from_residual-in_err-chosen.ensures.1 in
    rw (r.1, r.2) (inl refl)
