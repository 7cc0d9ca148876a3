use Rattle.std.proofs.Common.{◌≡◌, ◌∙◌, ◌+◌, ◌++◌, ◌∷◌, [], List, ap, arith, inl, inr, subst, sym, take}
use Rattle.std.specs.List.{filter_map}
use Rattle.std.specs.Prelude.{All, option_to_list}
use Rattle.std.proofs.lemmas.List.{map_more, take_all}
use Rattle.std.proofs.lemmas.List.Elements.{All-contains, All-push}
use Rattle.edit_base.specs.Errors.{IsMemory}
use Rattle.edit_version.specs.Laws.{IsReadable}
use Rattle.edit_set_version.specs.Bumps.{bump, target_of}
use Rattle.edit_set_version.specs.Chosen.{Member}
use Rattle.edit_set_version.specs.Crates.{bumps_view, member_of, members_of}
use Rattle.edit_set_version.specs.Admitted.{AreVersions}
use Rattle.edit_set_version.specs.BumpCauses.{IsBumpable, IsUnbumped}
use Rattle.edit_set_version.specs.Selections.{selection_view}
use Rattle.edit_set_version.specs.SetVersioned.{bump_of}
use Rattle.edit_set_version.specs.declared.crates.Bump.{Bump as Bumping}
use Rattle.edit_set_version.specs.declared.crates.Crate.{Crate}
use Rattle.edit_set_version.proofs.ChoiceLemmas.{among_all, some_more}
use Rattle.edit_set_version.proofs.VersionLemmas.{unbumped_member}
use Rattle.edit_set_version.proofs.bumps.bumps_of.Goals as goal

pub crates-preserved : goal.crates-preserved
crates-preserved c =
    let t = target_of c.args.target.now in
    let a = selection_view c.args.selection.now in
    let i = c.crates.found-index in
    let all = c.args.crates.now in
    let own = member_of c.found-item.result in
    let Fits : Member → Type 0 = λ m. IsBumpable (bump t a.metadata m.version) in
    let more : members_of (take (i + 1) all) ≡ members_of (take i all) ++ own ∷ []
    = map_more member_of all i c.found-item.result c.crates-test.true
    ∙ ap (λ z. members_of (take i all) ++ member_of z ∷ []) (sym c.found-item.is) in
    record {
      seen = c.in_default.ensures.ok
          ∙ ap (λ bs. bs ++ option_to_list (bump_of t a own)) c.crates.invariant.seen
          ∙ sym (some_more (bump_of t a) member_of all i c.found-item.result c.crates-test.true
          c.found-item.is);
      bumpable = subst (All Fits) (sym more)
          (All-push Fits (members_of (take i all)) own c.crates.invariant.bumpable
          c.in_default.ensures.bumpable);
      versions = λ target each. c.in_default.ensures.versions target
          (All-contains (λ (m : Member). IsReadable m.version) (members_of all) own each
          (among_all member_of all i c.found-item.result c.crates-test.true c.found-item.is))
          (c.crates.invariant.versions target each);
    }

pub returns-in-Err-clause-error : goal.returns-in-Err-clause-error
returns-in-Err-clause-error c =
    let t = target_of c.args.target.now in
    let a = selection_view c.args.selection.now in
    let f = c.at_member.result in
    let x = c.found-item.result in
    elim c.in-Err.ensures.error [
      | inl none ↦ inl (subst IsMemory (sym c.at_member.ensures.error) none)
      | inr why ↦ inr (unbumped_member t a c.args.crates.now c.crates.found-index x f c.crates-test.true
          c.found-item.is c.crates.invariant.bumpable (
            subst (IsUnbumped (bump t a.metadata (member_of x).version) (member_of x).version)
                (sym c.at_member.ensures.error) why,
            c.at_member.ensures.origin,
          ))
    ]

pub crates-init : goal.crates-init
crates-init c = record {
  seen = ap bumps_view c.new-bumps.ensures.items;
  bumpable = λ k d below. absurd (omega (arith, below));
  versions = λ target each. subst (λ (bs : List Bumping). AreVersions (bumps_view bs))
      (sym c.new-bumps.ensures.items) (λ k d below. absurd (omega (arith, below)));
}

pub returns-clause-ok : goal.returns-clause-ok
returns-clause-ok c =
    let t = target_of c.args.target.now in
    let a = selection_view c.args.selection.now in
    c.crates.invariant.seen ∙ ap (λ cs. filter_map (bump_of t a) (members_of cs))
    (take_all c.crates.found-index c.args.crates.now c.crates-test.false)

pub returns-clause-bumpable : goal.returns-clause-bumpable
returns-clause-bumpable c =
    let t = target_of c.args.target.now in
    let a = selection_view c.args.selection.now in
    let Fits : Member → Type 0 = λ m. IsBumpable (bump t a.metadata m.version) in
    subst (λ (cs : List Crate). All Fits (members_of cs))
    (take_all c.crates.found-index c.args.crates.now c.crates-test.false) c.crates.invariant.bumpable

pub returns-clause-versions : goal.returns-clause-versions
returns-clause-versions c = c.crates.invariant.versions
