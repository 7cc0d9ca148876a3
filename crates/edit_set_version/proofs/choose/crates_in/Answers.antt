use Rattle.std.proofs.Common.{[], ◌∷◌, ◌++◌, ◌∙◌, ap, sym}
use Rattle.std.specs.List.{filter}
use Rattle.std.specs.Prelude.{if◌then◌else◌}
use Rattle.std.proofs.lemmas.List.{take_all}
use Rattle.edit_set_version.specs.Crates.{member_of, members_of}
use Rattle.edit_set_version.specs.SelectedNames.{is_in}
use Rattle.edit_set_version.proofs.ChoiceLemmas.{filter_more}
use Rattle.edit_set_version.proofs.choose.crates_in.Goals as goal

pub crates-preserved : goal.crates-preserved
crates-preserved c =
    let test = is_in c.args.part c.args.wanted.now in
    let own = member_of c.found-item.result in
    c.in_ok-push_where.ensures.ok
    ∙ ap (λ b. members_of c.crates.list.items ++ (if b then own ∷ [] else [])) c.is_in-keep.ensures
    ∙ ap (λ ms. ms ++ (if test own then own ∷ [] else [])) c.crates.invariant
    ∙ sym (filter_more test member_of c.args.crates.now c.crates.found-index c.found-item.result
    c.crates-test.true c.found-item.is)

pub crates-init : goal.crates-init
crates-init c = ap members_of c.new-list.ensures.items

pub returns : goal.returns
returns c = record {
  ok = c.crates.invariant ∙ ap (λ cs. filter (is_in c.args.part c.args.wanted.now) (members_of cs))
      (take_all c.crates.found-index c.args.crates.now c.crates-test.false);
}
