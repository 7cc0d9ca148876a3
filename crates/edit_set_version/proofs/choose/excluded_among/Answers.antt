use Rattle.std.proofs.Common.{List, ℕ, [], ◌∷◌, ◌++◌, ◌∙◌, Bool, ap, sym, map, string_bytes}
use Rattle.std.specs.Prelude.{if◌then◌else◌}
use Rattle.std.specs.BTreeSet.{contains_text}
use Rattle.std.specs.List.{filter}
use Rattle.std.proofs.lemmas.List.{take_all}
use Rattle.edit_set_version.specs.Chosen.{Member, is_among}
use Rattle.edit_set_version.specs.Crates.{member_of, members_of}
use Rattle.edit_set_version.specs.Selections.{selection_view}
use Rattle.edit_set_version.proofs.ChoiceLemmas.{filter_more}
use Rattle.edit_set_version.proofs.choose.excluded_among.Goals as goal

pub crates-preserved : goal.crates-preserved
crates-preserved c =
    let test : Member → Bool = λ m. is_among (selection_view c.args.selection.now).exclude m.name in
    let own = member_of c.found-item.result in
    c.in_ok-push_where.ensures.ok
    ∙ ap (λ b. members_of c.crates.list.items ++ (if b then own ∷ [] else []))
    (c.contains-keep.ensures
    ∙ ap (λ (t : List ℕ). contains_text c.in_ok-excluded.excluded t) c.as_str.ensures.value
    ∙ c.in_ok-excluded.ensures.ok own.name
    ∙ ap (λ xs. is_among (map string_bytes xs) own.name) c.deref.ensures.value)
    ∙ ap (λ ms. ms ++ (if test own then own ∷ [] else [])) c.crates.invariant
    ∙ sym (filter_more test member_of c.args.crates.now c.crates.found-index c.found-item.result
    c.crates-test.true c.found-item.is)

pub crates-init : goal.crates-init
crates-init c = ap members_of c.new-list.ensures.items

pub returns : goal.returns
returns c = record {
  ok = let test : Member → Bool = λ m. is_among (selection_view c.args.selection.now).exclude m.name in
      c.crates.invariant ∙ ap (λ cs. filter test (members_of cs))
      (take_all c.crates.found-index c.args.crates.now c.crates-test.false);
}
