use Rattle.std.proofs.Common.{◌≡◌, ◌∷◌, [], ◌++◌, ◌+◌, ◌<◌, ◌∙◌, List, ap, rules, subst, sym, true, false, string_bytes, arith}
use Rattle.std.specs.Prelude.{is_some}
use Rattle.std.proofs.lemmas.Grind.{common_steps}
use Rattle.edit_choice.specs.ChosenRows.{AreChosen, AreChosenFrom, count_changes}
use Rattle.edit_choice.specs.Choices.{is_chosen}
use Rattle.edit_choice.proofs.ChoiceLemmas.{all_chosen, chosen_by, chosen_more, count_change, count_no_change, few_changes, stays, stays_chosen, taken_back}
use Rattle.edit_choice.specs.ItemLookup.{IsLookupOf, IsReach}
use Rattle.edit_choice.specs.declared.items.RowItem.{RowItem}
use Rattle.edit_choice.proofs.LookupLemmas.{chosen_by_lookup, reach_more}
use Rattle.edit_choice.proofs.chosen.chosen_rows.Goals as goal

pub returns-in-All : goal.returns-in-All
returns-in-All c = record {
  rows = subst (λ chosen. AreChosen chosen c.args.rows.items c.args.rows.items) (sym c.in-All.is)
      (all_chosen 0 c.args.rows.items);
  error = tt;
}

pub rows-preserved-in_ok-push : goal.rows-preserved-in_ok-push
rows-preserved-in_ok-push c =
    let row = c.in-Some.row in
    let no : is_some row.change ≡ false = search rules in
    record {
      chosen = subst (λ ys. AreChosenFrom c.args.choice.now 0 (c.rows.yielded ++ row ∷ []) ys)
          (sym c.in_ok-push.ensures.items)
          (chosen_more c.args.choice.now 0 c.rows.yielded c.rows.chosen.items row row
          c.rows.invariant.chosen (stays _ _ row no));
      number = c.rows.invariant.number ∙ sym (count_no_change c.rows.yielded row no);
      reach = c.rows.invariant.reach;
      rest = grind (arith, common_steps);
    }

pub rows-preserved-in_ok-push-2 : goal.rows-preserved-in_ok-push-2
rows-preserved-in_ok-push-2 c =
    let row = c.in-Some.row in
    let yes : is_some row.change ≡ true = search rules in
    let number : c.saturating_add-number.result ≡ count_changes c.rows.yielded + 1 =
    search (
      rules,
      few_changes c.rows.yielded c.rows.row-iterator.rest.items c.args.rows.items
          c.rows.invariant.rest,
      c.rows.invariant.number,
      c.args.rows.small,
    ) in
    let next : c.saturating_add-number.result ≡ c.rows.number + 1 =
    number ∙ ap (λ n. n + 1) (sym c.rows.invariant.number) in
    let some : 0 < c.saturating_add-number.result = omega (arith, next) in
    let reaches : (items : List RowItem) → IsLookupOf items c.in_ok-lookup.lookup
    → IsReach items c.saturating_add-number.result c.reach-reach-else-is_none.result =
    λ items of. reach_more items c.in_ok-lookup.lookup c.rows.number _ c.rows.reach c.reach-reach-else-is_none.result next of
    (c.rows.invariant.reach items of) c.reach-reach-else-is_none.ensures in
    let reach = reaches c.as_slice-items.result.now c.in_ok-lookup.ensures in
    let at : c.saturating_add-number.result ≡ 0 + count_changes c.rows.yielded + 1 = omega (arith, number) in
    let one : is_chosen c.args.choice.now (0 + count_changes c.rows.yielded + 1) (string_bytes row.name) ≡ true
    = sym (chosen_by c.args.choice.now c.as_slice-items.result.now c.in-Items.items _ _ _ _ c.in-Items.is
    c.as_slice-items.ensures.value at c.as_str.ensures.value)
    ∙ sym (chosen_by_lookup c.as_slice-items.result.now c.in_ok-lookup.lookup _ c.reach-reach-else-is_none.result _
    c.in_ok-lookup.ensures reach some) ∙ sym c.is_chosen.ensures ∙ c.if-is_chosen.true in
    record {
      chosen = subst (λ ys. AreChosenFrom c.args.choice.now 0 (c.rows.yielded ++ row ∷ []) ys)
          (sym c.in_ok-push-2.ensures.items)
          (chosen_more c.args.choice.now 0 c.rows.yielded c.rows.chosen.items row row
          c.rows.invariant.chosen (stays_chosen _ _ row one));
      number = number ∙ sym (count_change c.rows.yielded row yes);
      reach = reaches;
      rest = grind (arith, common_steps);
    }

pub rows-preserved : goal.rows-preserved
rows-preserved c =
    let row = c.in-Some.row in
    let yes : is_some row.change ≡ true = search rules in
    let number : c.saturating_add-number.result ≡ count_changes c.rows.yielded + 1 =
    search (
      rules,
      few_changes c.rows.yielded c.rows.row-iterator.rest.items c.args.rows.items
          c.rows.invariant.rest,
      c.rows.invariant.number,
      c.args.rows.small,
    ) in
    let next : c.saturating_add-number.result ≡ c.rows.number + 1 =
    number ∙ ap (λ n. n + 1) (sym c.rows.invariant.number) in
    let some : 0 < c.saturating_add-number.result = omega (arith, next) in
    let reaches : (items : List RowItem) → IsLookupOf items c.in_ok-lookup.lookup
    → IsReach items c.saturating_add-number.result c.reach-reach-else-is_none.result =
    λ items of. reach_more items c.in_ok-lookup.lookup c.rows.number _ c.rows.reach c.reach-reach-else-is_none.result next of
    (c.rows.invariant.reach items of) c.reach-reach-else-is_none.ensures in
    let reach = reaches c.as_slice-items.result.now c.in_ok-lookup.ensures in
    let at : c.saturating_add-number.result ≡ 0 + count_changes c.rows.yielded + 1 = omega (arith, number) in
    let none : is_chosen c.args.choice.now (0 + count_changes c.rows.yielded + 1) (string_bytes row.name)
    ≡ false = sym (chosen_by c.args.choice.now c.as_slice-items.result.now c.in-Items.items _ _ _ _
    c.in-Items.is c.as_slice-items.ensures.value at c.as_str.ensures.value)
    ∙ sym (chosen_by_lookup c.as_slice-items.result.now c.in_ok-lookup.lookup _ c.reach-reach-else-is_none.result _
    c.in_ok-lookup.ensures reach some) ∙ sym c.is_chosen.ensures ∙ c.if-is_chosen.false in
    record {
      chosen = subst (λ ys. AreChosenFrom c.args.choice.now 0 (c.rows.yielded ++ row ∷ []) ys)
          (sym c.in_ok-push-3.ensures.items)
          (chosen_more c.args.choice.now 0 c.rows.yielded c.rows.chosen.items row c.in_ok-unchanged.field-0
          c.rows.invariant.chosen (taken_back _ _ row c.in_ok-unchanged.field-0 yes none
          c.in_ok-unchanged.ensures));
      number = number ∙ sym (count_change c.rows.yielded row yes);
      reach = reaches;
      rest = grind (arith, common_steps);
    }
