use Rattle.std.proofs.Common.{◌∙◌, ap, map, option_map, string_bytes, sym}
use Rattle.std.proofs.lemmas.List.{map_push}
use Rattle.edit_report.specs.NameSets.{has_name}
use Rattle.edit_choice.specs.ItemLookup.{missing_by}
use Rattle.edit_choice.proofs.ChoiceLemmas.{texts_more, texts_same}
use Rattle.edit_choice.proofs.chosen.missing_texts.Goals as goal
use Rattle.edit_choice.proofs.chosen.missing_texts.Goals.{in-Some+in_ok-push, in_default}

pub items-preserved : goal.items-preserved
items-preserved c =
    let text = missing_by c.args.count (has_name c.args.names.now) in
    elim c.match-branch-2.branch [
      | in-Some+in_ok-push w ↦
          ap (λ v. map string_bytes v.items) w.missing-is
          ∙ ap (map string_bytes) w.in_ok-push.ensures.items
          ∙ map_push string_bytes c.items.missing.items w.in-Some.text
          ∙ texts_more text c.args.items.now c.items.item-index _ _ _
          c.items-test.true c.items.invariant
          (sym c.in_ok-text.ensures ∙ ap (option_map string_bytes) w.in-Some.is)
      | in_default w ↦
          ap (λ v. map string_bytes v.items) w.missing-is
          ∙ texts_same text c.args.items.now c.items.item-index _ _
          c.items-test.true c.items.invariant
          (sym c.in_ok-text.ensures ∙ ap (option_map string_bytes) w.in_default.is)
    ]
