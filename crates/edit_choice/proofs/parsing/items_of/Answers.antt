use Rattle.std.proofs.Common.{◌+◌, map, subst, sym, take}
use Rattle.std.specs.List.{AllZip}
use Rattle.edit_choice.specs.ChoiceTexts.{IsItem}
use Rattle.edit_choice.proofs.ParsingLemmas.{items_more, no_items}
use Rattle.edit_choice.proofs.parsing.items_of.Goals as goal

pub returns-in-None : goal.returns-in-None
returns-in-None c =
    no_items c.args.parts.now c.parts.part-index _ c.parts-test.true c.in-None.ensures

pub parts-preserved : goal.parts-preserved
parts-preserved c =
    subst (λ xs. AllZip IsItem (map (λ part. part.now) (take (c.parts.part-index + 1) c.args.parts.now)) xs)
    (sym c.in_ok-push-in-Some.ensures.items)
    (items_more c.args.parts.now c.parts.part-index _ c.parts.items.items c.in-Some.item c.parts-test.true
    c.parts.invariant c.in-Some.ensures)
