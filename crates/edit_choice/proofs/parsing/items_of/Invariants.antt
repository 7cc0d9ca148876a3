use Rattle.std.proofs.Common.{map, take}
use Rattle.std.specs.List.{AllZip}
use Rattle.edit_choice.specs.ChoiceTexts.{IsItem}
use Rattle.edit_choice.proofs.parsing.items_of.Given as goal

-- the items of the parts so far
abbrev pub invariant-parts : goal.invariant-parts
invariant-parts l = AllZip IsItem (map (λ part. part.now) (take l.part-index l.parts)) l.items.items
