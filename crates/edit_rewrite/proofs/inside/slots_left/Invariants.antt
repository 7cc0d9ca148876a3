use Rattle.std.proofs.Common.{◌≡◌, List, Bool}
use Rattle.edit_syntax.specs.Grammar.{Between}
use Rattle.edit_document.specs.Items.{place_view}
use Rattle.edit_tree.specs.Slots.{Slots, IsEnclosed, enclosed_left}
use Rattle.edit_rewrite.proofs.SlotEnds.{AtSlots}
use Rattle.edit_rewrite.proofs.inside.slots_left.Given as goal

abbrev pub invariant-slots : goal.invariant-slots
invariant-slots l = (t : Bool) (g : List Between) (ss : Slots) → IsEnclosed t g ss l.text
    → (t ≡ l.is_table) × AtSlots t l.text
    (place_view l.below) l.index l.rest l.left.firm.items l.left.with_comma.items l.left.without_comma.items
    (enclosed_left t (place_view l.below) g ss)
