use Rattle.std.proofs.Common.{◌≡◌, length}
use Rattle.edit_syntax.specs.Grammar.{value}
use Rattle.edit_rewrite.specs.Entries.{path_match}
use Rattle.edit_rewrite.specs.PairOffsets.{StandsIn}
use Rattle.edit_document.specs.Items.{place_view}
use Rattle.edit_tree.specs.Written.{PlacedValue}
use Rattle.edit_rewrite.proofs.NamedMembers.{MembersLeft}
use Rattle.edit_rewrite.proofs.members.table_offsets.Given as goal

-- none of the members so far names the place
abbrev pub invariant-members : goal.invariant-members
invariant-members l = (w : PlacedValue) → StandsIn l.text w → l.s ≡ value w.value w.after
    → l.start ≡ path_match (place_view l.place) w.place
    → MembersLeft l.text (place_view l.place) w l._member (length l.s) l.rest
