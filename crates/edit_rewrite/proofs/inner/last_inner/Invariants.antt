use Rattle.std.proofs.Common.{◌≡◌, ℕ, List, ◌∷◌}
use Rattle.edit_syntax.specs.Characters.{right_brace}
use Rattle.edit_syntax.specs.Grammar.{Between, Members}
use Rattle.edit_tree.specs.Assertions.{Place}
use Rattle.edit_tree.specs.EditBytes.{last_result}
use Rattle.edit_rewrite.specs.Entries.{path_match}
use Rattle.edit_rewrite.specs.Inner.{inner_of}
use Rattle.edit_document.specs.Items.{place_view}
use Rattle.edit_tree.specs.SlotTexts.{TableAt}
use Rattle.edit_tree.specs.Statements.{paired_members}
use Rattle.edit_rewrite.proofs.InnerTurns.{inner_turn}
use Rattle.edit_rewrite.proofs.MemberTurns.{AtMembers}
use Rattle.edit_rewrite.proofs.inner.last_inner.Given as goal

-- the last of those so far
abbrev pub invariant-members : goal.invariant-members
invariant-members l = (above : Place) (g : List Between) (ms : Members) (after : List ℕ)
    → TableAt l.text l.table g ms after → l.start ≡ path_match (place_view l.place) above
    → AtMembers (inner_turn (place_view l.place) above) l.text after l.index l.rest l.last
    (last_result (inner_of (place_view l.place)) (paired_members above ms (right_brace ∷ after)))
