use Rattle.std.proofs.Common.{ℕ, List, ◌∷◌}
use Rattle.edit_syntax.specs.Characters.{right_brace}
use Rattle.edit_syntax.specs.Grammar.{Between, Members}
use Rattle.edit_tree.specs.EditBytes.{behind_last}
use Rattle.edit_tree.specs.SlotTexts.{TableAt}
use Rattle.edit_rewrite.proofs.InlineSuffixes.{past_value}
use Rattle.edit_rewrite.proofs.MemberTurns.{AtMembers}
use Rattle.edit_rewrite.proofs.inline.past_last.Given as goal

abbrev pub invariant-members : goal.invariant-members
invariant-members l = (g : List Between) (ms : Members) (after : List ℕ) → TableAt l.text l.table g ms after
    → AtMembers past_value l.text after l.index l.rest l.last (behind_last ms (right_brace ∷ after))
