use Rattle.std.proofs.Common.{false, true, ◌∙◌}
use Rattle.std.proofs.lemmas.Result.{MatchResult-weaker}
use Rattle.edit_syntax.specs.Grammar.{array, inline, basic, literal, multi_basic, multi_literal, boolean, integer, float, datetime}
use Rattle.edit_document.specs.Items.{place_view}
use Rattle.edit_tree.specs.Slots.{of_elements, of_members}
use Rattle.edit_rewrite.proofs.SlotKeys.{array_enclosed, inline_enclosed, array_left, inline_left}
use Rattle.edit_rewrite.proofs.inside.value_without.Goals as goal

pub returns : goal.returns
returns c place (array g es) is valid shallow e =
    MatchResult-weaker c.slots_left.result
    (c.slots_left.ensures false g (of_elements es) (array_enclosed g es c.args.text.now valid shallow e))
    (λ w k. k ∙ array_left place (place_view c.args.below.now) g es) (λ d k. k)
returns c place (inline g ms) is valid shallow e =
    MatchResult-weaker c.slots_left.result
    (c.slots_left.ensures true g (of_members ms) (inline_enclosed g ms c.args.text.now valid shallow e))
    (λ w k. k ∙ inline_left place (place_view c.args.below.now) g ms) (λ d k. k)
returns c place (basic ps) is valid shallow e = absurd is
returns c place (literal text) is valid shallow e = absurd is
returns c place (multi_basic ps) is valid shallow e = absurd is
returns c place (multi_literal ps) is valid shallow e = absurd is
returns c place (boolean b) is valid shallow e = absurd is
returns c place (integer n) is valid shallow e = absurd is
returns c place (float f) is valid shallow e = absurd is
returns c place (datetime d) is valid shallow e = absurd is
