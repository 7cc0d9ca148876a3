use Rattle.std.proofs.Common.{◌≡◌, length}
use denote.Text.{Utf8}
use denote.Shadow.{shadow}
use Rattle.edit_answers.specs.Answers.{AreFirst}
use Rattle.edit_answers.proofs.TableLemmas.{IsRest}
use Rattle.edit_answers.proofs.answers.read_answers.Given as goal

-- each outcome so far is the first one, and each that comes before the rest is found
abbrev pub invariant-loop-line : goal.invariant-loop-line
invariant-loop-line l =
    shadow (Utf8 l.rest) × (length l.table.items ≡ l.count) × AreFirst l.text l.table.items
    × IsRest l.text l.rest l.table.items

abbrev pub decreases-loop-line : goal.decreases-loop-line
decreases-loop-line l = length l.rest
