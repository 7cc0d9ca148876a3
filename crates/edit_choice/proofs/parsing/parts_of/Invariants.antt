use Rattle.std.proofs.Common.{◌≡◌, ◌≤◌, ◌++◌, drop, map, []}
use Rattle.std.specs.List.{slice_range}
use Rattle.std.specs.Str.{IsCharBoundary}
use Rattle.edit_choice.specs.ChoiceTexts.{parts_from}
use Rattle.edit_choice.proofs.parsing.parts_of.Given as goal

-- the parts so far; those of the rest of the text begin where the last separator ends
abbrev pub invariant-bytes : goal.invariant-bytes
invariant-bytes l = record {
  parts : map (λ part. part.now) l.parts.items ++ parts_from (slice_range l.text l.start l.i) (drop l.i l.text)
      ≡ parts_from [] l.text;
  order : l.start ≤ l.i;
  boundary : IsCharBoundary l.text l.start;
}
