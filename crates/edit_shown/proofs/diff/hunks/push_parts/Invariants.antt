use Rattle.std.proofs.Common.{◌≡◌, ◌++◌, map, take}
use Rattle.std.specs.List.{flat_map, range_with_len}
use Rattle.edit_shown.specs.Hunks.{AreCounted, text_at}
use Rattle.edit_shown.proofs.diff.hunks.push_parts.Given as goal

-- what stands of the lines so far, and how many they are
abbrev pub invariant-loop-i : goal.invariant-loop-i
invariant-loop-i l = record {
  text : l.text.items ≡ l.initial.text.items
      ++ flat_map (text_at l.kinds (map (λ x. x.now) l.lines)) (range_with_len 0 l.i);
  counted : AreCounted (take l.i l.kinds) l.before.old l.before.new;
}
