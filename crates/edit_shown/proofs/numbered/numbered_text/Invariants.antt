use Rattle.std.proofs.Common.{◌≡◌, ◌≤◌, length, take}
use Rattle.std.specs.Prelude.{string_bytes}
use Rattle.edit_shown.specs.Numbered.{numbered}
use Rattle.edit_shown.proofs.NumberedLemmas.{changed}
use Rattle.edit_shown.proofs.numbered.numbered_text.Given as goal

-- the lines so far, and how many they are
abbrev pub invariant-rows : goal.invariant-rows
invariant-rows l = record {
  counted : l.number ≡ length (changed (take l.row-index l.rows));
  within : l.number ≤ l.row-index;
  text : string_bytes l.text ≡ numbered l.root l.inputs (take l.row-index l.rows);
}
