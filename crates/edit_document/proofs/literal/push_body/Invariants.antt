use Rattle.std.proofs.Common.{◌≡◌, ◌-◌, ◌≤◌, ◌++◌, take, drop}
use Rattle.std.specs.Prelude.{string_bytes}
use Rattle.std.specs.Str.{IsCharBoundary}
use Rattle.edit_tree.specs.Literals.{literal_body}
use Rattle.edit_document.proofs.literal.push_body.Given as goal

abbrev pub invariant-bytes : goal.invariant-bytes
invariant-bytes l = record {
  low : l.start ≤ l.at;
  boundary : IsCharBoundary l.fn.text l.start;
  whole : string_bytes l.out ++ (take (l.at - l.start) (drop l.start l.fn.text) ++ literal_body
      (drop l.at l.fn.text)) ≡ string_bytes l.fn.out ++ literal_body l.fn.text;
}
