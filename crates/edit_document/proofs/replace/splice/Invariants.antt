use Rattle.std.proofs.Common.{◌≡◌, ◌++◌, drop, map}
use Rattle.std.specs.Prelude.{string_bytes}
use Rattle.std.specs.Str.{IsCharBoundary}
use Rattle.edit_document.specs.Splices.{range_of, spliced, AreInOrder}
use Rattle.edit_document.proofs.replace.splice.Given as goal

abbrev pub invariant-loop-rewrite : goal.invariant-loop-rewrite
invariant-loop-rewrite l = record {
  boundary : IsCharBoundary l.text l.at;
  order : AreInOrder l.text l.at (map range_of (drop l.rewrite-index l.rewrites));
  whole : string_bytes l.out ++ spliced l.text l.at (map range_of (drop l.rewrite-index l.rewrites))
      ≡ spliced l.text 0 (map range_of l.rewrites);
}
