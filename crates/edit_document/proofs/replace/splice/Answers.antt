use Rattle.std.proofs.Common.{◌++◌, ap, List, ℕ}
use Rattle.std.proofs.lemmas.Str.{IsCharBoundary-start}
use Rattle.std.specs.Prelude.{map}
use Rattle.edit_document.specs.Splices.{range_of, spliced}
use Rattle.edit_document.proofs.replace.splice.Goals as goal

pub loop-rewrite-init : goal.loop-rewrite-init
loop-rewrite-init c = record {
  boundary = IsCharBoundary-start c.args.text.now c.utf8.text;
  order = c.requires;
  whole = ap (λ (l : List ℕ). l ++ spliced c.args.text.now 0 (map range_of c.args.rewrites.now))
      c.in_ok-out.ensures.bytes;
}
