use Rattle.std.proofs.Common.{length, map}
use Rattle.edit_metadata.specs.Metadata.{IsText}
use Rattle.edit_metadata.proofs.ElementLoop.{HasRead}
use Rattle.edit_metadata.proofs.package_texts.read_texts.Given as goal

abbrev pub invariant-loop-reader : goal.invariant-loop-reader
invariant-loop-reader l = HasRead 125 IsText l.initial.reader l.reader (map (λ s. s.now) l.texts.items)

abbrev pub decreases-loop-reader : goal.decreases-loop-reader
decreases-loop-reader l = length l.reader
