use Rattle.std.proofs.Common.{length}
use Rattle.edit_metadata.specs.Texts.{HasPackageTexts}
use Rattle.edit_metadata.proofs.ElementLoop.{HasRead}
use Rattle.edit_metadata.proofs.package_texts.read_packages.Given as goal

abbrev pub invariant-loop-reader : goal.invariant-loop-reader
invariant-loop-reader l = HasRead 125 HasPackageTexts l.initial.reader l.reader l.packages.items

abbrev pub decreases-loop-reader : goal.decreases-loop-reader
decreases-loop-reader l = length l.reader
