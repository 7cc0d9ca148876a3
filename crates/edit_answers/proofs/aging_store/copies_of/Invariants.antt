use Rattle.std.proofs.Common.{◌≡◌, map, take}
use Rattle.edit_answers.specs.Aging.{aged_text}
use Rattle.edit_answers.proofs.aging_store.copies_of.Given as goal

abbrev pub invariant-files : goal.invariant-files
invariant-files l = map aged_text l.copies.items ≡ map aged_text (take l.file-index l.files)
