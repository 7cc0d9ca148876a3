use Rattle.std.proofs.Common.{◌≡◌, map, not, take}
use Rattle.std.specs.Prelude.{filter}
use Rattle.edit_answers.specs.Aging.{aged_text, is_same}
use Rattle.edit_answers.proofs.aging_store.files_without.Given as goal

abbrev pub invariant-files : goal.invariant-files
invariant-files l = map aged_text l.left.items
    ≡ filter (λ b. not (is_same (aged_text l.aged) b)) (map aged_text (take l.file-index l.files))
