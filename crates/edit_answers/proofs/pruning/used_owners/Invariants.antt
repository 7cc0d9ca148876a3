use Rattle.std.proofs.Common.{◌≡◌, List, ℕ, map, take}
use Rattle.std.specs.BTreeSet.{contains_text}
use Rattle.edit_answers.specs.Aging.{aged_text, is_used}
use Rattle.edit_answers.proofs.pruning.used_owners.Given as goal

abbrev pub invariant-files : goal.invariant-files
invariant-files l = (q : List ℕ) → contains_text l.used q
    ≡ is_used (map aged_text (take l.aged-index l.files)) q
