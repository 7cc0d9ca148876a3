use Rattle.std.proofs.Common.{◌≡◌, ℕ, List, map, take}
use Rattle.edit_metadata.specs.Metadata.{is_listed}
use Rattle.edit_metadata.specs.Reading.{holds}
use Rattle.edit_metadata.proofs.from_texts.id_set.Given as goal

abbrev pub invariant-ids : goal.invariant-ids
invariant-ids l = (id : List ℕ) → holds l.set id ≡ is_listed (map (λ t. t.now) (take l.id-index l.ids)) id
