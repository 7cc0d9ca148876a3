use Rattle.std.proofs.Common.{◌≡◌, ◌≢◌, ℕ, List, map, take, string_bytes}
use Rattle.std.specs.List.{AllPairs}
use Rattle.edit_metadata.specs.Metadata.{is_listed}
use Rattle.edit_metadata.specs.Reading.{holds}
use Rattle.edit_metadata.proofs.folders.first_duplicate.Given as goal

abbrev pub invariant-texts : goal.invariant-texts
invariant-texts l =
    AllPairs (λ (a b : List ℕ). a ≢ b) (map string_bytes (take l.text-index l.texts))
    × ((text : List ℕ) → holds l.seen text ≡ is_listed (map string_bytes (take l.text-index l.texts)) text)
