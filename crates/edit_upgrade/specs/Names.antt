-- Sets of names, as contracts see them.
use Rattle.std.specs.Prelude.{◌≡◌, ℕ, List}
use Rattle.std.specs.Borrow.{Bor}
use Rattle.std.specs.BTreeSet.{BTreeSet}
use Rattle.edit_metadata.specs.Reading.{holds}
use Rattle.edit_upgrade.specs.UpdateCalls.{is_among}

-- a set has these names
abbrev pub HasNames : BTreeSet (Bor (List ℕ)) → List (List ℕ) → Type 0
HasNames set names = (name : List ℕ) → holds set name ≡ is_among names name
