-- Lists of texts without duplicates.
use Rattle.std.specs.Prelude.{ℕ, not, List, [], ◌∷◌, filter}
use Rattle.edit_tree.specs.Assertions.{same_bytes}

-- removes duplicates; the first of equal texts stays (own)
abbrev pub each_once : List (List ℕ) → List (List ℕ)
each_once [] = []
each_once (s ∷ ss) = s ∷ filter (λ u. not (same_bytes s u)) (each_once ss)
