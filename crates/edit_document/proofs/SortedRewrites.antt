-- Rewrites that are sorted by their starts are in ascending order.
use Rattle.std.proofs.Common.{ℕ, suc, ◌<◌, ◌≤◌, List, [], ◌∷◌, map, length, get_or, arith}
use Rattle.std.specs.List.{AllByRecursion}
use Rattle.std.specs.List.Sorted.{IsNonDecreasingBy}
use Rattle.edit_document.specs.declared.replace.Rewrite.{Rewrite}
use Rattle.edit_document.specs.Splices.{range_of}
use Rattle.edit_document.proofs.LocatedEdits.{Ascends}

first_least : (x : Rewrite) (xs : List Rewrite)
    → ((k : ℕ) (d : Rewrite) → k < length xs → x.start ≤ (get_or xs k d).start)
    → AllByRecursion (λ q. x.start ≤ q.0) (map range_of xs)
first_least x [] h = tt
first_least x (y ∷ ys) h = (h 0 y (omega arith), first_least x ys (λ k d l. h (suc k) d (omega arith)))

pub ascends : (xs : List Rewrite) → IsNonDecreasingBy (λ (x : Rewrite). x.start) xs
    → Ascends (map range_of xs)
ascends [] up = tt
ascends (x ∷ xs) up = (
  first_least x xs (λ k d l. up 0 (suc k) d (omega arith) (omega arith)),
  ascends xs (λ i j d le l. up (suc i) (suc j) d (omega arith) (omega arith)),
)
