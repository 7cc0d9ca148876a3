-- The parts of a path, split one by one.
use Rattle.std.proofs.Common.{◌≡◌, ℕ, ◌<◌, ◌+◌, List, [], ◌∷◌, ◌++◌, length, take, map, get_or, Bor}
use Rattle.std.proofs.lemmas.List.{take_more, map-append}

-- one part more
pub part_more : (xs : List (Bor (List ℕ))) (i : ℕ) (d : Bor (List ℕ)) → i < length xs
    → map (λ x. x.now) (take (i + 1) xs) ≡ map (λ x. x.now) (take i xs) ++ (get_or xs i d).now ∷ []
part_more xs i d h = rw (take_more xs i d h)
    (map-append (λ (x : Bor (List ℕ)). x.now) (take i xs) (get_or xs i d ∷ []))
