-- The levels of the crates of a policy.
use Rattle.std.proofs.Common.{◌≡◌, ◌∷◌, [], ◌++◌, ◌∙◌, ◌+◌, ◌<◌, ℕ, List, Option, Some, None, ap, get_or, length, refl, sym, take}
use Rattle.std.specs.List.{filter_map}
use Rattle.std.specs.Option.{option_to_list}
use Rattle.std.proofs.lemmas.List.{take_more}
use Rattle.std.proofs.lemmas.List.Elements.{filter_map-append}

-- what is found of the elements so far, after one more element
pub found_more : {X Y : Type 0} (h : X → Option Y) (xs : List X) (i : ℕ) (d : X) (old new : List Y)
    → i < length xs → old ≡ filter_map h (take i xs) → new ≡ old ++ option_to_list (h (get_or xs i d))
    → new ≡ filter_map h (take (i + 1) xs)
found_more h xs i d old new lt so_far is =
    is ∙ ap (λ ys. ys ++ option_to_list (h (get_or xs i d))) so_far
    ∙ ap (λ ys. filter_map h (take i xs) ++ ys) (listed (h (get_or xs i d)) refl)
    ∙ sym (filter_map-append h (take i xs) (get_or xs i d ∷ []))
    ∙ ap (filter_map h) (sym (take_more xs i d lt))
  where
    listed : (o : Option _) → h (get_or xs i d) ≡ o → option_to_list o ≡ filter_map h (get_or xs i d ∷ [])
    listed None gives = rw gives refl
    listed (Some y) gives = rw gives refl
