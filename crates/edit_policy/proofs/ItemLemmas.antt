-- Items that were found, and the keys that were passed.
use Rattle.std.proofs.Common.{◌≡◌, ◌∷◌, ◌++◌, [], All, ap, List, map, Option, Some, None, subst, sym, ℕ}
use Rattle.std.specs.Prelude.{is_some}
use Rattle.std.specs.Borrow.{Bor}
use Rattle.std.proofs.lemmas.List.{map-append}
use Rattle.std.proofs.lemmas.List.Elements.{All-push}
use Rattle.std.specs.List.{AllZip}
use Rattle.edit_document.specs.ItemViews.{Finds}
use Rattle.edit_document.specs.declared.item.Item.{Item}
use Rattle.edit_tree.specs.Assertions.{Place}
use Rattle.edit_tree.specs.DocumentViews.{DocumentViews, tree_of}

-- an item was found where the tree has one
pub found_some : (d : DocumentViews) (q : Place) (r : Option Item) → Finds d q r
    → is_some r ≡ is_some (tree_of d q)
found_some d q None h = sym (ap is_some h)
found_some d q (Some i) h = sym (ap is_some h.2)

-- what holds of each text holds of these with one more
pub all_texts_more : (P : List ℕ → Type 0) (xs : List (Bor (List ℕ))) (x : Bor (List ℕ))
    → All P (map (λ s. s.now) xs) → P x.now → All P (map (λ s. s.now) (xs ++ x ∷ []))
all_texts_more P xs x each one =
    subst (All P) (sym (map-append (λ (s : Bor (List ℕ)). s.now) xs (x ∷ [])))
    (All-push P (map (λ s. s.now) xs) x.now each one)

-- what holds of two lists, place by place, holds of both with one more
zip_more : {A B : Type 0} (R : A → B → Type 0) (xs : List A) (ys : List B) (x : A) (y : B) → AllZip R xs ys
    → R x y → AllZip R (xs ++ x ∷ []) (ys ++ y ∷ [])
zip_more R [] [] x y each one = (one, tt)
zip_more R [] (z ∷ ys) x y each one = absurd each
zip_more R (w ∷ xs) [] x y each one = absurd each
zip_more R (w ∷ xs) (z ∷ ys) x y each one = (each.0, zip_more R xs ys x y each.1 one)

-- what holds of texts and of a list, place by place, holds of both with one more
pub zip_texts_more : {A : Type 0} (R : List ℕ → A → Type 0) (xs : List (Bor (List ℕ))) (x : Bor (List ℕ))
    (ys : List A) (y : A) → AllZip R (map (λ s. s.now) xs) ys → R x.now y
    → AllZip R (map (λ s. s.now) (xs ++ x ∷ [])) (ys ++ y ∷ [])
zip_texts_more {A} R xs x ys y each one =
    subst (λ (zs : List (List ℕ)). AllZip R zs (ys ++ y ∷ []))
    (sym (map-append (λ (s : Bor (List ℕ)). s.now) xs (x ∷ [])))
    (zip_more R (map (λ s. s.now) xs) ys x.now y each one)
