-- The components of a normalized path are those that a walk along its parts gives.
use Rattle.std.proofs.Common.{◌≡◌, ◌≢◌, ◌∙◌, ℕ, List, [], ◌∷◌, ◌++◌, Bool, true, false, refl, sym, ap, inl, inr, reverse}
use Rattle.std.proofs.lemmas.List.{reverse-append}
use Rattle.std.specs.Prelude.{codes, ◌||◌, if◌then◌else◌}
use Rattle.edit_tree.specs.Assertions.{same_bytes}
use Rattle.edit_base.specs.Paths.{Normal, root, skip, keep, back, stay, IsEmptyOrDot, IsName}
use Rattle.edit_tree.proofs.SamePlace.{same_bytes_is}
use Rattle.edit_set_version.specs.Folders.{Folder, parent_folder, folder_along, folder_after}

-- one part more at the end
pub along_more : (folder : Folder) (parts : List (List ℕ)) (part : List ℕ)
    → folder_along folder (parts ++ part ∷ []) ≡ folder_after (folder_along folder parts) part
along_more folder [] part = refl
along_more folder (p ∷ ps) part = along_more (folder_after folder p) ps part

-- an idle part leads nowhere
further_idle : (folder : Folder) (part : List ℕ) → IsEmptyOrDot part → folder_after folder part ≡ folder
further_idle folder part (inl none) = ap (folder_after folder) none
further_idle folder part (inr dot) = ap (folder_after folder) dot

-- a text that is not another
differs : (a b : List ℕ) → a ≢ b → same_bytes a b ≡ false
differs a b h = from (same_bytes a b) (same_bytes_is a b)
  where
    from : (x : Bool) → (x ≡ true → a ≡ b) → x ≡ false
    from true is = absurd (h (is refl))
    from false is = refl

-- a name leads one down
further_name : (folder : Folder) (part : List ℕ) → IsName part → folder_after folder part ≡ part ∷ folder
further_name folder part name =
    ap (λ x. if x || same_bytes part (codes ".") then folder
    else (if same_bytes part (codes "..") then parent_folder folder
    else part ∷ folder)) (differs part [] name.some)
    ∙ (ap (λ x. if x then folder else (if same_bytes part (codes "..") then parent_folder folder
    else part ∷ folder)) (differs part (codes ".") name.own)
    ∙ ap (λ x. if x then parent_folder folder else part ∷ folder) (differs part (codes "..") name.below))

-- the walk gives the names of the normal form, the last one first
pub along_normal : (parts names : List (List ℕ)) → Normal parts names → folder_along [] parts ≡ reverse names
along_normal _ _ root = refl
along_normal _ _ (skip parts names part n idle) =
    along_more [] parts part ∙ (ap (λ f. folder_after f part) (along_normal parts names n)
    ∙ further_idle (reverse names) part idle)
along_normal _ _ (keep parts names part n name) =
    along_more [] parts part ∙ (ap (λ f. folder_after f part) (along_normal parts names n)
    ∙ (further_name (reverse names) part name ∙ sym (reverse-append names (part ∷ []))))
along_normal _ _ (back parts names part n) =
    along_more [] parts (codes "..") ∙ (ap (λ f. folder_after f (codes "..")) (along_normal parts (names
    ++ part ∷ []) n)
    ∙ ap (λ f. folder_after f (codes "..")) (reverse-append names (part ∷ [])))
along_normal _ _ (stay parts n) =
    along_more [] parts (codes "..") ∙ ap (λ f. folder_after f (codes "..")) (along_normal parts [] n)
