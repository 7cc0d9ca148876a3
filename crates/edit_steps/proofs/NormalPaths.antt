-- A path has exactly one normalized form, and a text names exactly one folder.
use Rattle.std.proofs.Common.{◌≡◌, ◌≢◌, ◌∙◌, ℕ, zero, suc, ◌<◌, List, [], ◌∷◌, ◌++◌, false, Option, Some, None, length, refl, sym, ap, inl, inr, reverse, arith}
use Rattle.std.specs.Prelude.{◌==◌, codes, if◌then◌else◌}
use Rattle.std.specs.Str.{bytes_eq}
use Rattle.std.proofs.lemmas.Bool.{cases_Bool, eqb-true}
use Rattle.std.proofs.lemmas.List.{reverse-append, reverse-reverse}
use Rattle.std.proofs.lemmas.Slice.Eq.{bytes_eq-Decides}
use Rattle.edit_base.specs.Paths.{HasNoSlash, IsFolderOf, IsEmptyOrDot, IsName, IsNormalOf, Normal, absolute, parts_of}
use Rattle.edit_base.specs.Paths.IsFolderOf.{above, bare, below_root}
use Rattle.edit_base.specs.Paths.Normal.{back, keep, root, skip, stay}

-- ---- a walk along the parts of a path: the names that it keeps, the last one first

-- one name less
abbrev up : List (List ℕ) → List (List ℕ)
up [] = []
up (n ∷ ns) = ns

-- one part further
abbrev further : List (List ℕ) → List ℕ → List (List ℕ)
further names part =
    if bytes_eq part [] then names
    else (if bytes_eq part (codes ".") then names
    else (if bytes_eq part (codes "..") then up names else part ∷ names))

-- all parts
abbrev along : List (List ℕ) → List (List ℕ) → List (List ℕ)
along names [] = names
along names (p ∷ ps) = along (further names p) ps

-- one part more at the end
along_more : (names parts : List (List ℕ)) (part : List ℕ)
    → along names (parts ++ part ∷ []) ≡ further (along names parts) part
along_more names [] part = refl
along_more names (p ∷ ps) part = along_more (further names p) ps part

differs : (a b : List ℕ) → a ≢ b → bytes_eq a b ≡ false
differs a b h = elim (cases_Bool (bytes_eq a b)) [
  | inl same ↦ absurd (h ((bytes_eq-Decides a b).0 same))
  | inr other ↦ other
]

further_idle : (names : List (List ℕ)) (part : List ℕ) → IsEmptyOrDot part → further names part ≡ names
further_idle names part (inl none) = ap (further names) none
further_idle names part (inr dot) = ap (further names) dot

further_name : (names : List (List ℕ)) (part : List ℕ) → IsName part → further names part ≡ part ∷ names
further_name names part name =
    rw (
      differs part [] name.some,
      differs part (codes ".") name.own,
      differs part (codes "..") name.below,
    ) refl

-- the walk keeps the names of the normal form
along_normal : (parts names : List (List ℕ)) → Normal parts names → along [] parts ≡ reverse names
along_normal _ _ root = refl
along_normal _ _ (skip parts names part n idle) =
    along_more [] parts part ∙ ap (λ f. further f part) (along_normal parts names n)
    ∙ further_idle (reverse names) part idle
along_normal _ _ (keep parts names part n name) =
    along_more [] parts part ∙ ap (λ f. further f part) (along_normal parts names n)
    ∙ further_name (reverse names) part name ∙ sym (reverse-append names (part ∷ []))
along_normal _ _ (back parts names part n) =
    along_more [] parts (codes "..")
    ∙ ap (λ f. further f (codes "..")) (along_normal parts (names ++ part ∷ []) n)
    ∙ ap (λ f. further f (codes "..")) (reverse-append names (part ∷ []))
along_normal _ _ (stay parts n) =
    along_more [] parts (codes "..") ∙ ap (λ f. further f (codes "..")) (along_normal parts [] n)

normal_is : (path text : List ℕ) → IsNormalOf path text
    → text ≡ absolute (reverse (along [] (parts_of path)))
normal_is path text n =
    n.writes ∙ ap absolute (sym (reverse-reverse n.names)
    ∙ ap reverse (sym (along_normal (parts_of path) n.names n.reads)))

-- a path has one normal form
pub one_normal : (path a b : List ℕ) → IsNormalOf path a → IsNormalOf path b → a ≡ b
one_normal path a b na nb = normal_is path a na ∙ sym (normal_is path b nb)

-- ---- the text before the last slash

abbrev cut_with : ℕ → Option (List ℕ) → Option (List ℕ)
cut_with x None = if x == 47 then Some [] else None
cut_with x (Some before) = Some (x ∷ before)

abbrev cut : List ℕ → Option (List ℕ)
cut [] = None
cut (x ∷ xs) = cut_with x (cut xs)

-- the folder, by what stands before the last slash
abbrev folder_by : Option (List ℕ) → List ℕ
folder_by None = codes "/"
folder_by (Some []) = codes "/"
folder_by (Some (x ∷ xs)) = x ∷ xs

no_slash : (x : ℕ) → x ≢ 47 → (x == 47) ≡ false
no_slash x h = elim (cases_Bool (x == 47)) [
  | inl same ↦ absurd (h (eqb-true x 47 same))
  | inr other ↦ other
]

no_cut : (text : List ℕ) → HasNoSlash text → cut text ≡ None
no_cut [] free = refl
no_cut (x ∷ xs) free =
    let later = no_cut xs (λ i lt. free (suc i) (omega (arith, lt))) in
    let here = no_slash x (free zero (omega arith)) in
    rw (later, here) refl

cut_at : (before after : List ℕ) → HasNoSlash after → cut (before ++ 47 ∷ after) ≡ Some before
cut_at [] after free = rw (no_cut after free) refl
cut_at (x ∷ xs) after free = rw (cut_at xs after free) refl

some_folder : (before : List ℕ) → 0 < length before → folder_by (Some before) ≡ before
some_folder [] some = absurd (omega (arith, some))
some_folder (x ∷ xs) some = refl

folder_is : (path folder : List ℕ) → IsFolderOf path folder → folder_by (cut path) ≡ folder
folder_is path _ (above before after is free some) =
    ap (λ t. folder_by (cut t)) is ∙ ap folder_by (cut_at before after free) ∙ some_folder before some
folder_is path _ (below_root after is free) =
    ap (λ t. folder_by (cut t)) is ∙ ap folder_by (cut_at [] after free)
folder_is path _ (bare free) = ap folder_by (no_cut path free)

-- a text has one folder
pub one_folder : (path a b : List ℕ) → IsFolderOf path a → IsFolderOf path b → a ≡ b
one_folder path a b fa fb = sym (folder_is path a fa) ∙ folder_is path b fb
