-- Two folders are equal if and only if their texts are.
use Rattle.std.proofs.Common.{◌≡◌, ◌∙◌, ℕ, List, [], ◌∷◌, Bool, true, false, refl, sym, ap, subst, reverse, cond, ◌++◌, Some, None, Option, option_map}
use Rattle.std.specs.Prelude.{◌&&◌, codes, is_some, if◌then◌else◌}
use Rattle.std.specs.List.{AllByRecursion}
use Rattle.std.specs.Option.{option_or}
use Rattle.std.specs.Str.{bytes_eq}
use Rattle.std.proofs.lemmas.List.{reverse-append, reverse-reverse}
use Rattle.edit_document.proofs.EntryPartViews.{same_texts}
use Rattle.edit_tree.specs.Assertions.{same_bytes}
use Rattle.edit_tree.proofs.SamePlace.{same_bytes_is, same_bytes_self}
use Rattle.edit_set_version.specs.Folders.{Folder, folder_of, same_folder}
use Rattle.edit_set_version.specs.FolderTexts.{folder_text}
use Rattle.edit_set_version.proofs.ReachedFolders.{IsFolderName, named, unspelled, way_up}

-- ---- tests

and_parts : (a b : Bool) → (a && b) ≡ true → (a ≡ true) × (b ≡ true)
and_parts true b h = (refl, h)
and_parts false b h = cc h

both_ways : (x y : Bool) → (x ≡ true → y ≡ true) → (y ≡ true → x ≡ true) → x ≡ y
both_ways true y f g = sym (f refl)
both_ways false true f g = g refl
both_ways false false f g = refl

-- folders that are found equal are equal
pub same_folder_is : (a b : Folder) → same_folder a b ≡ true → a ≡ b
same_folder_is [] [] h = refl
same_folder_is [] (n ∷ ns) h = cc h
same_folder_is (m ∷ ms) [] h = cc h
same_folder_is (m ∷ ms) (n ∷ ns) h =
    let both = and_parts (same_bytes m n) (same_folder ms ns) h in
    ap (λ (x : List ℕ). x ∷ ms) (same_bytes_is m n both.0)
    ∙ ap (λ (xs : Folder). n ∷ xs) (same_folder_is ms ns both.1)

pub same_folder_self : (a : Folder) → same_folder a a ≡ true
same_folder_self [] = refl
same_folder_self (m ∷ ms) = rw (same_bytes_self m) (same_folder_self ms)

-- ---- names the other way round

names_append : (xs ys : List (List ℕ)) → AllByRecursion IsFolderName xs → AllByRecursion IsFolderName ys
    → AllByRecursion IsFolderName (xs ++ ys)
names_append [] ys a b = b
names_append (x ∷ xs) ys a b = (a.0, names_append xs ys a.1 b)

names_reversed : (xs : List (List ℕ)) → AllByRecursion IsFolderName xs
    → AllByRecursion IsFolderName (reverse xs)
names_reversed [] a = tt
names_reversed (x ∷ xs) a =
    subst (AllByRecursion IsFolderName) (sym (reverse-append (x ∷ []) xs))
    (names_append (reverse xs) (x ∷ []) (names_reversed xs a.1) (a.0, tt))

-- ---- texts

-- folders of names are equal where their texts are
text_tells : (a b : Folder) → AllByRecursion IsFolderName a → AllByRecursion IsFolderName b
    → folder_text a ≡ folder_text b → a ≡ b
text_tells a b ha hb e =
    sym (reverse-reverse a)
    ∙ ap reverse (unspelled (reverse a) (reverse b) (names_reversed a ha) (names_reversed b hb) e)
    ∙ reverse-reverse b

-- texts of folders that paths name
pub same_by_text : (a b : Folder) → AllByRecursion IsFolderName a → AllByRecursion IsFolderName b
    → bytes_eq (folder_text a) (folder_text b) ≡ same_folder a b
same_by_text a b ha hb =
    both_ways (bytes_eq (folder_text a) (folder_text b)) (same_folder a b)
    (λ h. ap (same_folder a)
    (sym (text_tells a b ha hb (same_bytes_is (folder_text a) (folder_text b)
    (sym (same_texts (folder_text a) (folder_text b)) ∙ h))))
    ∙ same_folder_self a)
    (λ h. ap (λ (x : Folder). bytes_eq (folder_text a) (folder_text x)) (sym (same_folder_is a b h))
    ∙ same_texts (folder_text a) (folder_text a) ∙ same_bytes_self (folder_text a))

-- the folder of a file has names
pub names_above : (file : List ℕ) → AllByRecursion IsFolderName (folder_of file)
names_above file = subst (AllByRecursion IsFolderName) (way_up file) (named (file ++ codes "/.."))

-- ---- the first of a folder

-- where one is there, it stays
pub first_option : {X : Type 0} (o : Option X) (s : Bool) (v : X) → (s ≡ true → is_some o ≡ true)
    → o ≡ option_or o (if s then Some v else None)
first_option (Some x) s v h = refl
first_option None true v h = let e = h refl in cc e
first_option None false v h = refl

-- where none is there, one is put there
pub put_first : {X Y : Type 0} (f : X → Y) (o : Option X) (s : Bool) (v : X) → (s ≡ true → is_some o ≡ false)
    → option_map f (cond s (Some v) o) ≡ option_or (option_map f o) (if s then Some (f v) else None)
put_first f None true v h = refl
put_first f (Some x) true v h = let e = h refl in cc e
put_first f (Some x) false v h = refl
put_first f None false v h = refl
