-- The folder of a manifest: the text before the last slash of its normalized path, and its components.
use Rattle.std.proofs.Common.{◌≡◌, ◌∙◌, ◌<◌, ℕ, arith, List, [], ◌∷◌, ◌++◌, Bool, true, false, refl, sym, ap, subst, reverse, cond, length, length-append}
use Rattle.std.specs.Prelude.{◌||◌, codes, slice_index}
use Rattle.std.specs.List.{AllByRecursion, flat_map}
use Rattle.std.proofs.lemmas.List.{append_assoc, append-nil, reverse-append, reverse-reverse}
use Rattle.edit_tree.specs.Assertions.{same_bytes}
use Rattle.edit_base.specs.Paths.{HasNoSlash as IsSlashless, IsFolderOf, IsNormalOf, absolute, parts_of}
use Rattle.edit_base.specs.Paths.IsFolderOf.{above as before, below_root, bare}
use Rattle.edit_set_version.specs.FolderTexts.{folder_text}
use Rattle.edit_set_version.specs.Folders.{Folder, parent_folder, folder_along, folder_of, folder_after, folder_at_path}
use Rattle.edit_set_version.proofs.GroupedBumps.{middle}
use Rattle.edit_set_version.proofs.ReachedFolders.{HasNoSlash, IsFolderName, after, is_slash, normal_text, parts_free}

-- a name that a walk keeps
abbrev pub IsNormalName : List ℕ → Type 0
IsNormalName name =
    IsFolderName name × ((same_bytes name (codes ".") ≡ false) × (same_bytes name (codes "..") ≡ false))

-- ---- what a walk keeps

above_normal : (folder : Folder) → AllByRecursion IsNormalName folder → AllByRecursion IsNormalName (parent_folder folder)
above_normal [] h = tt
above_normal (n ∷ ns) h = h.1

-- one part further, by the three tests
further_normal : (folder : Folder) (part : List ℕ) (a b c : Bool) → same_bytes part [] ≡ a
    → same_bytes part (codes ".") ≡ b → same_bytes part (codes "..") ≡ c
    → AllByRecursion IsNormalName folder → HasNoSlash part
    → AllByRecursion IsNormalName (cond (a || b) folder (cond c (parent_folder folder) (part ∷ folder)))
further_normal folder part true b c ea eb ec h free = h
further_normal folder part false true c ea eb ec h free = h
further_normal folder part false false true ea eb ec h free = above_normal folder h
further_normal folder part false false false ea eb ec h free = (((free, ea), (eb, ec)), h)

along_normal_names : (folder : Folder) (parts : List (List ℕ)) → AllByRecursion IsNormalName folder
    → AllByRecursion HasNoSlash parts → AllByRecursion IsNormalName (folder_along folder parts)
along_normal_names folder [] h free = h
along_normal_names folder (p ∷ ps) h free =
    along_normal_names (folder_after folder p) ps
    (further_normal folder p (same_bytes p []) (same_bytes p (codes ".")) (same_bytes p (codes "..")) refl refl
    refl h free.0) free.1

-- the names of the folder that a path names stay
pub names_normal : (path : List ℕ) → AllByRecursion IsNormalName (folder_at_path path)
names_normal path = along_normal_names [] (parts_of path) tt (parts_free path)

-- ---- the walk along a normal form

-- names with a slash before each
abbrev pub replace_backslashes : List (List ℕ) → List ℕ
replace_backslashes names = flat_map (λ n. 47 ∷ n) names

further_on : (folder : Folder) (name : List ℕ) → IsNormalName name → folder_after folder name ≡ name ∷ folder
further_on folder name are_normal = rw (are_normal.0.1, are_normal.1.0, are_normal.1.1) refl

-- each of them is gone along
along_on : (folder : Folder) (names : List (List ℕ)) → AllByRecursion IsNormalName names
    → folder_along folder names ≡ reverse names ++ folder
along_on folder [] are_normal = refl
along_on folder (n ∷ ns) are_normal =
    ap (λ f. folder_along f ns) (further_on folder n are_normal.0) ∙ along_on (n ∷ folder) ns are_normal.1
    ∙ sym (ap (λ xs. xs ++ folder) (reverse-append (n ∷ []) ns) ∙ append_assoc (reverse ns) (n ∷ []) folder)

normal_free : (names : List (List ℕ)) → AllByRecursion IsNormalName names → AllByRecursion HasNoSlash names
normal_free [] are_normal = tt
normal_free (n ∷ ns) are_normal = (are_normal.0.0.0, normal_free ns are_normal.1)

normal_append : (xs ys : List (List ℕ)) → AllByRecursion IsNormalName xs → AllByRecursion IsNormalName ys
    → AllByRecursion IsNormalName (xs ++ ys)
normal_append [] ys a b = b
normal_append (x ∷ xs) ys a b = (a.0, normal_append xs ys a.1 b)

normal_reversed : (xs : List (List ℕ)) → AllByRecursion IsNormalName xs → AllByRecursion IsNormalName (reverse xs)
normal_reversed [] a = tt
normal_reversed (x ∷ xs) a =
    subst (AllByRecursion IsNormalName) (sym (reverse-append (x ∷ []) xs))
    (normal_append (reverse xs) (x ∷ []) (normal_reversed xs a.1) (a.0, tt))

-- the names of the path of names that stay
names_absolute : (names : List (List ℕ)) → AllByRecursion IsNormalName names
    → folder_at_path (absolute names) ≡ reverse names
names_absolute [] are_normal = refl
names_absolute (n ∷ ns) are_normal =
    ap (folder_along []) (after [] (n ∷ ns) tt (normal_free (n ∷ ns) are_normal))
    ∙ along_on [] (n ∷ ns) are_normal ∙ append-nil (reverse (n ∷ ns))

-- a folder is named by its text
pub names_text : (folder : Folder) → AllByRecursion IsNormalName folder
    → folder_at_path (folder_text folder) ≡ folder
names_text folder are_normal =
    names_absolute (reverse folder) (normal_reversed folder are_normal) ∙ reverse-reverse folder

-- ---- the text before the last slash

-- a slash stands in the middle
slash_at : (c d : List ℕ) → slice_index (c ++ 47 ∷ d) (length c) ≡ 47
slash_at [] d = refl
slash_at (x ∷ c) d = slash_at c d

slash_inside : (text c d : List ℕ) → IsSlashless text → text ≡ c ++ 47 ∷ d → ⊥
slash_inside text c d none is =
    let free = subst IsSlashless is none in
    let long = length-append c (47 ∷ d) in
    free (length c) (omega (arith, long)) (slash_at c d)

-- what stands before the last slash
before_last : (a b c d : List ℕ) → IsSlashless b → HasNoSlash d → a ++ 47 ∷ b ≡ c ++ 47 ∷ d → a ≡ c
before_last [] b [] d hb hd e = refl
before_last [] b (y ∷ c) d hb hd e =
    let t : b ≡ c ++ 47 ∷ d = cc e in
    absurd (slash_inside b c d hb t)
before_last (x ∷ a) b [] d hb hd e =
    let t : d ≡ a ++ 47 ∷ b = cc e in
    let none : is_slash 47 ≡ false = middle (λ z. is_slash z ≡ false) a 47 b (subst HasNoSlash t hd) in
    cc none
before_last (x ∷ a) b (y ∷ c) d hb hd e =
    let h : x ≡ y = cc e in
    let t : a ++ 47 ∷ b ≡ c ++ 47 ∷ d = cc e in
    ap (λ z. z ∷ a) h ∙ ap (λ z. y ∷ z) (before_last a b c d hb hd t)

-- one name more
slashed_more : (names : List (List ℕ)) (n : List ℕ)
    → replace_backslashes (names ++ n ∷ []) ≡ replace_backslashes names ++ 47 ∷ n
slashed_more [] n = append-nil (47 ∷ n)
slashed_more (m ∷ ms) n =
    ap (λ t. (47 ∷ m) ++ t) (slashed_more ms n) ∙ sym (append_assoc (47 ∷ m) (replace_backslashes ms) (47 ∷ n))

-- the path of one name or more
absolute_more : (names : List (List ℕ)) (n : List ℕ)
    → absolute (names ++ n ∷ []) ≡ replace_backslashes names ++ 47 ∷ n
absolute_more [] n = append-nil (47 ∷ n)
absolute_more (m ∷ ms) n = slashed_more (m ∷ ms) n

-- the path of names, where they are some
absolute_some : (names : List (List ℕ)) → 0 < length (replace_backslashes names)
    → absolute names ≡ replace_backslashes names
absolute_some [] some = absurd (omega (arith, some))
absolute_some (n ∷ ns) some = refl

-- where they are none
absolute_none : (names : List (List ℕ)) → [] ≡ replace_backslashes names → absolute names ≡ codes "/"
absolute_none [] none = refl
absolute_none (n ∷ ns) none = cc none

-- the folder of the text of a folder is that of the one above
pub folder_above : (folder : Folder) (g : List ℕ) → AllByRecursion IsNormalName folder
    → IsFolderOf (folder_text folder) g → g ≡ folder_text (parent_folder folder)
folder_above folder g are_normal is = by folder are_normal (folder_text folder) g refl is
  where
    by : (f : Folder) → AllByRecursion IsNormalName f → (text g : List ℕ) → text ≡ folder_text f
        → IsFolderOf text g → g ≡ folder_text (parent_folder f)
    by [] are_normal text _ e (before b a is free some) =
        let one : 47 ∷ [] ≡ b ++ 47 ∷ a = sym e ∙ is in
        let long = length-append b (47 ∷ a) in
        let same = ap length one in
        absurd (omega (arith, long, same, some))
    by [] are_normal text _ e (below_root a is free) = refl
    by [] are_normal text _ e (bare free) = refl
    by (n ∷ f) are_normal text _ e (before b a is free some) =
        let last = e ∙ ap absolute (reverse-append (n ∷ []) f) ∙ absolute_more (reverse f) n in
        let same = before_last b a (replace_backslashes (reverse f)) n free are_normal.0.0.0 (sym is ∙ last) in
        same ∙ sym (absolute_some (reverse f) (subst (λ x. 0 < length x) same some))
    by (n ∷ f) are_normal text _ e (below_root a is free) =
        let last = e ∙ ap absolute (reverse-append (n ∷ []) f) ∙ absolute_more (reverse f) n in
        let same = before_last [] a (replace_backslashes (reverse f)) n free are_normal.0.0.0 (sym is ∙ last) in
        sym (absolute_none (reverse f) same)
    by (n ∷ f) are_normal text _ e (bare free) =
        let last = e ∙ ap absolute (reverse-append (n ∷ []) f) ∙ absolute_more (reverse f) n in
        absurd (slash_inside text (replace_backslashes (reverse f)) n free last)

-- the folder of a path in normal form, by its names
pub folder_named : (path normal g : List ℕ) → IsNormalOf path normal → IsFolderOf normal g
    → g ≡ folder_text (folder_of normal)
folder_named path normal g is folder =
    let text = normal_text path normal is in
    let are_normal = names_normal path in
    folder_above (folder_at_path path) g are_normal (subst (λ x. IsFolderOf x g) text folder)
    ∙ ap (λ f. folder_text (parent_folder f)) (sym (names_text (folder_at_path path) are_normal) ∙ ap folder_at_path (sym text))
