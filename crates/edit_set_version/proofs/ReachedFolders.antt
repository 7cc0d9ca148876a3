-- A normalized path determines its folder, and different folders have different normalized paths.
use Rattle.std.proofs.Common.{◌≡◌, ◌∙◌, ℕ, List, [], ◌∷◌, ◌++◌, Bool, true, false, refl, sym, ap, inl, inr, reverse, cond}
use Rattle.std.specs.Prelude.{◌==◌, ◌||◌, codes}
use Rattle.std.specs.List.{AllByRecursion, flat_map, onto_first}
use Rattle.std.proofs.lemmas.Bool.{cases_Bool}
use Rattle.std.proofs.lemmas.List.{reverse-reverse}
use Rattle.edit_tree.specs.Assertions.{same_bytes}
use Rattle.edit_base.specs.Paths.{IsNormalOf, absolute, parts_of}
use Rattle.edit_set_version.specs.FolderTexts.{folder_text}
use Rattle.edit_set_version.specs.Folders.{Folder, parent_folder, folder_along, folder_of, folder_after, folder_at_path}
use Rattle.edit_set_version.proofs.FolderLemmas.{along_normal}

-- ---- parts of texts

abbrev pub is_slash : ℕ → Bool
is_slash b = b == 47

-- a part before another
onto_more : (x : ℕ) (ps qs : List (List ℕ)) (p : List ℕ)
    → onto_first x ((p ∷ ps) ++ qs) ≡ onto_first x (p ∷ ps) ++ qs
onto_more x ps qs p = refl

-- a text has a first part
pub has_first : (text : List ℕ)
    → (p : List ℕ) × ((ps : List (List ℕ)) × (parts_of text ≡ p ∷ ps))
has_first [] = ([], ([], refl))
has_first (x ∷ xs) =
    let rest = has_first xs in
    elim (cases_Bool (is_slash x)) [
      | inl slash ↦ ([], (parts_of xs, rw slash refl))
      | inr other ↦ (x ∷ rest.0, (rest.1.0, rw other (ap (onto_first x) rest.1.1)))
    ]

-- the parts of two texts with a slash between them
pub parts_more : (a b : List ℕ) → parts_of (a ++ 47 ∷ b) ≡ parts_of a ++ parts_of b
parts_more [] b = refl
parts_more (x ∷ xs) b =
    let rest = has_first xs in
    elim (cases_Bool (is_slash x)) [
      | inl slash ↦ rw slash (ap (λ (l : List (List ℕ)). [] ∷ l) (parts_more xs b))
      | inr other ↦ rw other (ap (onto_first x) (parts_more xs b
          ∙ ap (λ (l : List (List ℕ)). l ++ parts_of b) rest.1.1)
          ∙ ap (λ (l : List (List ℕ)). onto_first x l ++ parts_of b) (sym rest.1.1))
    ]

-- ---- walks

pub along_append : (folder : Folder) (a b : List (List ℕ))
    → folder_along folder (a ++ b) ≡ folder_along (folder_along folder a) b
along_append folder [] b = refl
along_append folder (p ∷ ps) b = along_append (folder_after folder p) ps b

-- the folder of a file
pub way_up : (file : List ℕ) → folder_at_path (file ++ codes "/..") ≡ folder_of file
way_up file =
    ap (folder_along []) (parts_more file (codes ".."))
    ∙ along_append [] (parts_of file) (codes ".." ∷ [])

-- the folder that a relative path in it leads to
pub way_on : (file path : List ℕ)
    → folder_at_path (file ++ (codes "/../" ++ path)) ≡ folder_along (folder_of file) (parts_of path)
way_on file path =
    ap (folder_along []) (parts_more file (codes "../" ++ path)
    ∙ ap (λ (l : List (List ℕ)). parts_of file ++ l) (parts_more (codes "..") path))
    ∙ along_append [] (parts_of file) (codes ".." ∷ parts_of path)

-- the normal form spells the folder
pub normal_text : (path text : List ℕ) → IsNormalOf path text → text ≡ folder_text (folder_at_path path)
normal_text path text n =
    n.writes ∙ ap absolute (sym (reverse-reverse n.names)
    ∙ ap reverse (sym (along_normal (parts_of path) n.names n.reads)))

-- ---- names of folders

-- a text without a slash
abbrev pub HasNoSlash : List ℕ → Type 0
HasNoSlash text = AllByRecursion (λ b. is_slash b ≡ false) text

-- a name of a folder: some text without a slash
abbrev pub IsFolderName : List ℕ → Type 0
IsFolderName name = HasNoSlash name × (same_bytes name [] ≡ false)

onto_free : (x : ℕ) (ps : List (List ℕ)) → is_slash x ≡ false → AllByRecursion HasNoSlash ps
    → AllByRecursion HasNoSlash (onto_first x ps)
onto_free x [] h a = ((h, tt), tt)
onto_free x (p ∷ ps) h a = ((h, a.0), a.1)

-- the parts of a text have no slash
pub parts_free : (text : List ℕ) → AllByRecursion HasNoSlash (parts_of text)
parts_free [] = (tt, tt)
parts_free (x ∷ xs) = elim (cases_Bool (is_slash x)) [
  | inl slash ↦ rw slash (tt, parts_free xs)
  | inr other ↦ rw other (onto_free x (parts_of xs) other (parts_free xs))
]

above_names : (folder : Folder) → AllByRecursion IsFolderName folder
    → AllByRecursion IsFolderName (parent_folder folder)
above_names [] h = tt
above_names (n ∷ ns) h = h.1

-- one part further, by the three tests
further_by : (folder : Folder) (part : List ℕ) (a b c : Bool) → same_bytes part [] ≡ a
    → AllByRecursion IsFolderName folder → HasNoSlash part
    → AllByRecursion IsFolderName (cond (a || b) folder (cond c (parent_folder folder) (part ∷ folder)))
further_by folder part true b c e h free = h
further_by folder part false true c e h free = h
further_by folder part false false true e h free = above_names folder h
further_by folder part false false false e h free = ((free, e), h)

along_names : (folder : Folder) (parts : List (List ℕ)) → AllByRecursion IsFolderName folder
    → AllByRecursion HasNoSlash parts → AllByRecursion IsFolderName (folder_along folder parts)
along_names folder [] h a = h
along_names folder (p ∷ ps) h a =
    along_names (folder_after folder p) ps
    (further_by folder p (same_bytes p []) (same_bytes p (codes ".")) (same_bytes p
    (codes "..")) refl h a.0) a.1

-- the names of the folder that a path names
pub named : (path : List ℕ) → AllByRecursion IsFolderName (folder_at_path path)
named path = along_names [] (parts_of path) tt (parts_free path)

-- ---- folders that differ

pub after : (n : List ℕ) (ns : List (List ℕ)) → HasNoSlash n → AllByRecursion HasNoSlash ns
    → parts_of (n ++ flat_map (λ m. 47 ∷ m) ns) ≡ n ∷ ns
after [] [] h a = refl
after [] (m ∷ ms) h a = ap (λ (l : List (List ℕ)). [] ∷ l) (after m ms a.0 a.1)
after (c ∷ cs) ns h a = rw h.0 (ap (onto_first c) (after cs ns h.1 a))

pub free_of : (ns : List (List ℕ)) → AllByRecursion IsFolderName ns → AllByRecursion HasNoSlash ns
free_of [] h = tt
free_of (n ∷ ns) h = (h.0.0, free_of ns h.1)

-- names of folders are those of the path that they make
pub unspelled : (a b : List (List ℕ)) → AllByRecursion IsFolderName a → AllByRecursion IsFolderName b
    → absolute a ≡ absolute b → a ≡ b
unspelled [] [] ha hb e = refl
unspelled [] (m ∷ ms) ha hb e =
    let t : [] ≡ m ++ flat_map (λ x. 47 ∷ x) ms = cc e in
    let p : [] ∷ [] ≡ m ∷ ms = ap parts_of t ∙ after m ms hb.0.0 (free_of ms hb.1) in
    let none : m ≡ [] = cc p in
    cc (sym hb.0.1 ∙ ap (λ (x : List ℕ). same_bytes x []) none)
unspelled (n ∷ ns) [] ha hb e =
    let t : n ++ flat_map (λ x. 47 ∷ x) ns ≡ [] = cc e in
    let p : n ∷ ns ≡ [] ∷ [] = sym (after n ns ha.0.0 (free_of ns ha.1)) ∙ ap parts_of t in
    let none : n ≡ [] = cc p in
    cc (sym ha.0.1 ∙ ap (λ (x : List ℕ). same_bytes x []) none)
unspelled (n ∷ ns) (m ∷ ms) ha hb e =
    let t : n ++ flat_map (λ x. 47 ∷ x) ns ≡ m ++ flat_map (λ x. 47 ∷ x) ms = cc e in
    sym (after n ns ha.0.0 (free_of ns ha.1)) ∙ ap parts_of t ∙ after m ms hb.0.0 (free_of ms hb.1)
