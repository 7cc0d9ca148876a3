-- Where no two bumped crates share a folder, the requirements on one of them are the same whether it is
-- bumped alone or with the others.
use Rattle.std.proofs.Common.{◌≡◌, ◌∙◌, ℕ, suc, List, [], ◌∷◌, ◌++◌, true, false, length, Option, Some, None, option_map, refl, ap, sym, inl, inr}
use Rattle.std.specs.Prelude.{◌==◌, if◌then◌else◌, option_and_then}
use Rattle.std.specs.List.{AllByRecursion, cons_option, filter_map}
use Rattle.std.proofs.Math.Dec.{eqb-suc-suc, eqb-suc-zero, eqb-zero-suc}
use Rattle.std.proofs.lemmas.Bool.{cases_Bool}
use Rattle.semver.specs.Parse.{Parts}
use Rattle.edit_manifest.specs.Tables.{Tree}
use Rattle.edit_set_version.specs.Apart.{AreApart}
use Rattle.edit_set_version.specs.Folders.{Folder, folder_of, resolve_folder, same_folder}
use Rattle.edit_set_version.specs.Dependents.{all_numbered, with_bump_index}
use Rattle.edit_set_version.specs.BumpsByFolder.{first_in}
use Rattle.edit_set_version.specs.PathDependency.{PathDependency, dependent_by_path, path_dependencies}
use Rattle.edit_set_version.specs.SetVersioned.{Bump, Dependent, dependents, next_in}
use Rattle.edit_set_version.specs.LineViews.{dependent_number}
use Rattle.edit_set_version.proofs.FolderSameness.{same_folder_is, same_folder_self}
use Rattle.edit_set_version.proofs.PointedLemmas.{dependents_pointed}

-- the next version, where the number is this one
abbrev pub of_number : ℕ → ℕ × Parts → Option Parts
of_number n m = if m.0 == n then Some m.1 else None

-- a number more
abbrev later : ℕ × Parts → ℕ × Parts
later n = (suc n.0, n.1)

of_later : (n : ℕ) (o : Option (ℕ × Parts))
    → option_and_then (of_number (suc n)) (option_map later o) ≡ option_and_then (of_number n) o
of_later n None = refl
of_later n (Some m) = ap (λ b. if b then Some m.1 else None) (eqb-suc-suc m.0 n)

zero_later : (o : Option (ℕ × Parts)) → option_and_then (of_number 0) (option_map later o) ≡ None
zero_later None = refl
zero_later (Some m) = ap (λ b. if b then Some m.1 else None) (eqb-suc-zero m.0)

-- what holds of all holds of one in the middle
pub middle : {A : Type 0} (P : A → Type 0) (xs : List A) (y : A) (ys : List A)
    → AllByRecursion P (xs ++ y ∷ ys) → P y
middle P [] y ys all = all.0
middle P (x ∷ xs) y ys all = middle P xs y ys all.1

-- a folder is not that of two crates that stand apart
other_folder : (a b folder : Folder) → same_folder a b ≡ false → same_folder a folder ≡ true
    → same_folder b folder ≡ false
other_folder a b folder apart same = elim (cases_Bool (same_folder b folder)) [
  | inl too ↦
      let e : a ≡ b = same_folder_is a folder same ∙ sym (same_folder_is b folder too) in
      let none : false ≡ true = sym apart ∙ ap (same_folder a) (sym e) ∙ same_folder_self a in
      cc none
  | inr differs ↦ differs
]

-- the next version of one bumped crate, by its number among all
pub alone_first : (before : List Bump) (b : Bump) (after : List Bump) (folder : Folder)
    → AreApart (before ++ b ∷ after)
    → next_in (b ∷ []) folder
    ≡ option_and_then (of_number (length before)) (first_in (before ++ b ∷ after) folder)
alone_first [] b after folder apart = elim (cases_Bool (same_folder (folder_of b.member.path) folder)) [
  | inl same ↦ rw same refl
  | inr other ↦ rw other (sym (zero_later (first_in after folder)))
]
alone_first (x ∷ xs) b after folder apart =
    elim (cases_Bool (same_folder (folder_of x.member.path) folder)) [
      | inl same ↦
          let apart_too = other_folder (folder_of x.member.path) (folder_of b.member.path) folder
          (middle (λ c. same_folder (folder_of x.member.path) (folder_of c.member.path) ≡ false) xs b after
          apart.0) same in
          rw (apart_too, same) (sym (ap (λ z. if z then Some x.next else None) (eqb-zero-suc (length xs))))
      | inr other ↦
          rw other (alone_first xs b after folder apart.1
          ∙ sym (of_later (length xs) (first_in (xs ++ b ∷ after) folder)))
    ]

-- the requirement of an entry on one bumped crate
alone_led : (before : List Bump) (b : Bump) (after : List Bump) (file : List ℕ) (q : PathDependency)
    → AreApart (before ++ b ∷ after)
    → dependent_by_path (b ∷ []) file q
    ≡ option_and_then (dependent_number (length before)) (with_bump_index (before ++ b ∷ after) file q)
alone_led before b after file q apart =
    ap (option_map (λ (v : Parts). record { place = q.place; text = q.text; next = v }))
    (alone_first before b after (resolve_folder file q.path) apart)
    ∙ both (first_in (before ++ b ∷ after) (resolve_folder file q.path))
  where
    both : (o : Option (ℕ × Parts))
        → option_map (λ (v : Parts). record { place = q.place; text = q.text; next = v })
        (option_and_then (of_number (length before)) o)
        ≡ option_and_then (dependent_number (length before))
        (option_map (λ (n : ℕ × Parts). (n.0, record { place = q.place; text = q.text; next = n.1 })) o)
    both None = refl
    both (Some m) = elim (cases_Bool (m.0 == length before)) [
      | inl same ↦ rw same refl
      | inr other ↦ rw other refl
    ]

-- those of a manifest
pub alone_dependents : (before : List Bump) (b : Bump) (after : List Bump) (file : List ℕ) (t : Tree)
    → AreApart (before ++ b ∷ after)
    → dependents (b ∷ []) file t
    ≡ filter_map (dependent_number (length before)) (all_numbered (before ++ b ∷ after) file t)
alone_dependents before b after file t apart = dependents_pointed (b ∷ []) file t ∙ each (path_dependencies t)
  where
    picked : (o : Option (ℕ × Dependent)) (ns : List (ℕ × Dependent))
        → cons_option (option_and_then (dependent_number (length before)) o)
        (filter_map (dependent_number (length before)) ns)
        ≡ filter_map (dependent_number (length before)) (cons_option o ns)
    picked None ns = refl
    picked (Some n) ns = refl

    each : (qs : List PathDependency)
        → filter_map (dependent_by_path (b ∷ []) file) qs
        ≡ filter_map (dependent_number (length before)) (filter_map (with_bump_index (before ++ b ∷ after) file) qs)
    each [] = refl
    each (q ∷ qs) =
        ap (λ (fs : List Dependent). cons_option (dependent_by_path (b ∷ []) file q) fs) (each qs)
        ∙ ap (λ o. cons_option o (filter_map (dependent_number (length before))
        (filter_map (with_bump_index (before ++ b ∷ after) file) qs))) (alone_led before b after file q apart)
        ∙ picked (with_bump_index (before ++ b ∷ after) file q)
        (filter_map (with_bump_index (before ++ b ∷ after) file) qs)
