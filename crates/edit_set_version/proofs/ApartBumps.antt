-- No two bumped crates of a workspace share a folder.
use Rattle.std.proofs.Common.{◌≡◌, ◌≢◌, ◌∙◌, ◌<◌, ℕ, zero, suc, arith, List, [], ◌∷◌, ◌++◌, Bool, true, false, Option, Some, None, length, map, not, refl, sym, ap, subst, slice_index_or, inl, inr}
use Rattle.std.specs.Prelude.{◌&&◌, ◌==◌, AllPairs}
use Rattle.std.specs.List.{AllByRecursion, AllZip, filter, filter_map}
use Rattle.std.proofs.lemmas.Bool.{cases_Bool}
use Rattle.edit_metadata.specs.Folders.{IsManifestFolder}
use Rattle.edit_metadata.specs.Metadata.{PackageModel, WorkspaceModel, members}
use Rattle.edit_metadata.specs.Workspaces.{HasOwnFolders}
use Rattle.edit_metadata.specs.declared.input.Input.{Input}
use Rattle.edit_manifest.specs.Versions.{is_inherited}
use Rattle.semver.specs.Parse.{Parts}
use Rattle.edit_set_version.specs.Bumps.{Target, bump, next_of}
use Rattle.edit_set_version.specs.Chosen.{SelectionView, Member, chosen_members, inheriting_members, is_member_selected}
use Rattle.edit_set_version.specs.FolderTexts.{folder_text}
use Rattle.edit_set_version.specs.Folders.{folder_of, same_folder}
use Rattle.edit_set_version.specs.Projects.{IsMemberOf, IsProject}
use Rattle.edit_set_version.specs.SetVersioned.{Bump, Project, bump_of, bumps}
use Rattle.edit_set_version.proofs.FolderParents.{folder_named}
use Rattle.edit_set_version.proofs.FolderSameness.{same_folder_is}
use Rattle.edit_set_version.specs.Apart.{AreApart}
use Rattle.edit_set_version.proofs.ProjectRoot.{one_normal}
use Rattle.edit_set_version.proofs.TablePlaces.{all_append}
use Rattle.edit_set_version.proofs.WrittenPlaces.{all_filter_map, option_cases}

-- two members stand in other folders
abbrev pub IsApart : Member → Member → Type 0
IsApart m c = same_folder (folder_of m.path) (folder_of c.path) ≡ false

-- members stand in folders of their own
abbrev pub StandApart : List Member → Type 0
StandApart [] = Unit {0}
StandApart (m ∷ ms) = AllByRecursion (IsApart m) ms × StandApart ms

-- ---- from the metadata

-- the text of a member's folder
abbrev pub folder_text_of : Member → List ℕ
folder_text_of m = folder_text (folder_of m.path)

-- texts that differ are those of other folders
other_texts : (m c : Member) → folder_text_of m ≢ folder_text_of c → IsApart m c
other_texts m c differ = elim (cases_Bool (same_folder (folder_of m.path) (folder_of c.path))) [
  | inl same ↦ absurd (differ (ap folder_text (same_folder_is (folder_of m.path) (folder_of c.path) same)))
  | inr other ↦ other
]

-- what holds of an element and each later one
later_all : {X : Type 0} (R : X → X → Type 0) (x : X) (xs : List X)
    → ((j : ℕ) (d : X) → j < length xs → R x (slice_index_or xs j d)) → AllByRecursion (R x) xs
later_all R x [] h = tt
later_all R x (y ∷ ys) h =
    (h zero y (omega arith), later_all R x ys (λ j d w. h (suc j) d (omega (arith, w))))

-- so are folders of members, by their texts
members_apart : (ms : List Member) → AllPairs (λ (a b : List ℕ). a ≢ b) (map folder_text_of ms) → StandApart ms
members_apart [] pairs = tt
members_apart (m ∷ ms) pairs = (
  each ms (later_all (λ (a b : List ℕ). a ≢ b) (folder_text_of m) (map folder_text_of ms)
      (λ j d w. pairs zero (suc j) d (omega arith) (omega (arith, w)))),
  members_apart ms (λ i j d lt w. pairs (suc i) (suc j) d (omega (arith, lt)) (omega (arith, w))),
)
  where
    each : (cs : List Member)
        → AllByRecursion (λ (b : List ℕ). folder_text_of m ≢ b) (map folder_text_of cs)
        → AllByRecursion (IsApart m) cs
    each [] h = tt
    each (c ∷ cs) h = (other_texts m c h.0, each cs h.1)

-- the folders of manifests are those of the members
folder_texts : (is : List Input) (ps : List PackageModel) (folders : List (List ℕ)) (ms : List Member)
    → AllZip IsManifestFolder (map (λ (p : PackageModel). p.manifest_path) ps) folders
    → AllZip (IsMemberOf is) ps ms → folders ≡ map folder_text_of ms
folder_texts is [] [] [] stand are = refl
folder_texts is [] [] (m ∷ ms) stand are = absurd are
folder_texts is [] (f ∷ fs) ms stand are = absurd stand
folder_texts is (p ∷ ps) [] ms stand are = absurd stand
folder_texts is (p ∷ ps) (f ∷ fs) [] stand are = absurd are
folder_texts is (p ∷ ps) (f ∷ fs) (m ∷ ms) stand are =
    let same = one_normal p.manifest_path stand.0.normal m.path stand.0.is_normal are.0.path in
    let own : f ≡ folder_text_of m
    = folder_named p.manifest_path stand.0.normal f stand.0.is_normal stand.0.above
    ∙ ap (λ x. folder_text (folder_of x)) same in
    ap (λ x. x ∷ fs) own ∙ ap (λ xs. folder_text_of m ∷ xs) (folder_texts is ps fs ms stand.1 are.1)

-- the members of a project
pub project_apart : (w : WorkspaceModel) (is : List Input) (p : Project) → HasOwnFolders w → IsProject w is p
    → StandApart p.members
project_apart w is p own project =
    members_apart p.members
    (subst (AllPairs (λ (a b : List ℕ). a ≢ b))
    (folder_texts is (members w.packages) own.folders p.members own.stand project.members) own.apart)

-- ---- those that are chosen

apart_both : (m c : Member) → IsApart m c → IsApart c m
apart_both m c apart = elim (cases_Bool (same_folder (folder_of c.path) (folder_of m.path))) [
  | inl same ↦
      let e = same_folder_is (folder_of c.path) (folder_of m.path) same in
      let back : same_folder (folder_of c.path) (folder_of c.path) ≡ false
      = ap (λ f. same_folder f (folder_of c.path)) e ∙ apart in
      let too : same_folder (folder_of c.path) (folder_of c.path) ≡ true
      = ap (same_folder (folder_of c.path)) e ∙ same in
      let none : false ≡ true = sym back ∙ too in
      cc none
  | inr other ↦ other
]

all_filtered : {X : Type 0} (P : X → Type 0) (p : X → Bool) (xs : List X) → AllByRecursion P xs
    → AllByRecursion P (filter p xs)
all_filtered P p [] all = tt
all_filtered P p (x ∷ xs) all = elim (cases_Bool (p x)) [
  | inl passes ↦ rw passes (all.0, all_filtered P p xs all.1)
  | inr fails ↦ rw fails (all_filtered P p xs all.1)
]

-- one more in the middle
put_apart : (xs : List Member) (m : Member) (ys : List Member) → AllByRecursion (IsApart m) (xs ++ ys)
    → StandApart (xs ++ ys) → StandApart (xs ++ m ∷ ys)
put_apart [] m ys all apart = (all, apart)
put_apart (x ∷ xs) m ys all apart = (
  amid xs apart.0,
  put_apart xs m ys all.1 apart.1,
)
  where
    amid : (zs : List Member) → AllByRecursion (IsApart x) (zs ++ ys)
        → AllByRecursion (IsApart x) (zs ++ m ∷ ys)
    amid [] h = (apart_both m x all.0, h)
    amid (z ∷ zs) h = (h.0, amid zs h.1)

-- two parts in a row that have no member in common
parts_apart : (p q : Member → Bool) → ((m : Member) → p m ≡ true → q m ≡ false) → (ms : List Member)
    → StandApart ms → StandApart (filter p ms ++ filter q ms)
parts_apart p q none [] apart = tt
parts_apart p q none (m ∷ ms) apart = elim (cases_Bool (p m)) [
  | inl first ↦ rw (first, none m first) (
    all_append (IsApart m) (filter p ms) (filter q ms) (all_filtered (IsApart m) p ms apart.0)
        (all_filtered (IsApart m) q ms apart.0),
    parts_apart p q none ms apart.1,
  )
  | inr past ↦ elim (cases_Bool (q m)) [
    | inl second ↦ rw (past, second) (put_apart (filter p ms) m (filter q ms)
        (all_append (IsApart m) (filter p ms) (filter q ms) (all_filtered (IsApart m) p ms apart.0)
        (all_filtered (IsApart m) q ms apart.0)) (parts_apart p q none ms apart.1))
    | inr neither ↦ rw (past, neither) (parts_apart p q none ms apart.1)
  ]
]

filter_none : {X : Type 0} (xs : List X) → filter (λ (x : X). false) xs ≡ []
filter_none [] = refl
filter_none (x ∷ xs) = filter_none xs

-- the chosen members
pub chosen_apart : (a : SelectionView) (ms : List Member) → StandApart ms → StandApart (chosen_members a ms)
chosen_apart a ms apart = elim (cases_Bool (length (inheriting_members a ms) == 0)) [
  | inl alone ↦ rw alone (subst (λ xs. StandApart (filter (is_member_selected a) ms ++ xs)) (filter_none ms)
      (parts_apart (is_member_selected a) (λ m. false) (λ m wanted. refl) ms apart))
  | inr more ↦ rw more (parts_apart (is_member_selected a) (λ m. not (is_member_selected a m) && is_inherited m.tree)
      (λ m wanted. rw wanted refl) ms apart)
]

-- ---- their bumps

-- a bump is that of its member
bump_own : (t : Target) (a : SelectionView) (m : Member) (b : Bump) → bump_of t a m ≡ Some b → b.member ≡ m
bump_own t a m b is = go (next_of (bump t a.metadata m.version)) refl
  where
    go : (o : Option Parts) → next_of (bump t a.metadata m.version) ≡ o → b.member ≡ m
    go None e = let k = rw e at is in cc k
    go (Some v) e =
        let k : ◌≡◌ {A = Option Bump} (Some (record { member = m; next = v })) (Some b) = rw e at is in
        cc k

-- bumps of members that stand apart do
made_apart : (t : Target) (a : SelectionView) (ms : List Member) → StandApart ms
    → AreApart (filter_map (bump_of t a) ms)
made_apart t a [] apart = tt
made_apart t a (m ∷ ms) apart = elim (option_cases (bump_of t a m)) [
  | inl none ↦ rw none (made_apart t a ms apart.1)
  | inr some ↦ rw some.1 (
    all_filter_map (IsApart m)
        (λ c. same_folder (folder_of some.0.member.path) (folder_of c.member.path) ≡ false) (bump_of t a)
        (λ c own y is. ap (λ (x : Member). same_folder (folder_of x.path) (folder_of y.member.path))
        (bump_own t a m some.0 some.1)
        ∙ ap (λ (x : Member). same_folder (folder_of m.path) (folder_of x.path)) (bump_own t a c y is) ∙ own)
        ms apart.0,
    made_apart t a ms apart.1,
  )
]

-- the bumps of a project
pub bumps_apart : (t : Target) (a : SelectionView) (w : WorkspaceModel) (is : List Input) (p : Project)
    → HasOwnFolders w → IsProject w is p → AreApart (bumps t a p)
bumps_apart t a w is p own project =
    made_apart t a (chosen_members a p.members) (chosen_apart a p.members (project_apart w is p own project))
