-- The one bump whose version is written into a manifest.
use Rattle.std.proofs.Common.{◌≡◌, ◌∙◌, ◌<◌, ℕ, zero, suc, arith, List, [], ◌∷◌, ◌++◌, Bool, true, false, Option, Some, None, cond, get_or, length, map, option_map, refl, ap, sym, subst, inl, inr}
use Rattle.std.specs.Prelude.{◌&&◌, String, codes}
use Rattle.std.specs.declared.alloc.Global.{Global}
use Rattle.std.specs.declared.collections.BTreeMap.{BTreeMap}
use Rattle.std.specs.List.{AllByRecursion, filter, filter_map}
use Rattle.std.proofs.lemmas.Bool.{cases_Bool}
use Rattle.semver.specs.Identifiers.{parts_of, parts_text}
use Rattle.semver.specs.Parse.{Parts}
use Rattle.edit_tree.specs.Assertions.{Place}
use Rattle.edit_tree.specs.Replaces.{AreDistinct, Edits}
use Rattle.edit_tree.proofs.SamePlace.{same_bytes_is}
use Rattle.edit_manifest.specs.Versions.{package_version}
use Rattle.edit_set_version.specs.Apart.{AreApart}
use Rattle.edit_set_version.specs.Crates.{bump_view, bumps_view}
use Rattle.edit_set_version.specs.Folders.{folder_of, same_folder}
use Rattle.edit_set_version.specs.BumpsByFolder.{HasFirstBumps, first_in, numbered_view, numbered_at}
use Rattle.edit_set_version.specs.SetVersioned.{Bump, own_edit, writes_own}
use Rattle.edit_set_version.specs.declared.crates.Bump.{Bump as Bumping}
use Rattle.edit_set_version.specs.declared.numbers.Numbered.{Numbered}
use Rattle.edit_set_version.proofs.FolderSameness.{same_folder_is, same_folder_self}
use Rattle.edit_set_version.proofs.ReachedFolders.{way_up}
use Rattle.edit_set_version.proofs.WrittenPlaces.{all_then}

-- ---- folders

and_first : (a b : Bool) → (a && b) ≡ true → a ≡ true
and_first true b h = refl
and_first false b h = cc h

-- a bump that writes its own version into a manifest stands in its folder
own_folder : (file : List ℕ) (b : Bump) → writes_own file b ≡ true → folder_of b.member.path ≡ folder_of file
own_folder file b h = ap folder_of (same_bytes_is b.member.path file (and_first _ _ h))

-- one that stands elsewhere writes none
own_elsewhere : (file : List ℕ) (b : Bump) → (folder_of b.member.path ≡ folder_of file → ⊥)
    → writes_own file b ≡ false
own_elsewhere file b other = elim (cases_Bool (writes_own file b)) [
  | inl writes ↦ absurd (other (own_folder file b writes))
  | inr none ↦ none
]

-- so one whose folder is another
unlike : (file : List ℕ) (b : Bump) → same_folder (folder_of b.member.path) (folder_of file) ≡ false
    → folder_of b.member.path ≡ folder_of file → ⊥
unlike file b other e =
    let back : false ≡ true
    = sym other ∙ (ap (λ f. same_folder f (folder_of file)) e ∙ same_folder_self (folder_of file)) in
    cc back

-- folders that differ
differ : (b c : Bump) → same_folder (folder_of b.member.path) (folder_of c.member.path) ≡ false
    → folder_of c.member.path ≡ folder_of b.member.path → ⊥
differ b c apart e =
    let back : false ≡ true
    = sym apart ∙ (ap (same_folder (folder_of b.member.path)) e
    ∙ same_folder_self (folder_of b.member.path)) in
    cc back

-- none of these writes its own
none_own : (file : List ℕ) (bs : List Bump)
    → AllByRecursion (λ c. folder_of c.member.path ≡ folder_of file → ⊥) bs → filter (writes_own file) bs ≡ []
none_own file [] all = refl
none_own file (b ∷ bs) all = rw (own_elsewhere file b all.0) (none_own file bs all.1)

-- where one stands in the manifest's folder, none of those that stand apart from it does
rest_none : (file : List ℕ) (b : Bump) (bs : List Bump) → folder_of b.member.path ≡ folder_of file
    → AllByRecursion (λ c. same_folder (folder_of b.member.path) (folder_of c.member.path) ≡ false) bs
    → filter (writes_own file) bs ≡ []
rest_none file b bs here apart =
    none_own file bs
    (all_then (λ c. same_folder (folder_of b.member.path) (folder_of c.member.path) ≡ false)
    (λ c. folder_of c.member.path ≡ folder_of file → ⊥) (λ c other e. differ b c other (e ∙ sym here)) bs
    apart)

-- ---- the first one in the manifest's folder

map_none : {X Y : Type 0} (f : X → Y) (o : Option X) → option_map f o ≡ None → o ≡ None
map_none f None h = refl
map_none f (Some x) h = cc h

-- a number more
abbrev later : ℕ × Parts → ℕ × Parts
later m = (suc m.0, m.1)

-- a later one
some_later : (o : Option (ℕ × Parts)) (n : ℕ) (v : Parts)
    → option_map later o ≡ Some (n, v)
    → (m : ℕ) × (o ≡ Some (m, v)) × (n ≡ suc m)
some_later None n v h = cc h
some_later (Some m) n v h =
    let pair : later m ≡ (n, v) = cc h in
    let number : suc m.0 ≡ n = ap (λ (z : ℕ × Parts). z.0) pair in
    let next : m.1 ≡ v = ap (λ (z : ℕ × Parts). z.1) pair in
    (m.0, ap (λ (x : Parts). Some (m.0, x)) next, sym number)

-- the number of a pair
first_number : (m n : ℕ) (u v : Parts) → ◌≡◌ {A = Option (ℕ × Parts)} (Some (m, u)) (Some (n, v)) → m ≡ n
first_number m n u v e =
    let pair : ◌≡◌ {A = ℕ × Parts} (m, u) (n, v) = cc e in
    ap (λ (z : ℕ × Parts). z.0) pair

-- where none stands there, none writes its own version
pub own_none : (file : List ℕ) (bs : List Bump) → first_in bs (folder_of file) ≡ None
    → filter (writes_own file) bs ≡ []
own_none file [] h = refl
own_none file (b ∷ bs) h = elim (cases_Bool (same_folder (folder_of b.member.path) (folder_of file))) [
  | inl same ↦ let e = rw same at h in cc e
  | inr other ↦
      let rest = rw other at h in
      rw (own_elsewhere file b (unlike file b other))
      (own_none file bs (map_none later (first_in bs (folder_of file)) rest))
]

-- the bump of this number is there, and no other writes its own version into the manifest
pub record IsOwnAt (file : List ℕ) (xs : List Bumping) (n : ℕ) : Type 0 where
  pub within : n < length xs
  pub only : (x : Bumping) → x ≡ get_or xs n x
      → filter (writes_own file) (bumps_view xs) ≡ filter (writes_own file) (bump_view x ∷ [])

-- so it is with the first one that stands there
pub own_first : (file : List ℕ) (xs : List Bumping) (n : ℕ) (v : Parts) → AreApart (bumps_view xs)
    → first_in (bumps_view xs) (folder_of file) ≡ Some (n, v) → IsOwnAt file xs n
own_first file [] n v apart h = cc h
own_first file (x ∷ xs) n v apart h =
    elim (cases_Bool (same_folder (folder_of (bump_view x).member.path) (folder_of file))) [
      | inl same ↦
          let e : ◌≡◌ {A = Option (ℕ × Parts)} (Some (0, (bump_view x).next)) (Some (n, v)) = rw same at h in
          let number : 0 ≡ n = first_number 0 n (bump_view x).next v e in
          let here = same_folder_is (folder_of (bump_view x).member.path) (folder_of file) same in
          let rest = rest_none file (bump_view x) (bumps_view xs) here apart.0 in
          subst (IsOwnAt file (x ∷ xs)) number (record {
            within = omega arith;
            only = λ y is.
                ap (λ bs. cond (writes_own file (bump_view x)) (bump_view x ∷ bs) bs) rest
                ∙ ap (λ z. filter (writes_own file) (bump_view z ∷ [])) (sym is);
          })
      | inr other ↦
          let rest = rw other at h in
          let back = some_later (first_in (bumps_view xs) (folder_of file)) n v rest in
          let there = own_first file xs back.0 v apart.1 back.1 in
          let away = own_elsewhere file (bump_view x) (unlike file (bump_view x) other) in
          subst (IsOwnAt file (x ∷ xs)) (sym back.2) (record {
            within = omega (arith, there.within);
            only = λ y is.
                ap (λ b. cond b (bump_view x ∷ filter (writes_own file) (bumps_view xs))
                (filter (writes_own file) (bumps_view xs))) away
                ∙ there.only y is;
          })
    ]

-- what a map has for a manifest's folder
pub tells_beside : (bs : List Bump) (numbers : BTreeMap (String Global) Numbered Global) (file : List ℕ)
    → HasFirstBumps bs numbers → numbered_at numbers (folder_of file) ≡ first_in bs (folder_of file)
tells_beside bs numbers file tells =
    subst (λ folder. numbered_at numbers folder ≡ first_in bs folder) (way_up file) (tells (file ++ codes "/.."))

-- the bump of the number that such a map has
pub own_numbered : (file : List ℕ) (xs : List Bumping) (numbers : BTreeMap (String Global) Numbered Global)
    (o : Option Numbered) (numbered : Numbered) → HasFirstBumps (bumps_view xs) numbers → AreApart (bumps_view xs)
    → option_map numbered_view o ≡ numbered_at numbers (folder_of file) → o ≡ Some numbered
    → IsOwnAt file xs numbered.number
own_numbered file xs numbers o numbered tells apart is some =
    own_first file xs numbered.number (parts_of numbered.next.now) apart
    (sym (tells_beside (bumps_view xs) numbers file tells) ∙ sym is ∙ ap (option_map numbered_view) some)

-- ---- what is written

-- the own versions, one by one
pub own_edits : (file : List ℕ) (bs : List Bump)
    → filter_map (own_edit file) bs
    ≡ map (λ b. (package_version, parts_text b.next)) (filter (writes_own file) bs)
own_edits file [] = refl
own_edits file (b ∷ bs) = elim (cases_Bool (writes_own file b)) [
  | inl writes ↦ rw writes (ap (λ (es : Edits). (package_version, parts_text b.next) ∷ es) (own_edits file bs))
  | inr other ↦ rw other (own_edits file bs)
]

-- the place of one that is written
pub place_written : (p q : Place) (s t : List ℕ) → ◌≡◌ {A = Edits} ((p, s) ∷ []) ((q, t) ∷ []) → p ≡ q
place_written p q s t e =
    let pair : ◌≡◌ {A = Place × List ℕ} (p, s) (q, t) = cc e in
    ap (λ (z : Place × List ℕ). z.0) pair

-- bumps that stand apart write at most one
pub own_distinct : (file : List ℕ) (bs : List Bump) → AreApart bs
    → AreDistinct (filter_map (own_edit file) bs)
own_distinct file [] apart = tt
own_distinct file (b ∷ bs) apart = elim (cases_Bool (writes_own file b)) [
  | inl writes ↦
      let none : filter_map (own_edit file) bs ≡ []
      = own_edits file bs ∙ ap (map (λ b. (package_version, parts_text b.next)))
      (rest_none file b bs (own_folder file b writes) apart.0) in
      rw (writes, none) (tt, tt)
  | inr other ↦ rw other (own_distinct file bs apart.1)
]
