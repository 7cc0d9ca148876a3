-- The edits of a plan are neither at nor above the places that determine a manifest's entries.
use Rattle.std.proofs.Common.{◌≡◌, ℕ, Bool, true, false, ◌&&◌, List, [], ◌∷◌, refl, ap, inl, inr}
use Rattle.std.specs.Prelude.{codes}
use Rattle.std.proofs.lemmas.Bool.{cases_Bool}
use Rattle.edit_tree.specs.Assertions.{Place, Step, key, at, same_bytes, same_place, same_step}
use Rattle.edit_tree.specs.Replaces.{is_below}
use Rattle.edit_tree.proofs.SamePlace.{same_bytes_is}
use Rattle.edit_manifest.specs.Kinds.{is_kind}
use Rattle.edit_manifest.specs.Tables.{place_of_keys}
use Rattle.edit_manifest.specs.Versions.{package_version, shared_version, version_member}
use Rattle.edit_set_version.proofs.TablePlaces.{IsTable, of_kind, of_target, of_workspace}

-- the first place is at the second or above it
abbrev pub reaches : Place → Place → Bool
reaches [] q = true
reaches (s ∷ ss) [] = false
reaches (s ∷ ss) (t ∷ ts) = same_step s t && reaches ss ts

-- what a plan writes: the version of a package, that of the workspace, or that of an entry
pub data IsWritten : Place → Type 0 where
  own : IsWritten package_version
  whole : IsWritten shared_version
  entry : (table : Place) (name : List ℕ) → IsTable table → IsWritten (version_member (at table (key name)))

-- ---- tools

-- nothing is true where its second half is not
and_false : (x y : Bool) → y ≡ false → (x && y) ≡ false
and_false true y h = h
and_false false y h = refl

-- apart at the first step
head : (s t : Step) (ss ts : Place) → same_step s t ≡ false → reaches (s ∷ ss) (t ∷ ts) ≡ false
head s t ss ts h = rw h refl

-- apart behind the first step
next : (s t : Step) (ss ts : Place) → reaches ss ts ≡ false → reaches (s ∷ ss) (t ∷ ts) ≡ false
next s t ss ts h = and_false (same_step s t) (reaches ss ts) h

-- the member that each of them ends with
abbrev last : Place
last = key (codes "version") ∷ []

-- the name of a kind is none that is not
kind_left : (name kind : List ℕ) → is_kind name ≡ false → is_kind kind ≡ true → same_bytes name kind ≡ false
kind_left name kind fails holds = elim (cases_Bool (same_bytes name kind)) [
  | inl same ↦
      let e : is_kind name ≡ is_kind kind = ap is_kind (same_bytes_is name kind same) in
      cc (e, fails, holds)
  | inr other ↦ other
]

-- the other way round
kind_right : (name kind : List ℕ) → is_kind name ≡ false → is_kind kind ≡ true → same_bytes kind name ≡ false
kind_right name kind fails holds = elim (cases_Bool (same_bytes kind name)) [
  | inl same ↦
      let e : is_kind kind ≡ is_kind name = ap is_kind (same_bytes_is kind name same) in
      cc (e, fails, holds)
  | inr other ↦ other
]

-- ---- at the entries

-- what is written is neither at an entry nor above it
pub entry_clear : (e table : Place) (name : List ℕ) → IsWritten e → IsTable table
    → reaches e (at table (key name)) ≡ false
entry_clear _ _ name own (of_kind kind holds) =
    head (key (codes "package")) (key kind) last (key name ∷ []) (kind_left (codes "package") kind refl holds)
entry_clear _ _ name own of_workspace = refl
entry_clear _ _ name own (of_target target kind holds) = refl
entry_clear _ _ name whole (of_kind kind holds) =
    head (key (codes "workspace")) (key kind) (key (codes "package") ∷ last) (key name ∷ [])
    (kind_left (codes "workspace") kind refl holds)
entry_clear _ _ name whole of_workspace = refl
entry_clear _ _ name whole (of_target target kind holds) = refl
entry_clear _ _ name (entry _ n (of_kind k y)) (of_kind kind holds) =
    next (key k) (key kind) (key n ∷ last) (key name ∷ []) (next (key n) (key name) last [] refl)
entry_clear _ _ name (entry _ n (of_kind k y)) of_workspace =
    head (key k) (key (codes "workspace")) (key n ∷ last) (key (codes "dependencies") ∷ key name ∷ [])
    (kind_right (codes "workspace") k refl y)
entry_clear _ _ name (entry _ n (of_kind k y)) (of_target target kind holds) =
    head (key k) (key (codes "target")) (key n ∷ last) (key target ∷ key kind ∷ key name ∷ [])
    (kind_right (codes "target") k refl y)
entry_clear _ _ name (entry _ n of_workspace) (of_kind kind holds) =
    head (key (codes "workspace")) (key kind) (key (codes "dependencies") ∷ key n ∷ last) (key name ∷ [])
    (kind_left (codes "workspace") kind refl holds)
entry_clear _ _ name (entry _ n of_workspace) of_workspace = next (key n) (key name) last [] refl
entry_clear _ _ name (entry _ n of_workspace) (of_target target kind holds) = refl
entry_clear _ _ name (entry _ n (of_target x k y)) (of_kind kind holds) =
    head (key (codes "target")) (key kind) (key x ∷ key k ∷ key n ∷ last) (key name ∷ [])
    (kind_left (codes "target") kind refl holds)
entry_clear _ _ name (entry _ n (of_target x k y)) of_workspace = refl
entry_clear _ _ name (entry _ n (of_target x k y)) (of_target target kind holds) =
    next (key x) (key target) (key k ∷ key n ∷ last) (key kind ∷ key name ∷ [])
    (next (key k) (key kind) (key n ∷ last) (key name ∷ []) (next (key n) (key name) last [] refl))

-- ---- at the tables

-- what is above a place is above what stands below it
reaches_more : (e q : Place) (s : Step) → reaches e (at q s) ≡ false → reaches e q ≡ false
reaches_more [] q s h = h
reaches_more (x ∷ xs) [] s h = refl
reaches_more (x ∷ xs) (y ∷ ys) s h = elim (cases_Bool (same_step x y)) [
  | inl same ↦ rw same (reaches_more xs ys s (rw same at h))
  | inr other ↦ rw other refl
]

-- what is written is neither at a table nor above it
pub table_clear : (e table : Place) → IsWritten e → IsTable table → reaches e table ≡ false
table_clear e table w shape = reaches_more e table (key []) (entry_clear e table [] w shape)

-- nor at the targets
pub target_clear : (e : Place) (target : List ℕ) → IsWritten e
    → reaches e (place_of_keys (codes "target" ∷ target ∷ [])) ≡ false
target_clear e target w =
    reaches_more e (place_of_keys (codes "target" ∷ target ∷ [])) (key (codes "dependencies"))
    (table_clear e _ w (of_target target (codes "dependencies") refl))

-- nor at a member of the root
pub member_clear : (e : Place) (name : List ℕ) → IsWritten e → reaches e (place_of_keys (name ∷ [])) ≡ false
member_clear _ name own = next (key (codes "package")) (key name) last [] refl
member_clear _ name whole = next (key (codes "workspace")) (key name) (key (codes "package") ∷ last) [] refl
member_clear _ name (entry _ n (of_kind k y)) = next (key k) (key name) (key n ∷ last) [] refl
member_clear _ name (entry _ n of_workspace) =
    next (key (codes "workspace")) (key name) (key (codes "dependencies") ∷ key n ∷ last) [] refl
member_clear _ name (entry _ n (of_target x k y)) =
    next (key (codes "target")) (key name) (key x ∷ key k ∷ key n ∷ last) [] refl

-- nor at the package of the workspace
pub shared_clear : (e : Place) → IsWritten e
    → reaches e (place_of_keys (codes "workspace" ∷ codes "package" ∷ [])) ≡ false
shared_clear _ own = refl
shared_clear _ whole = refl
shared_clear _ (entry _ n (of_kind k y)) =
    head (key k) (key (codes "workspace")) (key n ∷ last) (key (codes "package") ∷ [])
    (kind_right (codes "workspace") k refl y)
shared_clear _ (entry _ n of_workspace) = refl
shared_clear _ (entry _ n (of_target x k y)) = refl

-- nor at the root
pub root_clear : (e : Place) → IsWritten e → reaches e [] ≡ false
root_clear e w = reaches_more e [] (key []) (member_clear e [] w)

-- ---- what that says

-- a place that is not reached is another
pub not_same : (e q : Place) → reaches e q ≡ false → same_place e q ≡ false
not_same [] q h = absurd cc
not_same (s ∷ ss) [] h = refl
not_same (s ∷ ss) (t ∷ ts) h = elim (cases_Bool (same_step s t)) [
  | inl same ↦ rw same (not_same ss ts (rw same at h))
  | inr other ↦ rw other refl
]

-- and does not lie below
pub not_below : (e q : Place) → reaches e q ≡ false → is_below e q ≡ false
not_below [] q h = absurd cc
not_below (s ∷ ss) [] h = refl
not_below (s ∷ ss) (t ∷ ts) h = elim (cases_Bool (same_step s t)) [
  | inl same ↦ rw same (not_below ss ts (rw same at h))
  | inr other ↦ rw other refl
]

-- what lies below a place has a front at that place
pub member_below : (e q : Place) (s : Step) → reaches e q ≡ false → is_below e (at q s) ≡ false
member_below [] q s h = absurd cc
member_below (x ∷ []) [] s h = and_false (same_step x s) false refl
member_below (x ∷ y ∷ ys) [] s h = and_false (same_step x s) false refl
member_below (x ∷ xs) (y ∷ ys) s h = elim (cases_Bool (same_step x y)) [
  | inl same ↦ rw same (member_below xs ys s (rw same at h))
  | inr other ↦ rw other refl
]

-- places with different last steps are different
pub last_differs : (a b : Place) (s u : Step) → same_step s u ≡ false → same_place (at a s) (at b u) ≡ false
last_differs [] [] s u e = rw e refl
last_differs [] (t ∷ []) s u e = and_false (same_step s t) false refl
last_differs [] (t ∷ v ∷ ts) s u e = and_false (same_step s t) false refl
last_differs (t ∷ []) [] s u e = and_false (same_step t u) false refl
last_differs (t ∷ v ∷ ts) [] s u e = and_false (same_step t u) false refl
last_differs (t ∷ ts) (x ∷ xs) s u e =
    and_false (same_step t x) (same_place (at ts s) (at xs u)) (last_differs ts xs s u e)

-- what is written is a member `version`
pub record IsVersionMember (e : Place) : Type 0 where
  pub front : Place
  pub is : e ≡ version_member front

-- each of the three is one
pub version_at_end : (e : Place) → IsWritten e → IsVersionMember e
version_at_end _ own = record { front = key (codes "package") ∷ []; is = refl }
version_at_end _ whole = record { front = key (codes "workspace") ∷ key (codes "package") ∷ []; is = refl }
version_at_end _ (entry table name shape) = record { front = at table (key name); is = refl }

-- apart at the first step
head_same : (s t : Step) (ss ts : Place) → same_step s t ≡ false → same_place (s ∷ ss) (t ∷ ts) ≡ false
head_same s t ss ts h = rw h refl

-- the version of the package is that of no entry
pub own_apart : (table : Place) (name : List ℕ) → IsTable table
    → same_place package_version (version_member (at table (key name))) ≡ false
own_apart _ name (of_kind kind holds) =
    head_same (key (codes "package")) (key kind) last (key name ∷ last)
    (kind_left (codes "package") kind refl holds)
own_apart _ name of_workspace = refl
own_apart _ name (of_target target kind holds) = refl

-- nor is that of the workspace
pub whole_apart : (table : Place) (name : List ℕ) → IsTable table
    → same_place shared_version (version_member (at table (key name))) ≡ false
whole_apart _ name (of_kind kind holds) =
    head_same (key (codes "workspace")) (key kind) (key (codes "package") ∷ last) (key name ∷ last)
    (kind_left (codes "workspace") kind refl holds)
whole_apart _ name of_workspace = refl
whole_apart _ name (of_target target kind holds) = refl
