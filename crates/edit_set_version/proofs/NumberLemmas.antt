-- The first bump of the crate in a folder.
use Rattle.std.proofs.Common.{◌≡◌, ◌∙◌, ℕ, suc, List, [], ◌∷◌, ◌++◌, Bool, true, false, length, Option, Some, None, option_map, refl, ap, inl, inr}
use Rattle.std.specs.Prelude.{if◌then◌else◌}
use Rattle.std.specs.Option.{option_or}
use Rattle.std.proofs.lemmas.Bool.{cases_Bool}
use Rattle.semver.specs.Parse.{Parts}
use Rattle.edit_set_version.specs.Folders.{Folder, folder_of, same_folder}
use Rattle.edit_set_version.specs.BumpsByFolder.{first_in}
use Rattle.edit_set_version.specs.SetVersioned.{Bump, next_in}

-- a number more
abbrev later : ℕ × Parts → ℕ × Parts
later n = (suc n.0, n.1)

-- the first of two, later
or_later : (o : Option (ℕ × Parts)) (s : Bool) (n : ℕ × Parts)
    → option_map later (option_or o (if s then Some n else None))
    ≡ option_or (option_map later o) (if s then Some (later n) else None)
or_later (Some m) s n = refl
or_later None true n = refl
or_later None false n = refl

-- bumps with one more
pub first_more : (bs : List Bump) (b : Bump) (folder : Folder)
    → first_in (bs ++ b ∷ []) folder
    ≡ option_or (first_in bs folder)
    (if same_folder (folder_of b.member.path) folder then Some (length bs, b.next) else None)
first_more [] b folder = elim (cases_Bool (same_folder (folder_of b.member.path) folder)) [
  | inl same ↦ rw same refl
  | inr other ↦ rw other refl
]
first_more (x ∷ bs) b folder = elim (cases_Bool (same_folder (folder_of x.member.path) folder)) [
  | inl same ↦ rw same refl
  | inr other ↦ rw other (ap (option_map later) (first_more bs b folder)
      ∙ or_later (first_in bs folder) (same_folder (folder_of b.member.path) folder) (length bs, b.next))
]

-- its next version
pub next_first : (bs : List Bump) (folder : Folder)
    → next_in bs folder ≡ option_map (λ (n : ℕ × Parts). n.1) (first_in bs folder)
next_first [] folder = refl
next_first (x ∷ bs) folder = elim (cases_Bool (same_folder (folder_of x.member.path) folder)) [
  | inl same ↦ rw same refl
  | inr other ↦ rw other (next_first bs folder ∙ of_later (first_in bs folder))
]
  where
    of_later : (o : Option (ℕ × Parts))
        → option_map (λ (n : ℕ × Parts). n.1) o ≡ option_map (λ (n : ℕ × Parts). n.1) (option_map later o)
    of_later None = refl
    of_later (Some n) = refl
