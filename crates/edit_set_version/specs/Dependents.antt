-- The requirements of a manifest on bumped crates, each with the index of its bump (own).
use Rattle.std.specs.Prelude.{◌≡◌, ℕ, List, Option, Some, option_map, string_bytes}
use Rattle.std.specs.List.{filter_map}
use Rattle.semver.specs.Identifiers.{parts_of}
use Rattle.edit_base.specs.Errors.{IsMemory}
use Rattle.edit_document.specs.Items.{place_view}
use Rattle.edit_manifest.specs.Tables.{Tree}
use Rattle.edit_version.specs.Requirement.{upgrade_of}
use Rattle.edit_set_version.specs.Folders.{resolve_folder}
use Rattle.edit_set_version.specs.Admitted.{CanRise}
use Rattle.edit_set_version.specs.BumpsByFolder.{first_in}
use Rattle.edit_set_version.specs.PathDependency.{PathDependency, dependent_by_path, path_dependencies}
use Rattle.edit_set_version.specs.PlanCauses.{FailsAtEntry}
use Rattle.edit_set_version.specs.SetVersioned.{Bump, Dependent, raised_dependent_text}
use Rattle.edit_set_version.specs.declared.failure.VersionFailure.{VersionFailure}
use Rattle.edit_set_version.specs.declared.dependents.DependentEntry.{DependentEntry}

-- the requirement of an entry on a bumped crate, with the index of the bump
abbrev pub with_bump_index : List Bump → List ℕ → PathDependency → Option (ℕ × Dependent)
with_bump_index bs file q =
    option_map (λ n. (n.0, record { place = q.place; text = q.text; next = n.1 }))
    (first_in bs (resolve_folder file q.path))

-- the requirements of a manifest on bumped crates, each with the index of its bump, in the order of the
-- entries
abbrev pub all_numbered : List Bump → List ℕ → Tree → List (ℕ × Dependent)
all_numbered bs file t = filter_map (with_bump_index bs file) (path_dependencies t)

-- a requirement on a bumped crate, from the program's type
abbrev pub dependent_of : DependentEntry → Dependent
dependent_of f = record {
  place = place_view f.place.items;
  text = string_bytes f.text;
  next = parts_of f.bump.next.now;
}

-- a requirement on a bumped crate with the index of its bump, from the program's type
abbrev pub numbered_dependent_view : DependentEntry → ℕ × Dependent
numbered_dependent_view f = (f.bump.number, dependent_of f)

-- the requirement can be raised, and `raised_dependent_text` is its new text, where it changes
pub record HasRaisedText (f : DependentEntry) : Type 0 where
  pub can : CanRise (upgrade_of (dependent_of f).text (dependent_of f).next)
  pub new : option_map string_bytes f.risen ≡ raised_dependent_text (dependent_of f)

-- the failure of an entry: its requirement cannot be raised, or memory ran out
pub data IsEntryUnraised (bs : List Bump) (file : List ℕ) (q : PathDependency) (f : VersionFailure)
    : Type 0 where
  lacks : IsMemory f.error → IsEntryUnraised bs file q f
  stays : (d : Dependent) → dependent_by_path bs file q ≡ Some d → FailsAtEntry file f d
      → IsEntryUnraised bs file q f
