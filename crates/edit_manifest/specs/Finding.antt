-- Finding and reading a manifest.
use Rattle.std.specs.Prelude.{◌≡◌, ◌⊎◌, ℕ, true, List, Option, Some}
use Rattle.edit_base.specs.declared.errors.DeviceCall.TheVariants as call
use Rattle.edit_base.specs.declared.errors.Error.{Error}
use Rattle.edit_store.specs.Store.{Files, StoreView}
use Rattle.edit_manifest.specs.Loaded.{IsBadFile}
use Rattle.edit_manifest.specs.Located.{HasNoManifest, IsFault, IsManifestPath}

-- the specified manifest is at this path, with these bytes
pub record IsFound (files : Files) (current : List ℕ) (specified : Option (List ℕ))
    (path bytes : List ℕ) : Type 0 where
  pub at : IsManifestPath files current specified path
  pub is : files path ≡ Some bytes

-- the file of the specified manifest is malformed or missing
pub record HasBadManifest (files : Files) (current : List ℕ) (specified : Option (List ℕ)) (e : Error)
    : Type 0 where
  pub path : List ℕ
  pub at : IsManifestPath files current specified path
  pub wrong : IsBadFile (files path) e

-- the errors of finding and reading a manifest: lack of memory, a fault of the device, no manifest, or a
-- malformed one
abbrev pub IsUnfoundOrUnread : StoreView → StoreView → List ℕ → Option (List ℕ) → Error → Type 0
IsUnfoundOrUnread old new current specified e =
    IsFault call.Kind old.faults new.faults e
    ⊎ (IsFault call.Read old.faults new.faults e
    ⊎ (old.tells ≡ true → HasNoManifest old.file_at current e specified
    ⊎ HasBadManifest old.file_at current specified e))
