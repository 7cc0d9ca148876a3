-- Reading a manifest from its file.
use Rattle.std.specs.Prelude.{◌≡◌, ◌≤◌, ◌⊎◌, ℕ, Bool, true, false, List, Option, Some, None, IsUtf8, codes, length, nat_eq, string_bytes}
use Rattle.std.specs.List.{starts_with}
use Rattle.edit_base.specs.Errors.{IsMemory, number_of}
use Rattle.edit_base.specs.declared.errors.DeviceCall.TheVariants as call
use Rattle.edit_base.specs.declared.errors.Error.{Error}
use Rattle.edit_base.specs.declared.errors.Error.TheVariants.{NoManifest, NotAbsolute, NotToml}
use Rattle.edit_tree.specs.Assertions.{IsDocument}
use Rattle.edit_store.specs.Store.{StoreView}
use Rattle.edit_syntax.specs.Grammar.{Text}
use Rattle.edit_manifest.specs.Located.{IsFault}

-- whether the path begins with a slash
abbrev pub is_absolute : List ℕ → Bool
is_absolute path = starts_with nat_eq path (codes "/")

-- the error is `NotToml` with a byte offset, up to the end of the text
abbrev pub NamesByte : ℕ → Error → Type 0
NamesByte end e = (at : ℕ) × (e ≡ NotToml at) × (at ≤ end)

-- the errors of parsing a manifest: `NotUtf8`, else `NotToml`, or lack of memory
abbrev pub IsBadManifest : List ℕ → Error → Type 0
IsBadManifest bytes e =
    ((number_of e ≡ 2) × (IsUtf8 bytes → ⊥))
    ⊎ ((NamesByte (length bytes) e × IsUtf8 bytes × ((form : Text) → IsDocument bytes form → ⊥))
    ⊎ (IsMemory e × IsUtf8 bytes))

-- the error of the file at a path: it does not exist, or its bytes are no manifest
abbrev pub IsBadFile : Option (List ℕ) → Error → Type 0
IsBadFile None e = e ≡ NoManifest
IsBadFile (Some bytes) e = IsBadManifest bytes e

-- the errors of reading a file, for any store: it does not exist, or its bytes are no manifest
abbrev pub IsReadError : Error → Type 0
IsReadError e = (e ≡ NoManifest) ⊎ ((number_of e ≡ 2) ⊎ (number_of e ≡ 1))

-- the error is `NotAbsolute` with this path
abbrev pub NamesPath : List ℕ → Error → Type 0
NamesPath path (NotAbsolute named) = string_bytes named ≡ path
NamesPath path other = ⊥

-- the errors of reading a manifest at a path: lack of memory, a fault of the device, a path that is not
-- absolute, or a missing or malformed file
abbrev pub IsUnloaded : StoreView → StoreView → List ℕ → Error → Type 0
IsUnloaded old new path e =
    IsFault call.Read old.faults new.faults e
    ⊎ (((is_absolute path ≡ false) × NamesPath path e)
    ⊎ ((is_absolute path ≡ true) × (old.tells ≡ true → IsBadFile (old.file_at path) e)))
