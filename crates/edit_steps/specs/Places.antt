-- The place of an error: a file, a line of it, or a line and a column (own).
use Rattle.std.specs.Prelude.{◌≡◌, ◌≢◌, ◌⊎◌, ℕ, List, ◌++◌, ◌∷◌, All, Option, Some, None, codes, decimal, string_bytes}
use Rattle.edit_base.specs.Errors.{number_of}
use Rattle.edit_base.specs.declared.errors.Error.{Error}
use Rattle.edit_base.specs.declared.errors.Error.TheVariants as error
use Rattle.edit_syntax.specs.Grammar.{Text}
use Rattle.edit_tree.specs.Assertions.{IsDocument}
use Rattle.edit_manifest.specs.Loaded.{IsBadManifest}
use Rattle.edit_metadata.specs.declared.input.Input.{Input}
use Rattle.edit_steps.specs.Printed.{position_text}

-- the place of an error that is caused by the file at a path: of an error in a line of an index this line, of
-- an error of the whole file the path, and of others none
abbrev pub file_place : List ℕ → Error → Option (List ℕ)
file_place path (error.IndexLine line) = Some (path ++ (codes ":" ++ decimal line))
file_place path error.NotUtf8 = Some path
file_place path (error.Device call) = Some path
file_place path error.NoManifest = Some path
file_place path error.NoPath = Some path
file_place path error.Metadata = Some path
file_place path (error.FolderTwice folder) = Some path
file_place path _ = None

-- a text is this place, or this place and an excerpt of the file in the lines behind it
abbrev pub IsPlaceShown : List ℕ → List ℕ → Type 0
IsPlaceShown place text = (text ≡ place) ⊎ ((excerpt : List ℕ) × (text ≡ place ++ (codes "\n" ++ excerpt)))

-- the place of an error in a file with these bytes: of a TOML syntax error line and column of its offset, and
-- of others that of the file
pub data IsPlaceIn (path bytes : List ℕ) (e : Error) (text : List ℕ) : Type 0 where
  of_file : Some text ≡ file_place path e → IsPlaceIn path bytes e text
  of_offset : (at : ℕ) → e ≡ error.NotToml at → IsPlaceShown (position_text path bytes at) text
      → IsPlaceIn path bytes e text

-- ---- inputs

-- parsing the manifest of an input fails with an error of this number
abbrev pub FailsWith : ℕ → Input → Type 0
FailsWith number input = (own : Error) × IsBadManifest input.bytes.items own × (number_of own ≡ number)

-- the manifest of an input is parsed, or that fails with an error of another number, which is not lack of
-- memory
abbrev pub PassesWith : ℕ → Input → Type 0
PassesWith number input =
    ((form : Text) × IsDocument input.bytes.items form)
    ⊎ ((own : Error) × IsBadManifest input.bytes.items own × (number_of own ≢ number)
    × (number_of own ≢ number_of error.Memory))

-- the text is the place of an error in the first of these inputs whose manifest fails with an error of its
-- number
pub record IsPlaceOfFirst (inputs : List Input) (e : Error) (text : List ℕ) : Type 0 where
  pub before : List Input
  pub input : Input
  pub behind : List Input
  pub within : inputs ≡ before ++ input ∷ behind
  pub passed : All (PassesWith (number_of e)) before
  pub fails : FailsWith (number_of e) input
  pub place : IsPlaceIn (string_bytes input.path) input.bytes.items e text
