-- The lines of an index file, one JSON object each (Cargo reference, "Registries", index format).
use Rattle.std.specs.Prelude.{◌≡◌, ℕ, ◌+◌, ◌⊎◌, List, [], ◌∷◌, ◌++◌, Option, Some, None, option_and_then, option_map, Bool, true, false, codes, length, ◌==◌, ◌||◌}
use Rattle.std.specs.List.{slice_split, list_all}
use Rattle.std.specs.Option.{option_map_or}
use Rattle.std.specs.Str.{IsUtf8}
use Rattle.serde_json.specs.Data.{Data, null, boolean, number, string, array, object}
use Rattle.serde_json.specs.Read.{read}
use Rattle.serde_json.specs.Find.{get, as_str}
use Rattle.serde_json.specs.View.{view}
use Rattle.serde_json.specs.declared.value.Value.{Value}
use Rattle.std.specs.Borrow.{Bor}
use Rattle.edit_base.specs.declared.errors.Error.{Error}
use Rattle.edit_base.specs.declared.errors.Error.TheVariants.{IndexLine}
use Rattle.edit_base.specs.Errors.{IsMemory}
use Rattle.edit_version.specs.IndexEntry.{IndexEntry}

-- whether a version is yanked: false where the key is absent (Cargo reference, "Registries", yanked)
abbrev pub yanked_of : Option Data → Option Bool
yanked_of None = Some false
yanked_of (Some null) = None
yanked_of (Some (boolean b)) = Some b
yanked_of (Some (number n)) = None
yanked_of (Some (string s)) = None
yanked_of (Some (array ds)) = None
yanked_of (Some (object ms)) = None

-- the `rust_version` of a version, if it has one (Cargo reference, "Registries", rust_version)
abbrev pub rust_version_of : Option Data → Option (Option (List ℕ))
rust_version_of None = Some None
rust_version_of (Some null) = Some None
rust_version_of (Some (boolean b)) = None
rust_version_of (Some (number n)) = None
rust_version_of (Some (string s)) = Some (Some s)
rust_version_of (Some (array ds)) = None
rust_version_of (Some (object ms)) = None

-- the entry of a JSON value (Cargo reference, "Registries", name, vers)
pub record IsEntryValue (d : Data) (e : IndexEntry) : Type 0 where
  pub name : option_and_then as_str (get (codes "name") d) ≡ Some e.name
  pub version : option_and_then as_str (get (codes "vers") d) ≡ Some e.version
  pub yanked : yanked_of (get (codes "yanked") d) ≡ Some e.yanked
  pub rust_version : rust_version_of (get (codes "rust_version") d) ≡ Some e.rust_version

-- a valid line of an index: one JSON object in UTF-8 (Cargo reference, "Registries", index files)
pub record IsIndexLine (line : List ℕ) (e : IndexEntry) : Type 0 where
  pub value : Data
  pub utf8 : IsUtf8 line
  pub reads : read line ≡ Some value
  pub says : IsEntryValue value e

-- whether a line consists of spaces, tabs and carriage returns (own)
abbrev pub is_blank : List ℕ → Bool
is_blank line = list_all (λ b. (b == 32) || ((b == 9) || (b == 13))) line

-- lines with their entries in order; blank lines have none (own)
pub data HaveEntriesInOrder : List (List ℕ) → List IndexEntry → Type 0 where
  none : HaveEntriesInOrder [] []
  blank : (lines : List (List ℕ)) (entries : List IndexEntry) (line : List ℕ)
      → HaveEntriesInOrder lines entries → is_blank line ≡ true
      → HaveEntriesInOrder (lines ++ line ∷ []) entries
  entry : (lines : List (List ℕ)) (entries : List IndexEntry) (line : List ℕ) (e : IndexEntry)
      → HaveEntriesInOrder lines entries → is_blank line ≡ false → IsIndexLine line e
      → HaveEntriesInOrder (lines ++ line ∷ []) (entries ++ e ∷ [])

-- the lines of a file, separated by line feeds (own)
abbrev pub lines_of : List ℕ → List (List ℕ)
lines_of bytes = slice_split (λ b. b == 10) bytes

-- the lines of the rest of a file; none after its last line (own)
abbrev pub lines_left : Option (Bor (List ℕ)) → List (List ℕ)
lines_left rest = option_map_or (λ text. lines_of text.now) rest []

-- the length of the rest of a file, with the line feed before it (own)
abbrev pub length_left : Option (Bor (List ℕ)) → ℕ
length_left rest = option_map_or (λ text. length text.now + 1) rest 0

-- the number, from 1, of the first line that is neither blank nor valid (own)
pub record IsBadLine (lines : List (List ℕ)) (number : ℕ) : Type 0 where
  pub before : List (List ℕ)
  pub line : List ℕ
  pub after : List (List ℕ)
  pub entries : List IndexEntry
  pub whole : lines ≡ before ++ line ∷ after
  pub place : number ≡ length before + 1
  pub good : HaveEntriesInOrder before entries
  pub some : is_blank line ≡ false
  pub bad : (e : IndexEntry) → IsIndexLine line e → ⊥

-- the errors of a line: lack of memory, or `IndexLine` with its number where it is malformed (own)
abbrev pub IsLineError : List ℕ → ℕ → Error → Type 0
IsLineError line n e = IsMemory e ⊎ ((e ≡ IndexLine n) × ((x : IndexEntry) → IsIndexLine line x → ⊥))

-- the model of a value that may be absent (own)
abbrev pub optional_value_view : Option (Bor Value) → Option Data
optional_value_view value = option_map (λ v. view v.now) value

-- the errors of a file: lack of memory, or `IndexLine` for the first malformed line (own)
abbrev pub IsLinesError : List (List ℕ) → Error → Type 0
IsLinesError lines e = IsMemory e ⊎ ((n : ℕ) × (e ≡ IndexLine n) × IsBadLine lines n)
