-- Valid index files (Cargo reference, "Registries", index format).
use Rattle.std.specs.Prelude.{◌≡◌, ℕ, ◌-◌, ◌<◌, List, All, length, map, slice_index}
use Rattle.std.specs.Char.{to_ascii_lowercase}
use Rattle.edit_version.specs.IndexEntry.{IndexEntry}
use Rattle.edit_sources.specs.IndexLines.{IsBadLine, HaveEntriesInOrder, lines_of}
use Rattle.edit_answers.specs.declared.bodies.Damage.{Damage}
use Rattle.edit_answers.specs.declared.bodies.Damage.TheVariants.{BadLine, NotWhole}

-- two names are equal, ignoring ASCII case
abbrev pub IsSameName : List ℕ → List ℕ → Type 0
IsSameName a b = map to_ascii_lowercase a ≡ map to_ascii_lowercase b

-- there are entries, and each has this name
pub record AreNamed (entries : List IndexEntry) (name : List ℕ) : Type 0 where
  pub some : 0 < length entries
  pub all : All (λ e. IsSameName e.name name) entries

-- the text ends with a line feed
abbrev pub EndsLine : List ℕ → Type 0
EndsLine body = slice_index body (length body - 1) ≡ 10

-- the body is a complete index file of a crate: it ends with a line end, its lines have entries, and each
-- has the name of the crate
pub record IsWholeIndex (name body : List ℕ) : Type 0 where
  pub ended : EndsLine body
  pub entries : List IndexEntry
  pub say : HaveEntriesInOrder (lines_of body) entries
  pub named : AreNamed entries name

-- why a body is not a complete index file of a crate: its first malformed line or, where there is none, the
-- whole
pub data IsDamaged (name body : List ℕ) : Damage → Type 0 where
  bad_line : (number : ℕ) → IsBadLine (lines_of body) number → IsDamaged name body (BadLine number)
  not_whole : (entries : List IndexEntry) → HaveEntriesInOrder (lines_of body) entries
      → (IsWholeIndex name body → ⊥)
      → IsDamaged name body NotWhole
