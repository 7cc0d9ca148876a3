-- Positions of a text where bytes can be inserted or replaced.
use Rattle.std.specs.Prelude.{◌≡◌, ℕ, ◌-◌, not, ◌&&◌, if◌then◌else◌, List, [], ◌∷◌, ◌++◌, length, Option, Some, None, is_some, codes}
use Rattle.std.specs.Str.{IsCharBoundary}
use Rattle.edit_syntax.specs.Characters.{line_feed}
use Rattle.edit_syntax.specs.Strings.{◌·◌, key as key_text}
use Rattle.edit_rewrite.specs.declared.locate.Entry.{Entry}
use Rattle.edit_tree.specs.Assertions.{Place}
use Rattle.edit_tree.specs.Statements.{PlacedStatement}
use Rattle.edit_tree.specs.EditBytes.{before}
use Rattle.edit_rewrite.specs.Entries.{key_of, front_of}

-- it is a suffix of the text that begins at a character boundary
pub record IsSuffix (bytes suffix : List ℕ) : Type 0 where
  pub front : List ℕ
  pub seam : bytes ≡ front ++ suffix
  pub fits : IsCharBoundary bytes (length bytes - length suffix)

-- the suffix behind the front part of a key that names a place lies within the suffix at the key, at a
-- character boundary
pub record IsFront (bytes from suffix : List ℕ) : Type 0 where
  pub cut : IsSuffix bytes suffix
  pub head : List ℕ
  pub ends : from ≡ head ++ suffix

-- the positions of a statement are suffixes of the text at character boundaries
pub record HasOffsets (bytes : List ℕ) (s : PlacedStatement) : Type 0 where
  pub line : IsSuffix bytes s.line
  pub key : IsSuffix bytes (key_text (key_of s).0 (key_of s).1)
  pub after : IsSuffix bytes s.after
  pub front : (place : Place) (suffix : List ℕ) → front_of place s ≡ Some suffix
      → IsFront bytes (key_text (key_of s).0 (key_of s).1) suffix

-- the key of a statement up to a suffix of the text
abbrev pub key_to : PlacedStatement → List ℕ → List ℕ
key_to s suffix = before (key_text (key_of s).0 (key_of s).1) suffix

-- a header with this key, and a line below it
abbrev pub section_text : List ℕ → List ℕ → List ℕ
section_text name line = codes "[" · name · codes "]" · line_feed ∷ (line · line_feed ∷ [])

-- the statement, where it is the header of the table or a pair below it
abbrev pub own_entry : Entry → Option Entry
own_entry e = if e.is_own then Some e else None

-- the statement, where it is a pair whose key passes through the table
abbrev pub dotted_entry : Entry → Option Entry
dotted_entry e = if not e.is_header && is_some e.front then Some e else None

-- the statement, where it is a header whose key passes through the table
abbrev pub through_entry : Entry → Option Entry
through_entry e = if e.is_header && is_some e.front then Some e else None
