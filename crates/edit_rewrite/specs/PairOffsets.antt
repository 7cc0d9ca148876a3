-- The position of the pair that names a place.
use Rattle.std.specs.Prelude.{◌≡◌, ◌≤◌, ℕ, not, ◌&&◌, if◌then◌else◌, List, [], ◌∷◌, length, take, Option, Some, None, MatchOption}
use Rattle.std.specs.List.{Contains}
use Rattle.edit_syntax.specs.declared.read.syntax_tokens.SyntaxToken.{SyntaxToken}
use Rattle.edit_syntax.specs.Depth.{depth}
use Rattle.edit_syntax.specs.Grammar.{value, IsValue, Text}
use Rattle.edit_rewrite.specs.declared.locate.Entry.{Entry}
use Rattle.edit_rewrite.specs.declared.path_matching.PathMatch.{PathMatch}
use Rattle.edit_tree.specs.Assertions.{Place}
use Rattle.edit_tree.specs.EditBytes.{first_of, part_to}
use Rattle.edit_rewrite.specs.Entries.{is_at, is_part}
use Rattle.edit_tree.specs.SlotTexts.{Ends}
use Rattle.edit_tree.specs.Statements.{PlacedPair, inner_pairs}
use Rattle.edit_tree.specs.Written.{PlacedValue}

-- the statement, where it is a pair that names the place or one below it
abbrev pub within_entry : Entry → Option Entry
within_entry e = if not e.is_header && e.is_within then Some e else None

-- the end of the last part of the key at the front, or `end` where no part is there
abbrev pub key_end : ℕ → List SyntaxToken → ℕ
key_end end [] = end
key_end end (m ∷ ms) = if is_part m.kind then key_end m.to ms else end

-- the end of the last token, or `end` where there is none
abbrev pub last_end : ℕ → List SyntaxToken → ℕ
last_end end [] = end
last_end end (m ∷ ms) = last_end m.to ms

-- the end of the part of a key that names the place: a front part or the last one
abbrev pub part_offset : ℕ → PathMatch → Option ℕ → List SyntaxToken → Option ℕ
part_offset total named front ms =
    first_of (front ∷ (if is_at total named then Some (key_end 0 ms) else None) ∷ [])

-- a value in a text: well formed, and at most 80 deep
pub record StandsIn (bytes : List ℕ) (w : PlacedValue) : Type 0 where
  pub valid : IsValue w.value
  pub shallow : depth w.value ≤ 80
  pub ends : Ends bytes (value w.value w.after)

-- The offsets of what an edit of the place replaces in one of these pairs: behind the part of its key that
-- names the place, and behind its value. They are counted from the end of the text.
pub record IsAround (place : Place) (ps : List PlacedPair) (offsets : ℕ × ℕ) : Type 0 where
  pub pair : PlacedPair
  pub among : Contains ps pair
  pub part : List ℕ
  pub named : part_to place pair ≡ Some part
  pub from : offsets.0 ≡ length part
  pub to : offsets.1 ≡ length pair.behind

-- the offsets for the pair that names the place, or `None` where none of these pairs does
abbrev pub HasPairOffsets : Place → List PlacedPair → Option (ℕ × ℕ) → Type 0
HasPairOffsets place ps r = MatchOption r ((p : PlacedPair) → Contains ps p
    → part_to place p ≡ None) (IsAround place ps)

-- the offsets for the pair that names the place in the inline table at its first n steps, or `None` where
-- there is none
abbrev pub HasPairOffsetsIn : Text → Place → ℕ → Option (ℕ × ℕ) → Type 0
HasPairOffsetsIn form place n r = MatchOption r
    ((p : PlacedPair) → Contains (inner_pairs form) p → p.table ≡ take n place → part_to place p ≡ None)
    (IsAround place (inner_pairs form))
