-- The pieces of a document's text: the text before the last edit, the range that it wrote, and the text after
-- it.
use Rattle.std.specs.Prelude.{◌≡◌, ℕ, ◌+◌, ◌≤◌, List, [], ◌∷◌, ◌++◌, length, take, drop, slice_get, Some}
use Rattle.std.specs.List.{slice_range}
use Rattle.std.specs.Str.{IsCharBoundary}

-- the text as the only piece; no piece where it is empty
abbrev pub some_text : List ℕ → List (List ℕ)
some_text [] = []
some_text (b ∷ bs) = (b ∷ bs) ∷ []

-- the text before a range, the range, and the text after it, without empty ones
abbrev pub pieces_of : List ℕ → ℕ × ℕ → List (List ℕ)
pieces_of bytes r =
    some_text (take r.0 bytes) ++ (some_text (slice_range bytes r.0 r.1) ++ some_text (drop r.1 bytes))

-- the range is in order, and both its ends are character boundaries
pub record IsRange (bytes : List ℕ) (r : ℕ × ℕ) : Type 0 where
  pub ordered : r.0 ≤ r.1
  pub begins : IsCharBoundary bytes r.0
  pub ends : IsCharBoundary bytes r.1

-- the text is one of the pieces
abbrev pub IsAmong : List ℕ → List (List ℕ) → Type 0
IsAmong x xs = (n : ℕ) × (slice_get xs n ≡ Some x)

-- the new text is the old one with a part of it replaced by a literal, which is at this range
pub record IsSwapped (old literal new : List ℕ) (r : ℕ × ℕ) : Type 0 where
  pub start : ℕ
  pub end : ℕ
  pub within : start ≤ length old
  pub bytes : new ≡ take start old ++ (literal ++ drop end old)
  pub there : r ≡ (start, start + length literal)
  pub range : IsRange new r
