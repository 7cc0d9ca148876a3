-- The lines of a text, each with its line feed where it has one (own).
use Rattle.std.specs.Prelude.{◌≡◌, ℕ, suc, ◌<◌, List, [], ◌∷◌, length, ◌==◌, if◌then◌else◌}

-- a byte before the first of some lines (own)
abbrev pub onto : ℕ → List (List ℕ) → List (List ℕ)
onto b [] = (b ∷ []) ∷ []
onto b (line ∷ lines) = (b ∷ line) ∷ lines

-- the lines of a text (own)
abbrev pub lines_of : List ℕ → List (List ℕ)
lines_of [] = []
lines_of (b ∷ text) = if b == 10 then (b ∷ []) ∷ lines_of text else onto b (lines_of text)

-- the length of the first line (own)
abbrev pub line_length : List ℕ → ℕ
line_length [] = 0
line_length (b ∷ text) = if b == 10 then 1 else suc (line_length text)

-- a text is split after its first line (own)
pub record IsSplitAfterLine (text line rest : List ℕ) : Type 0 where
  pub lines : lines_of text ≡ line ∷ lines_of rest
  pub shorter : length rest < length text
