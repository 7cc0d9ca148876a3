-- The basic steps of the parser.
use Rattle.std.specs.Prelude.{ℕ, Bool, ◌==◌, if◌then◌else◌, List, take, drop, slice_index, Option, Some, None, option_and_then}
use Rattle.std.specs.List.{prefix_len}
use Rattle.edit_syntax.specs.Characters.{is_blank}

-- the result of a parser: what was parsed and the rest of the input, or nothing (own)
abbrev pub Read : Type 0 → Type 0
Read A = Option (A × List ℕ)

infixl 10 ◌>>=◌
-- runs the second step on the result of the first, if it has one (own)
abbrev pub ◌>>=◌ : {A B : Type 0} → Option A → (A → Option B) → Option B
o >>= f = option_and_then f o

-- the first byte, or 0, which no text contains, at the end (own)
abbrev pub first : List ℕ → ℕ
first text = slice_index text 0

-- the longest prefix of bytes of a class (own)
abbrev pub front : (ℕ → Bool) → List ℕ → List ℕ
front class text = take (prefix_len class text) text

-- the rest behind the longest prefix of bytes of a class (own)
abbrev pub after : (ℕ → Bool) → List ℕ → List ℕ
after class text = drop (prefix_len class text) text

-- the tabs and spaces at the front (own)
abbrev pub blanks : List ℕ → List ℕ
blanks = front is_blank

-- the rest behind the tabs and spaces at the front (own)
abbrev pub past_blanks : List ℕ → List ℕ
past_blanks = after is_blank

-- the rest behind this byte, if the input begins with it (own)
abbrev pub past : ℕ → List ℕ → Option (List ℕ)
past b text = if first text == b then Some (drop 1 text) else None
