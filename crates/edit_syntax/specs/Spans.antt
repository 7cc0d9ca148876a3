-- Parts of a text, given by the number of bytes from their start and their end to the end of the text.
use Rattle.std.specs.Prelude.{ℕ, ◌-◌, Bool, ◌&&◌, ◌||◌, nat_lt, nat_le, if◌then◌else◌, List, [], length, slice_index, slice_range}
use Rattle.edit_syntax.specs.declared.span.Span.{Span}

-- the position is a character boundary of the bytes
abbrev pub is_boundary : List ℕ → ℕ → Bool
is_boundary bytes i =
    nat_le i (length bytes) && (nat_lt (slice_index bytes i) 128 || nat_le 192 (slice_index bytes i))

-- the bytes between two positions; empty where these are out of order or no character boundaries
abbrev pub cut_from : List ℕ → ℕ → ℕ → List ℕ
cut_from bytes i j =
    if nat_le i j && is_boundary bytes i && is_boundary bytes j then slice_range bytes i j else []

-- the bytes of a text at a span
unfoldable pub bytes_at : List ℕ → Span → List ℕ
bytes_at text span = cut_from text (length text - span.from) (length text - span.to)
