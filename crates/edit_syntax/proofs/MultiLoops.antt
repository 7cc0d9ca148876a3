-- One turn of each loop over a multi-line string.
use Rattle.std.proofs.Common.{◌≡◌, ℕ, suc, true, false, eqb, List, ◌∷◌, drop, Some, None, refl}
use Rattle.edit_syntax.specs.Strings.{delimiter}
use Rattle.edit_syntax.specs.Reading.{◌>>=◌, Read, first, begins_space, space_at, spaces_at, line_piece_at, is_closing_delimiter, body_at}
use Rattle.edit_syntax.proofs.Loops.{rest_of}

-- what stands before what is read does not change what follows it
rest_behind : {X : Type 0} (x : X) (read : Read (List X))
    → rest_of (read >>= λ xs. Some (x ∷ xs.0, xs.1)) ≡ rest_of read
rest_behind x (Some y) = refl
rest_behind x None = refl

first_turn : {X : Type 0} (after : List ℕ) (read : Read X) (more : List ℕ → Read (List X))
    → Some after ≡ rest_of read → rest_of (read >>= λ x. more x.1 >>= λ xs. Some (x.0 ∷ xs.0, xs.1))
    ≡ rest_of (more after)
first_turn after (Some x) more e = let same : after ≡ x.1 = cc in rw same (rest_behind x.0 (more x.1))
first_turn after None more e = absurd cc

first_stop : {X : Type 0} (read : Read X) (more : List ℕ → Read (List X)) → None ≡ rest_of read
    → rest_of (read >>= λ x. more x.1 >>= λ xs. Some (x.0 ∷ xs.0, xs.1)) ≡ None
first_stop (Some x) more e = absurd cc
first_stop None more e = refl

-- ---- white space and newlines

pub spaces_end : (n : ℕ) (text : List ℕ) → begins_space text ≡ false
    → rest_of (spaces_at (suc n) text) ≡ Some text
unfolding spaces_at
spaces_end n text other = rw other refl

pub spaces_turn : (n : ℕ) (text after : List ℕ) → begins_space text ≡ true
    → Some after ≡ rest_of (space_at text) → rest_of (spaces_at (suc n) text) ≡ rest_of (spaces_at n after)
unfolding spaces_at
spaces_turn n text after here e = rw here (first_turn after (space_at text) (spaces_at n) e)

pub spaces_stop : (n : ℕ) (text : List ℕ) → begins_space text ≡ true → None ≡ rest_of (space_at text)
    → rest_of (spaces_at (suc n) text) ≡ None
unfolding spaces_at
spaces_stop n text here e = rw here (first_stop (space_at text) (spaces_at n) e)

pub spaces_none : (text : List ℕ) → rest_of (spaces_at 0 text) ≡ None
unfolding spaces_at
spaces_none text = refl

-- ---- pieces

pub body_end : (delimiter_byte n few : ℕ) (text : List ℕ) → is_closing_delimiter delimiter_byte text ≡ true
    → rest_of (body_at delimiter_byte (suc n) few text) ≡ Some (drop 3 text)
unfolding body_at
body_end delimiter_byte n few text closed = rw closed refl

pub body_turn : (delimiter_byte n few : ℕ) (text after : List ℕ) → is_closing_delimiter delimiter_byte text ≡ false
    → eqb (first text) delimiter_byte ≡ false → Some after ≡ rest_of (line_piece_at delimiter_byte text)
    → rest_of (body_at delimiter_byte (suc n) few text) ≡ rest_of (body_at delimiter_byte n 2 after)
unfolding body_at
body_turn delimiter_byte n few text after going other e = rw (going, other)
    (first_turn after (line_piece_at delimiter_byte text) (body_at delimiter_byte n 2) e)

pub body_stop : (delimiter_byte n few : ℕ) (text : List ℕ) → is_closing_delimiter delimiter_byte text ≡ false
    → eqb (first text) delimiter_byte ≡ false
    → None ≡ rest_of (line_piece_at delimiter_byte text) → rest_of (body_at delimiter_byte (suc n) few text) ≡ None
unfolding body_at
body_stop delimiter_byte n few text going other e = rw (going, other)
    (first_stop (line_piece_at delimiter_byte text) (body_at delimiter_byte n 2) e)

pub body_delimiter : (delimiter_byte n few less : ℕ) (text : List ℕ) → few ≡ suc less
    → is_closing_delimiter delimiter_byte text ≡ false
    → eqb (first text) delimiter_byte ≡ true → rest_of (body_at delimiter_byte (suc n) few text)
    ≡ rest_of (body_at delimiter_byte n less (drop 1 text))
unfolding body_at
body_delimiter delimiter_byte n few less text one going here = rw (one, going, here)
    (rest_behind delimiter (body_at delimiter_byte n less (drop 1 text)))

pub body_full : (delimiter_byte n few : ℕ) (text : List ℕ) → few ≡ 0 → is_closing_delimiter delimiter_byte text ≡ false
    → eqb (first text) delimiter_byte ≡ true → rest_of (body_at delimiter_byte (suc n) few text) ≡ None
unfolding body_at
body_full delimiter_byte n few text none going here = rw (none, going, here) refl

pub body_none : (delimiter_byte few : ℕ) (text : List ℕ) → rest_of (body_at delimiter_byte 0 few text) ≡ None
unfolding body_at
body_none delimiter_byte few text = refl
