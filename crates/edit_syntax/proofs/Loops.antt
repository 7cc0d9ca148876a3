-- One turn of each loop of the tokenizer.
use Rattle.std.proofs.Common.{◌≡◌, ℕ, suc, ◌+◌, ◌-◌, ◌<◌, true, false, eqb, List, ◌∷◌, drop, Option, Some, None, refl, arith}
use Rattle.std.specs.Prelude.{option_map}
use Rattle.edit_syntax.specs.Characters.{quote}
use Rattle.edit_syntax.specs.Strings.{Piece}
use Rattle.edit_syntax.specs.Grammar.{Between}
use Rattle.edit_syntax.specs.Reading.{◌>>=◌, Read, first, piece_at, pieces_at, between_at, and_more, gap_at}

abbrev pub rest_of : {A : Type 0} → Read A → Option (List ℕ)
rest_of read = option_map (λ p. p.1) read

rest_of-front : (p : Piece) (read : Read (List Piece)) → rest_of (read >>= λ ps. Some (p ∷ ps.0, ps.1))
    ≡ rest_of read
rest_of-front p (Some x) = refl
rest_of-front p None = refl

pub pieces_turn : (n : ℕ) (text : List ℕ) (after : List ℕ) → eqb (first text) quote ≡ false
    → Some after ≡ rest_of (piece_at text) → rest_of (pieces_at (suc n) text) ≡ rest_of (pieces_at n after)
unfolding pieces_at
pieces_turn n text after other e = rw other (go (piece_at text) e)
  where
    go : (read : Read Piece) → Some after ≡ rest_of read
        → rest_of (read >>= λ p. pieces_at n p.1 >>= λ ps. Some (p.0 ∷ ps.0, ps.1))
        ≡ rest_of (pieces_at n after)
    go (Some x) e = let same : after ≡ x.1 = cc in rw same (rest_of-front x.0 (pieces_at n x.1))
    go None e = absurd cc

pub pieces_stop : (n : ℕ) (text : List ℕ) → eqb (first text) quote ≡ false → None ≡ rest_of (piece_at text)
    → rest_of (pieces_at (suc n) text) ≡ None
unfolding pieces_at
pieces_stop n text other e = rw other (go (piece_at text) e)
  where
    go : (read : Read Piece) → None ≡ rest_of read
        → rest_of (read >>= λ p. pieces_at n p.1 >>= λ ps. Some (p.0 ∷ ps.0, ps.1)) ≡ None
    go (Some x) e = absurd cc
    go None e = refl

pub pieces_end : (n : ℕ) (text : List ℕ) → eqb (first text) quote ≡ true
    → rest_of (pieces_at (suc n) text) ≡ Some (drop 1 text)
unfolding pieces_at
pieces_end n text quoted = rw quoted refl

pub pieces_none : (text : List ℕ) → rest_of (pieces_at 0 text) ≡ None
unfolding pieces_at
pieces_none text = refl

-- one turn of a loop that counts up
pub one_less : (count i : ℕ) → i < count → count - i ≡ suc (count - (i + 1))
one_less count i lt = omega arith

-- ---- gaps

pub gap_turn : (n : ℕ) (text next : List ℕ) → Some next ≡ rest_of (between_at text)
    → (gap_at (suc n) text).1 ≡ (gap_at n next).1
unfolding gap_at
gap_turn n text next e = go (between_at text) e
  where
    go : (read : Read Between) → Some next ≡ rest_of read
        → (and_more (gap_at n) text read).1 ≡ (gap_at n next).1
    go (Some x) e = let same : next ≡ x.1 = cc in rw same refl
    go None e = absurd cc

pub gap_stop : (n : ℕ) (text : List ℕ) → None ≡ rest_of (between_at text) → (gap_at (suc n) text).1 ≡ text
unfolding gap_at
gap_stop n text e = go (between_at text) e
  where
    go : (read : Read Between) → None ≡ rest_of read → (and_more (gap_at n) text read).1 ≡ text
    go (Some x) e = absurd cc
    go None e = refl

pub gap_none : (text : List ℕ) → (gap_at 0 text).1 ≡ text
unfolding gap_at
gap_none text = refl
