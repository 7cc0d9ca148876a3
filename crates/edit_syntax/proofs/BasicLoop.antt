-- The steps of the loop that reads a basic string by runs.
use Rattle.std.proofs.Common.{◌≡◌, ℕ, zero, suc, ◌+◌, ◌-◌, ◌≤◌, Bool, true, false, cond, eqb, List, [], ◌∷◌, length, drop, Option, Some, None, refl, sym, ap, ◌∙◌, arith}
use Rattle.std.specs.List.{prefix_len}
use Rattle.std.proofs.lemmas.List.{length-drop}
use Rattle.edit_syntax.specs.Characters.{quote, is_basic_ch}
use Rattle.edit_syntax.specs.Strings.{Piece}
use Rattle.edit_syntax.specs.Reading.{Read, first, after, piece_at, pieces_at, basic_at}
use Rattle.edit_syntax.proofs.Loops.{rest_of, pieces_turn, pieces_stop, pieces_end}
use Rattle.edit_syntax.proofs.TokenLaws.{basic_ch_not, piece_sound, piece_longer}

-- a piece has a byte
piece_shorter : (text : List ℕ) (x : Piece × List ℕ) → piece_at text ≡ Some x
    → suc (length x.1) ≤ length text
piece_shorter text x e =
    let whole = ap length (piece_sound text x e).0 in
    let more = piece_longer quote x.0 x.1 in
    omega arith

no_pieces : (n : ℕ) → rest_of (pieces_at n []) ≡ None
unfolding pieces_at piece_at
no_pieces zero = refl
no_pieces (suc n) = refl

-- where a string ends does not depend on how many pieces are allowed, from the text's length on
enough : (n m : ℕ) (text : List ℕ) → length text ≤ n → length text ≤ m
    → rest_of (pieces_at n text) ≡ rest_of (pieces_at m text)
enough n m [] a b = no_pieces n ∙ sym (no_pieces m)
enough zero m (c ∷ text) a b = absurd (omega arith)
enough (suc n) zero (c ∷ text) a b = absurd (omega arith)
enough (suc n) (suc m) (c ∷ text) a b =
    go (eqb (first (c ∷ text)) quote) refl (piece_at (c ∷ text)) refl (λ t x y. enough n m t x y)
  where
    go : (q : Bool) → eqb (first (c ∷ text)) quote ≡ q → (r : Read Piece) → piece_at (c ∷ text) ≡ r
        → ((t : List ℕ) → length t ≤ n → length t ≤ m → rest_of (pieces_at n t) ≡ rest_of (pieces_at m t))
        → rest_of (pieces_at (suc n) (c ∷ text)) ≡ rest_of (pieces_at (suc m) (c ∷ text))
    go true e r f more = pieces_end n (c ∷ text) e ∙ sym (pieces_end m (c ∷ text) e)
    go false e (Some x) f more =
        let less = piece_shorter (c ∷ text) x f in
        let next : Some x.1 ≡ rest_of (piece_at (c ∷ text)) = sym (ap rest_of f) in
        pieces_turn n (c ∷ text) x.1 e next ∙ more x.1 (omega arith) (omega arith) ∙
        sym (pieces_turn m (c ∷ text) x.1 e next)
    go false e None f more =
        let none : None ≡ rest_of (piece_at (c ∷ text)) = sym (ap rest_of f) in
        pieces_stop n (c ∷ text) e none ∙ sym (pieces_stop m (c ∷ text) e none)

plain_piece : (b : ℕ) (text : List ℕ) → is_basic_ch b ≡ true → Some text ≡ rest_of (piece_at (b ∷ text))
unfolding piece_at
plain_piece b text h = rw (h, (basic_ch_not b h).1) refl

-- a string ends where it ends behind its first run of plain bytes
pub past_plain : (text : List ℕ) → rest_of (basic_at (after is_basic_ch text)) ≡ rest_of (basic_at text)
unfolding basic_at
past_plain [] = refl
past_plain (b ∷ text) = go (is_basic_ch b) refl (past_plain text)
  where
    go : (t : Bool) → is_basic_ch b ≡ t
        → rest_of (basic_at (after is_basic_ch text)) ≡ rest_of (basic_at text)
        → rest_of (basic_at (drop (cond t (1 + prefix_len is_basic_ch text) 0) (b ∷ text)))
        ≡ rest_of (basic_at (b ∷ text))
    go true e more =
        let k : 1 + prefix_len is_basic_ch text ≡ suc (prefix_len is_basic_ch text) = omega arith in
        rw k (more ∙
        sym (pieces_turn (length text) (b ∷ text) text (basic_ch_not b e).0 (plain_piece b text e)))
    go false e more = refl

pub run_within : (class : ℕ → Bool) (text : List ℕ) → length (after class text) ≤ length text
run_within class text = let k = length-drop (prefix_len class text) text in omega arith

-- behind a piece the string goes on
pub piece_turn : (text next : List ℕ) → eqb (first text) quote ≡ false
    → Some next ≡ rest_of (piece_at text)
    → (rest_of (basic_at next) ≡ rest_of (basic_at text)) × (suc (length next) ≤ length text)
unfolding basic_at piece_at
piece_turn [] next other e = absurd cc
piece_turn (b ∷ text) next other e = go (piece_at (b ∷ text)) refl
  where
    go : (r : Read Piece) → piece_at (b ∷ text) ≡ r
        → (rest_of (basic_at next) ≡ rest_of (basic_at (b ∷ text))) × (suc (length next) ≤ length (b ∷ text))
    go (Some x) f =
        let same : Some next ≡ Some x.1 = e ∙ ap rest_of f in
        let is : next ≡ x.1 = cc in
        let less = piece_shorter (b ∷ text) x f in
        let fits : suc (length next) ≤ length (b ∷ text) = rw is less in (
          sym (pieces_turn (length text) (b ∷ text) next other e ∙
              enough (length text) (length next) next (omega arith) (omega arith)),
          fits,
        )
    go None f = absurd (let none : Some next ≡ None = e ∙ ap rest_of f in cc)

pub piece_stop : (text : List ℕ) → eqb (first text) quote ≡ false → None ≡ rest_of (piece_at text)
    → rest_of (basic_at text) ≡ None
unfolding basic_at
piece_stop [] other e = no_pieces 0
piece_stop (b ∷ text) other e = pieces_stop (length text) (b ∷ text) other e

pub closing : (text : List ℕ) → eqb (first text) quote ≡ true → rest_of (basic_at text) ≡ Some (drop 1 text)
unfolding basic_at
closing [] quoted = absurd cc
closing (b ∷ text) quoted = pieces_end (length text) (b ∷ text) quoted

pub nothing_left : (text : List ℕ) → length text ≤ 0 → rest_of (basic_at text) ≡ None
unfolding basic_at
nothing_left [] le = no_pieces 0
nothing_left (b ∷ text) le = absurd (omega arith)
