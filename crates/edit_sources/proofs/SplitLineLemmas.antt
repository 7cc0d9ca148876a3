-- The lines of a text, split at its first line feed.
use Rattle.std.proofs.Common.{◌≡◌, ℕ, ◌+◌, Bool, true, false, ◌==◌, List, [], ◌∷◌, take, drop, Some, None, refl, sym, ap, ◌∙◌, arith}
use Rattle.std.proofs.lemmas.List.Splits.{slice_split_first, slice_split_none}
use Rattle.std.proofs.lemmas.List.Sums.{position_or_len_is}
use Rattle.std.proofs.lemmas.Grind.{get_or_default_zero}
use Rattle.memchr.specs.Find.{IsFirstByte, is_byte}
use Rattle.edit_sources.specs.IndexLines.{lines_of}

-- what does not hold is false
not_true : (b : Bool) → (b ≡ true → ⊥) → b ≡ false
not_true true h = absurd (h refl)
not_true false h = refl

-- a text without a line feed is one line
pub lines_of-none : (text : List ℕ) → IsFirstByte (is_byte 10) text None → lines_of text ≡ text ∷ []
lines_of-none text h = slice_split_none (λ b. b == 10) text (λ k d m. not_true _ (λ p.
    h k (omega arith) m (ap (λ b. b == 10) (sym (get_or_default_zero text k d m)) ∙ p)))

-- the first line ends at the first line feed
pub lines_of-some : (text : List ℕ) (end : ℕ) → IsFirstByte (is_byte 10) text (Some end)
    → lines_of text ≡ take end text ∷ lines_of (drop (end + 1) text)
lines_of-some text end h =
    let place = position_or_len_is (λ b. b == 10) text end 0 (omega (arith, h.0.high))
    (λ k m. not_true _ (λ p. h.0.before k (omega arith) m p)) (λ _. h.1) in
    slice_split_first (λ b. b == 10) text 0 (omega (arith, place, h.0.high)) ∙
    ap (λ n. take n text ∷ lines_of (drop (n + 1) text)) place
