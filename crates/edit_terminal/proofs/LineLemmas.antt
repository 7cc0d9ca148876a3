-- Tests of lines.
use Rattle.std.proofs.Common.{◌≡◌, ◌∙◌, ℕ, ◌-◌, ◌<◌, ◌≤◌, List, [], ◌∷◌, Bool, Option, None, Some, true, ◌&&◌, arith, drop, length, not, sym, take}
use Rattle.std.specs.Prelude.{◌==◌, codes, nat_eq}
use Rattle.std.specs.List.{position, starts_with}
use Rattle.std.proofs.lemmas.Bool.{and_parts}
use Rattle.std.proofs.lemmas.List.{length-drop, take_rest}
use Rattle.edit_terminal.specs.Lines.{is_status, is_word, without_spaces}

-- where the first test passes, both give what the second gives
pub both_true : (a b r : Bool) → a ≡ true → r ≡ b → r ≡ (a && b)
both_true a b r first second = rw first second

-- what the place of the first byte that is no space says of a text without the spaces before it
pub spaces_found : (text : List ℕ) (found : Option ℕ) (n : ℕ)
    → found ≡ position (λ b. not (b == 32)) text → found ≡ Some n
    → take (length text - n) (drop n text) ≡ without_spaces text
spaces_found text found n is some = rw (sym is ∙ some) (take_rest text n)

-- the same where there is none
pub spaces_alone : (text : List ℕ) (found : Option ℕ)
    → found ≡ position (λ b. not (b == 32)) text → found ≡ None
    → [] ≡ without_spaces text
spaces_alone text found is none = rw (sym is ∙ none)

-- a text that begins with a space has a byte
starts_inside : (text : List ℕ) → starts_with nat_eq text (codes " ") ≡ true → 0 < length text
starts_inside [] starts = cc
starts_inside (b ∷ text) starts = omega arith

-- a status line has its twelve columns
pub status_long : (line : List ℕ) → is_status line ≡ true → 12 ≤ length line
status_long line status =
    let parts = and_parts (is_word (without_spaces (take 12 line)))
    (starts_with nat_eq (drop 12 line) (codes " ")) status in
    let inside = starts_inside (drop 12 line) parts.1 in
    let left = length-drop 12 line in
    omega arith
