-- Bytes of which the whole characters are shown.
use Rattle.std.proofs.Common.{◌≡◌, ◌∙◌, ℕ, ◌+◌, ◌<◌, ◌++◌, List, Option, ap, arith, drop, length, subst, sym, take}
use Rattle.std.proofs.lemmas.List.{length-drop, take-append-drop}
use Rattle.std.proofs.lemmas.Str.{encodes-chars, scalars-chars}
use Rattle.std.specs.Io.KnownBytes.{Appends}
use Rattle.std.specs.Str.{IsUtf8, chars}
use Rattle.edit_terminal.specs.Shown.{HasEscaped, terminal_chars}

-- bytes of which a front in UTF-8 is shown, where fewer than four are left
pub shows_front : (old new : Option (List ℕ)) (bytes front rest : List ℕ) → IsUtf8 front
    → bytes ≡ front ++ rest → length rest < 4 → Appends old new (terminal_chars (chars front))
    → HasEscaped old new bytes rest
unfolding HasEscaped
shows_front old new bytes front rest utf8 parts short appends = (
  chars front,
  scalars-chars front utf8,
  parts ∙ ap (λ x. x ++ rest) (sym (encodes-chars front utf8)),
  short,
  appends,
)

-- fewer than four bytes are behind so many
short_rest : (all : List ℕ) (n : ℕ) → length all < n + 4 → length (drop n all) < 4
short_rest all n within = let same = length-drop n all in omega (arith, same)

-- the same of bytes that are parted behind so many
pub shows_parts : (old new : Option (List ℕ)) (bytes all front rest : List ℕ) (n : ℕ) → all ≡ bytes
    → front ≡ take n all → rest ≡ drop n all → length all < n + 4 → IsUtf8 front
    → Appends old new (terminal_chars (chars front)) → HasEscaped old new bytes rest
shows_parts old new bytes all front rest n is first second within utf8 appends =
    shows_front old new bytes front rest utf8
    (sym is ∙ sym (take-append-drop n all) ∙ ap (λ x. x ++ drop n all) (sym first) ∙ ap (λ x. front ++ x) (sym second))
    (subst (λ x. length x < 4) (sym second) (short_rest all n within)) appends
