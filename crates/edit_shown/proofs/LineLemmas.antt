-- Splitting a text after its first line.
use Rattle.std.proofs.Common.{◌≡◌, ℕ, ◌+◌, ◌<◌, suc, List, [], ◌∷◌, length, take, drop, get_or, true, false, ap, sym, ◌∙◌, ⊎_elim, arith, length-drop}
use Rattle.std.specs.Prelude.{◌==◌}
use Rattle.std.proofs.lemmas.Bool.{cond-true, cond-false, cases_Bool}
use Rattle.std.proofs.lemmas.List.{drop_more}
use Rattle.edit_shown.specs.Lines.{IsSplitAfterLine, line_length, lines_of, onto}

-- the first line ends at a line feed
line_length-feed : (b : ℕ) (text : List ℕ) → (b == 10) ≡ true → line_length (b ∷ text) ≡ 1
line_length-feed b text is = cond-true _ _ _ is

-- and goes on at another byte
line_length-other : (b : ℕ) (text : List ℕ) → (b == 10) ≡ false
    → line_length (b ∷ text) ≡ suc (line_length text)
line_length-other b text is = cond-false _ _ _ is

-- what a text is behind its first line
abbrev Cuts : List ℕ → Type 0
Cuts text = lines_of text ≡ take (line_length text) text ∷ lines_of (drop (line_length text) text)

-- the two parts of a text at a length
abbrev parts : List ℕ → ℕ → List (List ℕ)
parts text n = take n text ∷ lines_of (drop n text)

-- a text of one byte
cuts_one : (b : ℕ) → Cuts (b ∷ [])
cuts_one b = ⊎_elim
    (λ is. cond-true _ _ _ is ∙ sym (ap (parts (b ∷ [])) (line_length-feed b [] is)))
    (λ is. cond-false _ _ _ is ∙ sym (ap (parts (b ∷ [])) (line_length-other b [] is)))
    (cases_Bool (b == 10))

-- one byte more
cuts_more : (b c : ℕ) (text : List ℕ) → Cuts (c ∷ text) → Cuts (b ∷ c ∷ text)
cuts_more b c text h = ⊎_elim
    (λ is. cond-true _ _ _ is ∙ sym (ap (parts (b ∷ c ∷ text)) (line_length-feed b (c ∷ text) is)))
    (λ is. cond-false _ _ _ is ∙ ap (onto b) h
    ∙ sym (ap (parts (b ∷ c ∷ text)) (line_length-other b (c ∷ text) is)))
    (cases_Bool (b == 10))

cuts : (text : List ℕ) → 0 < length text → Cuts text
cuts [] some = absurd (omega arith)
cuts (b ∷ []) some = cuts_one b
cuts (b ∷ c ∷ text) some = cuts_more b c text (cuts (c ∷ text) (omega arith))

-- the first line of a text that has a byte has one too
line_length-some : (text : List ℕ) → 0 < length text → 0 < line_length text
line_length-some [] some = absurd (omega arith)
line_length-some (b ∷ text) some = ⊎_elim
    (λ is. omega (arith, line_length-feed b text is))
    (λ is. omega (arith, line_length-other b text is))
    (cases_Bool (b == 10))

-- a text that is cut behind its first line
pub is_cut : (text : List ℕ) (n : ℕ) (line rest : List ℕ) → 0 < length text → n ≡ line_length text
    → line ≡ take n text → rest ≡ drop n text → IsSplitAfterLine text line rest
is_cut text n line rest some long front back = record {
  lines = cuts text some ∙ ap (parts text) (sym long)
      ∙ ap (λ l. l ∷ lines_of (drop n text)) (sym front) ∙ ap (λ r. line ∷ lines_of r) (sym back);
  shorter = omega (arith, line_length-some text some, ap length back, length-drop n text);
}

-- one byte further, behind the bytes of the first line
pub length_more : (text : List ℕ) (i b : ℕ) → i < length text → get_or text i 0 ≡ b
    → (b == 10) ≡ false → line_length text ≡ i + line_length (drop i text)
    → line_length text ≡ i + 1 + line_length (drop (i + 1) text)
length_more text i b within is other before =
    let split = ap line_length (drop_more text i 0 within) in
    let on = line_length-other (get_or text i 0) (drop (i + 1) text) (ap (λ x. x == 10) is ∙ other) in
    omega (arith, before, split, on)

-- the first line ends here
pub length_end : (text : List ℕ) (i b : ℕ) → i < length text → get_or text i 0 ≡ b
    → (b == 10) ≡ true → line_length text ≡ i + line_length (drop i text)
    → line_length text ≡ i + 1
length_end text i b within is feed before =
    let split = ap line_length (drop_more text i 0 within) in
    let on = line_length-feed (get_or text i 0) (drop (i + 1) text) (ap (λ x. x == 10) is ∙ feed) in
    omega (arith, before, split, on)
