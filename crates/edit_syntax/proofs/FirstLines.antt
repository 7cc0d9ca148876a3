-- Parsing the text of lines gives back the first line.
use Rattle.std.proofs.Common.{◌≡◌, ℕ, ◌≤◌, ◌++◌, List, [], Some, None, refl, sym, ap, ◌∙◌}
use Rattle.std.proofs.lemmas.Option.{same_Some}
use Rattle.edit_syntax.specs.declared.read.syntax_tokens.SyntaxToken.{SyntaxToken}
use Rattle.edit_syntax.specs.Strings.{LineEnd, line_end}
use Rattle.edit_syntax.specs.Grammar.{Line, Lines, one_line, more_lines, lines, AreLines}
use Rattle.edit_syntax.specs.Depth.{lines_depth}
use Rattle.edit_syntax.specs.SyntaxTokens.{tokens_of_line}
use Rattle.edit_syntax.specs.FirstLine.{after_first, tokens_of_first_line}
use Rattle.edit_syntax.specs.Reading.{line_at, line_end_at}
use Rattle.edit_syntax.proofs.Loops.{rest_of}
use Rattle.edit_syntax.proofs.FoldLaws.{line_end_again}
use Rattle.edit_syntax.proofs.LineLaws.{line_again, first_good, end_of_text, end_of_line}

abbrev the_first : Lines → Line
the_first (one_line l) = l
the_first (more_lines l e ls) = l

pub first_again : (bytes : List ℕ) (form : Lines) → bytes ≡ lines form → AreLines form → lines_depth form ≤ 80
    → line_at 80 bytes ≡ Some (the_first form, after_first form)
first_again bytes (one_line l) e h d = ap (line_at 80) e ∙
    line_again 80 l [] (record { valid = h; shallow = d }) end_of_text
first_again bytes (more_lines l e ls) same h d =
    ap (line_at 80) same ∙ line_again 80 l (line_end e (lines ls))
    (first_good 80 l e ls (record { valid = h; shallow = d })) (end_of_line e (lines ls))

tokens_are : (form : Lines) → tokens_of_line (the_first form) (after_first form) ≡ tokens_of_first_line form
tokens_are (one_line l) = refl
tokens_are (more_lines l e ls) = refl

-- what was read is the first line
pub first_is : (bytes rest : List ℕ) (x : Line) (old new : List SyntaxToken) (form : Lines)
    → line_at 80 bytes ≡ Some (x, rest) → new ≡ old ++ tokens_of_line x rest → bytes ≡ lines form
    → AreLines form
    → lines_depth form ≤ 80
    → (rest ≡ after_first form) × (new ≡ old ++ tokens_of_first_line form)
first_is bytes rest x old new form e noted same h d =
    let both : (x, rest) ≡ (the_first form, after_first form) =
    same_Some _ _ (sym e ∙ first_again bytes form same h d) in (
      ap (λ p. p.1) both,
      noted ∙ ap (λ (p : Line × List ℕ). old ++ tokens_of_line p.0 p.1) both ∙
          ap (λ (m : List SyntaxToken). old ++ m) (tokens_are form),
    )

-- it is not that nothing is read
none_some : {A : Type 0} (x : A) → None ≡ Some x → ⊥
none_some x h = cc

pub first_some : (bytes : List ℕ) (form : Lines) → line_at 80 bytes ≡ None → bytes ≡ lines form
    → AreLines form → lines_depth form ≤ 80 → ⊥
first_some bytes form e same h d = none_some (the_first form, after_first form)
    (sym e ∙ first_again bytes form same h d)

-- what follows a newline is what was read
pub next_is : (bytes next : List ℕ) (e : LineEnd) (rest : List ℕ) → Some next ≡ rest_of (line_end_at bytes)
    → bytes ≡ line_end e rest → next ≡ rest
next_is bytes next e rest is same = same_Some _ _ (is ∙ ap (λ (b : List ℕ). rest_of (line_end_at b)) same ∙
    ap rest_of (line_end_again e rest))

pub next_none : (bytes : List ℕ) (e : LineEnd) (rest : List ℕ) → None ≡ rest_of (line_end_at bytes)
    → bytes ≡ line_end e rest → ⊥
next_none bytes e rest is same = none_some rest (is ∙ ap (λ (b : List ℕ). rest_of (line_end_at b)) same ∙
    ap rest_of (line_end_again e rest))

none_at_end : rest_of (line_end_at []) ≡ None
unfolding line_end_at
none_at_end = refl

-- no newline stands in nothing
pub next_end : (bytes next : List ℕ) → Some next ≡ rest_of (line_end_at bytes) → bytes ≡ [] → next ≡ []
next_end bytes next is same =
    absurd (none_some next (sym (is ∙ ap (λ (b : List ℕ). rest_of (line_end_at b)) same ∙ none_at_end)))
