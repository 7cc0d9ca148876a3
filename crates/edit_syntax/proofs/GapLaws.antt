-- Gaps in arrays and inline tables: the parser accepts exactly what is written as its result says.
use Rattle.std.proofs.Common.{◌≡◌, ℕ, zero, suc, ◌+◌, ◌≤◌, Bool, true, false, ◌||◌, ◌==◌, eqb, List, [], ◌∷◌, ◌++◌, length, drop, Some, None, refl, ap, subst, ◌∙◌, inl, inr, arith}
use Rattle.std.proofs.lemmas.Bool.Decides.{nat_tests}
use Rattle.std.proofs.lemmas.List.{length-append}
use Rattle.edit_syntax.specs.Characters.{line_feed, carriage_return, hash, is_blank, is_comment_byte}
use Rattle.edit_syntax.specs.Strings.{LineEnd, lf, crlf, line_end}
use Rattle.edit_syntax.specs.Numbers.{is_decimal}
use Rattle.edit_syntax.specs.Grammar.{Between, blank, break, remark, gap, IsBetween, IsGap}
use Rattle.edit_syntax.specs.Reading.{Read, first, front, after, line_end_at, between_at, and_more, gap_at, gap_front, past_gap}
use Rattle.edit_syntax.proofs.TokenLaws.{bind_some, chosen, some_is, first_is, first_of, run_parts, run_all, front_again, after_again}
use Rattle.edit_syntax.proofs.FoldLaws.{line_end_sound, line_end_again}
use Rattle.edit_syntax.proofs.NumberEnds.{is_stop, EndsValue, blank_ends, stop_ends, stop_other, blank_other}

-- ---- what is read is spelled so

between_sound : (text : List ℕ) (x : Between × List ℕ) → between_at text ≡ Some x
    → (text ≡ gap (x.0 ∷ []) x.1) × IsBetween x.0
unfolding between_at
between_sound text x e =
    let P : Between × List ℕ → Type 0 = λ y. (text ≡ gap (y.0 ∷ []) y.1) × IsBetween y.0 in
    elim (chosen (is_blank (first text)) _ _ (Some x) e) [
      | inl h ↦ subst P (some_is _ x h.1) (first_of is_blank text refl h.0, h.0)
      | inr h ↦ elim (chosen (eqb (first text) hash) _ _ (Some x) h.1) [
        | inl k ↦
            let inner = drop 1 text in
            let a = bind_some (line_end_at (after is_comment_byte inner)) _ x k.1 in
            let tail : inner ≡ front is_comment_byte inner ++ line_end a.0.0 a.0.1 = run_parts is_comment_byte inner ∙
            ap (λ (r : List ℕ). front is_comment_byte inner ++ r) (line_end_sound (after is_comment_byte inner) a.0 a.1) in
            subst P (some_is _ x a.2)
            (first_is hash text (omega arith) k.0 ∙ ap (λ (r : List ℕ). hash ∷ r) tail, run_all is_comment_byte inner)
        | inr k ↦
            let a = bind_some (line_end_at text) _ x k.1 in
            subst P (some_is _ x a.2) (line_end_sound text a.0 a.1, tt)
      ]
    ]

gap_one : (b : Between) (g : List Between) (rest : List ℕ) → gap (b ∷ []) (gap g rest) ≡ gap (b ∷ g) rest
gap_one (blank b) g rest = refl
gap_one (break e) g rest = refl
gap_one (remark text e) g rest = refl

pub gap_sound : (n : ℕ) (text : List ℕ) → (text ≡ gap (gap_at n text).0 (gap_at n text).1)
    × IsGap (gap_at n text).0
unfolding gap_at
gap_sound zero text = (refl, tt)
gap_sound (suc n) text = go (between_at text) refl (λ t. gap_sound n t)
  where
    go : (read : Read Between) → between_at text ≡ read
        → ((t : List ℕ) → (t ≡ gap (gap_at n t).0 (gap_at n t).1) × IsGap (gap_at n t).0)
        → (text ≡ gap (and_more (gap_at n) text read).0 (and_more (gap_at n) text read).1)
        × IsGap (and_more (gap_at n) text read).0
    go None e ih = (refl, tt)
    go (Some x) e ih =
        let one = between_sound text x e in
        let more = ih x.1 in
        (one.0 ∙ ap (gap (x.0 ∷ [])) more.0 ∙ gap_one x.0 (gap_at n x.1).0 (gap_at n x.1).1, (one.1, more.1))

-- the gap at the front, and what follows it
pub front_parts : (text rest : List ℕ) → past_gap text ≡ rest → text ≡ gap (gap_front text) rest
front_parts text rest e = (gap_sound (length text) text).0 ∙ ap (gap (gap_front text)) e

pub front_gap : (text : List ℕ) → IsGap (gap_front text)
front_gap text = (gap_sound (length text) text).1

-- ---- what is spelled so is read

end_no_ch : (e : LineEnd) (rest : List ℕ) → is_comment_byte (first (line_end e rest)) ≡ false
end_no_ch lf rest = refl
end_no_ch crlf rest = refl

between_again : (b : Between) (rest : List ℕ) → IsBetween b → between_at (gap (b ∷ []) rest) ≡ Some (b, rest)
unfolding between_at line_end_at
between_again (blank b) rest h = rw h refl
between_again (break lf) rest h = refl
between_again (break crlf) rest h = refl
between_again (remark text e) rest h =
    let tail = line_end e rest in
    rw (
      after_again is_comment_byte text tail h (end_no_ch e rest),
      front_again is_comment_byte text tail h (end_no_ch e rest),
      line_end_again e rest,
    ) refl

-- what a gap begins with
abbrev pub opens_gap : ℕ → Bool
opens_gap b = is_blank b || b == hash || b == line_feed || b == carriage_return

record IsGapless (b : ℕ) : Type 0 where
  no_blank : is_blank b ≡ false
  no_hash : eqb b hash ≡ false
  no_feed : eqb b line_feed ≡ false
  no_return : eqb b carriage_return ≡ false

gapless : (b : ℕ) → opens_gap b ≡ false → IsGapless b
gapless b h = record {
  no_blank = grind (arith, nat_tests);
  no_hash = grind (arith, nat_tests);
  no_feed = grind (arith, nat_tests);
  no_return = grind (arith, nat_tests);
}

no_between : (rest : List ℕ) → opens_gap (first rest) ≡ false → between_at rest ≡ None
unfolding between_at line_end_at
no_between rest h = let g = gapless (first rest) h in rw (g.no_blank, g.no_hash, g.no_feed, g.no_return) refl

pub gap_longer : (g : List Between) (rest : List ℕ) → length rest + length g ≤ length (gap g rest)
gap_longer [] rest = omega arith
gap_longer (blank b ∷ g) rest = let k = gap_longer g rest in omega arith
gap_longer (break lf ∷ g) rest = let k = gap_longer g rest in omega arith
gap_longer (break crlf ∷ g) rest = let k = gap_longer g rest in omega arith
gap_longer (remark text lf ∷ g) rest =
    omega (arith, gap_longer g rest, length-append text (line_end lf (gap g rest)))
gap_longer (remark text crlf ∷ g) rest =
    omega (arith, gap_longer g rest, length-append text (line_end crlf (gap g rest)))

gap_again : (n : ℕ) (g : List Between) (rest : List ℕ) → IsGap g → opens_gap (first rest) ≡ false
    → length g ≤ n → gap_at n (gap g rest) ≡ (g, rest)
unfolding gap_at
gap_again zero [] rest h ends le = refl
gap_again (suc n) [] rest h ends le = rw (no_between rest ends) refl
gap_again zero (b ∷ g) rest h ends le = absurd (omega arith)
gap_again (suc n) (b ∷ g) rest h ends le =
    let here : between_at (gap (b ∷ g) rest) ≡ Some (b, gap g rest) =
    subst (λ (t : List ℕ). between_at t ≡ Some (b, gap g rest)) (gap_one b g rest)
    (between_again b (gap g rest) h.0) in
    rw (here, gap_again n g rest h.1 ends (omega arith)) refl

all_again : (g : List Between) (rest : List ℕ) → IsGap g → opens_gap (first rest) ≡ false
    → gap_at (length (gap g rest)) (gap g rest) ≡ (g, rest)
all_again g rest h ends = gap_again (length (gap g rest)) g rest h ends (omega (arith, gap_longer g rest))

pub front_gap_again : (g : List Between) (rest : List ℕ) → IsGap g → opens_gap (first rest) ≡ false
    → gap_front (gap g rest) ≡ g
front_gap_again g rest h ends = ap (λ (p : List Between × List ℕ). p.0) (all_again g rest h ends)

pub past_gap_again : (g : List Between) (rest : List ℕ) → IsGap g → opens_gap (first rest) ≡ false
    → past_gap (gap g rest) ≡ rest
past_gap_again g rest h ends = ap (λ (p : List Between × List ℕ). p.1) (all_again g rest h ends)

-- ---- a gap may stand behind a value

no_digit : (g : List Between) (rest : List ℕ) → IsGap g → is_stop (first rest) ≡ true
    → is_decimal (first (gap g rest)) ≡ false
no_digit [] rest h stop = stop_other (first rest) stop
no_digit (blank b ∷ g) rest h stop = blank_other b h.0
no_digit (break lf ∷ g) rest h stop = refl
no_digit (break crlf ∷ g) rest h stop = refl
no_digit (remark text e ∷ g) rest h stop = refl

pub gap_ends : (g : List Between) (rest : List ℕ) → IsGap g → is_stop (first rest) ≡ true
    → EndsValue (gap g rest)
gap_ends [] rest h stop = stop_ends rest stop
gap_ends (blank b ∷ g) rest h stop = blank_ends b (gap g rest) h.0 (no_digit g rest h.1 stop)
gap_ends (break lf ∷ g) rest h stop = stop_ends (line_feed ∷ gap g rest) refl
gap_ends (break crlf ∷ g) rest h stop = stop_ends (carriage_return ∷ (line_feed ∷ gap g rest)) refl
gap_ends (remark text e ∷ g) rest h stop = stop_ends (hash ∷ (text ++ line_end e (gap g rest))) refl
