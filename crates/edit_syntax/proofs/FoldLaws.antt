-- Newlines and line folds: the parser accepts exactly what is written as its result says.
use Rattle.std.proofs.Common.{◌≡◌, ℕ, zero, suc, ◌<◌, ◌≤◌, true, false, ◌&&◌, eqb, List, [], ◌∷◌, length, slice_index, Some, refl, ap, subst, ◌∙◌, inl, inr, arith}
use Rattle.std.specs.List.{AllByRecursion}
use Rattle.edit_syntax.specs.Characters.{line_feed, carriage_return, is_blank}
use Rattle.edit_syntax.specs.Strings.{LineEnd, lf, crlf, line_end, Space, blank, break, spaces, IsSpace}
use Rattle.edit_syntax.specs.Reading.{first, line_end_at, begins_space, space_at, spaces_at, is_line_break}
use Rattle.edit_syntax.proofs.TokenLaws.{bind_some, chosen, tested, some_is, first_is, first_of, at_drop}
use Rattle.std.proofs.lemmas.Bool.{and_parts}

-- ---- newlines

pub line_end_sound : (bytes : List ℕ) (x : LineEnd × List ℕ) → line_end_at bytes ≡ Some x
    → bytes ≡ line_end x.0 x.1
unfolding line_end_at
line_end_sound bytes x e =
    let P : LineEnd × List ℕ → Type 0 = λ y. bytes ≡ line_end y.0 y.1 in
    elim (chosen (eqb (first bytes) line_feed) _ _ (Some x) e) [
      | inl h ↦ subst P (some_is _ x h.1) (first_is line_feed bytes (omega arith) h.0)
      | inr h ↦
          let t = tested (eqb (first bytes) carriage_return && eqb (slice_index bytes 1) line_feed) _ x h.1 in
          let w = and_parts (eqb (first bytes) carriage_return) (eqb (slice_index bytes 1) line_feed) t.0 in
          subst P (some_is _ x t.1) (first_is carriage_return bytes (omega arith) w.0 ∙
          ap (λ (r : List ℕ). carriage_return ∷ r) (at_drop 1 line_feed bytes (omega arith) w.1))
    ]

pub line_end_again : (e : LineEnd) (rest : List ℕ) → line_end_at (line_end e rest) ≡ Some (e, rest)
unfolding line_end_at
line_end_again lf rest = refl
line_end_again crlf rest = refl

pub line_end_first : (e : LineEnd) (rest : List ℕ) → is_line_break (first (line_end e rest)) ≡ true
line_end_first lf rest = refl
line_end_first crlf rest = refl

-- ---- white space and newlines

space_sound : (text : List ℕ) (x : Space × List ℕ) → space_at text ≡ Some x → (text ≡ spaces (x.0 ∷ []) x.1)
    × IsSpace x.0
unfolding space_at
space_sound text x e =
    let P : Space × List ℕ → Type 0 = λ y. (text ≡ spaces (y.0 ∷ []) y.1) × IsSpace y.0 in
    elim (chosen (is_blank (first text)) _ _ (Some x) e) [
      | inl h ↦ subst P (some_is _ x h.1) (first_of is_blank text refl h.0, h.0)
      | inr h ↦
          let a = bind_some (line_end_at text) _ x h.1 in
          subst P (some_is _ x a.2) (line_end_sound text a.0 a.1, tt)
    ]

spaces_step : (s : Space) (more : List Space) (rest : List ℕ)
    → spaces (s ∷ []) (spaces more rest) ≡ spaces (s ∷ more) rest
spaces_step (blank b) more rest = refl
spaces_step (break e) more rest = refl

-- all of them were read
pub record AreSpaces (text : List ℕ) (x : List Space × List ℕ) : Type 0 where
  pub spelled : text ≡ spaces x.0 x.1
  pub valid : AllByRecursion IsSpace x.0
  pub ended : begins_space x.1 ≡ false

pub spaces_sound : (n : ℕ) (text : List ℕ) (x : List Space × List ℕ) → spaces_at n text ≡ Some x
    → AreSpaces text x
unfolding spaces_at
spaces_sound zero text x e = absurd cc
spaces_sound (suc n) text x e = elim (chosen (begins_space text) _ _ (Some x) e) [
  | inl h ↦
      let a = bind_some (space_at text) _ x h.1 in
      let b = bind_some (spaces_at n a.0.1) _ x a.2 in
      let one = space_sound text a.0 a.1 in
      let others = spaces_sound n a.0.1 b.0 b.1 in
      subst (AreSpaces text) (some_is (a.0.0 ∷ b.0.0, b.0.1) x b.2)
      (record {
        spelled = one.0 ∙ ap (spaces (a.0.0 ∷ [])) others.spelled ∙ spaces_step a.0.0 b.0.0 b.0.1;
        valid = (one.1, others.valid);
        ended = others.ended;
      })
  | inr h ↦ subst (AreSpaces text) (some_is _ x h.1) (record { spelled = refl; valid = tt; ended = h.0 })
]

space_begins : (s : Space) (more : List ℕ) → IsSpace s → begins_space (spaces (s ∷ []) more) ≡ true
space_begins (blank b) more h = rw h refl
space_begins (break lf) more h = refl
space_begins (break crlf) more h = refl

space_again : (s : Space) (more : List ℕ) → IsSpace s → space_at (spaces (s ∷ []) more) ≡ Some (s, more)
unfolding space_at
space_again (blank b) more h = rw h refl
space_again (break lf) more h = rw (line_end_again lf more) refl
space_again (break crlf) more h = rw (line_end_again crlf more) refl

pub spaces_again : (n : ℕ) (ss : List Space) (rest : List ℕ) → AllByRecursion IsSpace ss
    → begins_space rest ≡ false → length ss < n → spaces_at n (spaces ss rest) ≡ Some (ss, rest)
unfolding spaces_at
spaces_again zero ss rest h ends lt = absurd (omega arith)
spaces_again (suc n) [] rest h ends lt = rw ends refl
spaces_again (suc n) (s ∷ ss) rest h ends lt =
    let P : List ℕ → Type 0 = λ t. spaces_at (suc n) t ≡ Some (s ∷ ss, rest) in
    subst P (spaces_step s ss rest)
    (rw (
      space_begins s (spaces ss rest) h.0,
      space_again s (spaces ss rest) h.0,
      spaces_again n ss rest h.1 ends (omega arith),
    ) refl)

pub count_spaces : (ss : List Space) (rest : List ℕ) → length ss ≤ length (spaces ss rest)
count_spaces [] rest = omega arith
count_spaces (blank b ∷ ss) rest = let h = count_spaces ss rest in omega arith
count_spaces (break lf ∷ ss) rest = let h = count_spaces ss rest in omega arith
count_spaces (break crlf ∷ ss) rest = let h = count_spaces ss rest in omega arith
