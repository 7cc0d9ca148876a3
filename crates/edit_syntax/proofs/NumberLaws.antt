-- A date, a time or a number that the parser accepts is written as its result says.
use Rattle.std.proofs.Common.{◌≡◌, ℕ, zero, suc, ◌+◌, ◌<◌, ◌≤◌, nat_le, cond, Bool, true, false, ◌&&◌, ◌||◌, ◌==◌, eqb, List, [], ◌∷◌, ◌++◌, length, slice_index, take, drop, Option, Some, IfSome, refl, sym, ap, subst, ◌∙◌, inl, inr, arith}
use Rattle.std.proofs.lemmas.Bool.Decides.{nat_tests}
use Rattle.std.proofs.lemmas.List.{take-append-drop}
use Rattle.std.specs.List.{prefix_len}
use Rattle.edit_syntax.specs.Characters.{All}
use Rattle.edit_syntax.specs.Numbers.{no_sign, plus, minus, is_decimal, Base, hexadecimal, octal, binary, base_letter, Date, date, IsDate, Time, time, IsTime, HasDigits, fraction_text, Offset, offset, IsOffset}
use Rattle.edit_syntax.specs.Grammar.{Value}
use Rattle.edit_syntax.specs.ReadingSteps.{first, after, past}
use Rattle.edit_syntax.specs.ReadingNumbers.{based_at, count_at, group_at, date_at, second_at, time_at, offset_at, is_time_next, date_time_at, local_time_at, unsigned_at, number_at}
use Rattle.edit_syntax.proofs.TokenLaws.{bind_some, chosen, tested, some_is, first_is, first_of, at_drop, past_some, run_parts, run_all}
use Rattle.edit_syntax.proofs.KeyLaws.{length_front}
use Rattle.std.proofs.lemmas.Bool.{and_parts}
use Rattle.edit_syntax.proofs.DigitLaws.{Spelled, decimal_sound, based_sound}

-- ---- dates and times

le_of : (a b : ℕ) → nat_le a b ≡ true → a ≤ b
le_of a b h = grind (arith, nat_tests)

-- a front of a run
run_front : (class : ℕ → Bool) (n : ℕ) (text : List ℕ) → n ≤ prefix_len class text
    → (length (take n text) ≡ n) × All class (take n text)
run_front class zero text le = (refl, tt)
run_front class (suc n) [] le = absurd (omega arith)
run_front class (suc n) (b ∷ text) le = go (class b) refl le (λ h. run_front class n text h)
  where
    go : (t : Bool) → class b ≡ t → suc n ≤ cond t (1 + prefix_len class text) 0
        → (n ≤ prefix_len class text → (length (take n text) ≡ n) × All class (take n text))
        → (length (take (suc n) (b ∷ text)) ≡ suc n) × All class (take (suc n) (b ∷ text))
    go true e h others = let more = others (omega arith) in (ap suc more.0, (e, more.1))
    go false e h others = absurd (omega arith)

count_sound : (n : ℕ) (text : List ℕ) (x : List ℕ × List ℕ) → count_at n text ≡ Some x → (text ≡ x.0 ++ x.1)
    × HasDigits n x.0
unfolding count_at
count_sound n text x e =
    let t = tested (nat_le n (prefix_len is_decimal text)) _ x e in
    subst (λ (y : List ℕ × List ℕ). (text ≡ y.0 ++ y.1) × HasDigits n y.0) (some_is _ x t.1)
    (sym (take-append-drop n text), run_front is_decimal n text (le_of _ _ t.0))

group_sound : (n b : ℕ) (text : List ℕ) (x : List ℕ × List ℕ) → 0 < b → group_at n b text ≡ Some x
    → (text ≡ x.0 ++ (b ∷ x.1)) × HasDigits n x.0
unfolding group_at
group_sound n b text x lt e =
    let a = bind_some (count_at n text) _ x e in
    let r = bind_some (past b a.0.1) _ x a.2 in
    let d = count_sound n text a.0 a.1 in
    subst (λ (y : List ℕ × List ℕ). (text ≡ y.0 ++ (b ∷ y.1)) × HasDigits n y.0) (some_is _ x r.2)
    (d.0 ∙ ap (λ (t : List ℕ). a.0.0 ++ t) (past_some b a.0.1 r.0 lt r.1), d.1)

date_sound : (text : List ℕ) (x : Date × List ℕ) → date_at text ≡ Some x → (text ≡ date x.0 x.1) × IsDate x.0
unfolding date_at
date_sound text x e =
    let a = bind_some (group_at 4 45 text) _ x e in
    let b = bind_some (group_at 2 45 a.0.1) _ x a.2 in
    let c = bind_some (count_at 2 b.0.1) _ x b.2 in
    let y = group_sound 4 45 text a.0 (omega arith) a.1 in
    let m = group_sound 2 45 a.0.1 b.0 (omega arith) b.1 in
    let d = count_sound 2 b.0.1 c.0 c.1 in
    subst (λ (y : Date × List ℕ). (text ≡ date y.0 y.1) × IsDate y.0) (some_is _ x c.2) (
      y.0 ∙ ap (λ (r : List ℕ). a.0.0 ++ (45 ∷ r)) (m.0 ∙ ap (λ (r : List ℕ). b.0.0 ++ (45 ∷ r)) d.0),
      (y.1, m.1, d.1),
    )

second_sound : (text : List ℕ) (x : Option (List ℕ) × List ℕ) → second_at text ≡ Some x
    → (text ≡ fraction_text x.0 x.1) × IfSome x.0 (λ digits. (0 < length digits) × All is_decimal digits)
unfolding second_at
second_sound text x e =
    let P : Option (List ℕ) × List ℕ → Type 0 = λ y. (text ≡ fraction_text y.0 y.1)
    × IfSome y.0 (λ digits. (0 < length digits) × All is_decimal digits) in
    elim (chosen (eqb (first text) 46) _ _ (Some x) e) [
      | inl h ↦
          let t = tested (is_decimal (first (drop 1 text))) _ x h.1 in
          subst P (some_is _ x t.1) (
            first_is 46 text (omega arith) h.0 ∙
                ap (λ (r : List ℕ). 46 ∷ r) (run_parts is_decimal (drop 1 text)),
            (length_front is_decimal (drop 1 text) refl t.0, run_all is_decimal (drop 1 text)),
          )
      | inr h ↦ subst P (some_is _ x h.1) (refl, tt)
    ]

time_sound : (text : List ℕ) (x : Time × List ℕ) → time_at text ≡ Some x → (text ≡ time x.0 x.1) × IsTime x.0
unfolding time_at
time_sound text x e =
    let a = bind_some (group_at 2 58 text) _ x e in
    let b = bind_some (group_at 2 58 a.0.1) _ x a.2 in
    let c = bind_some (count_at 2 b.0.1) _ x b.2 in
    let d = bind_some (second_at c.0.1) _ x c.2 in
    let h = group_sound 2 58 text a.0 (omega arith) a.1 in
    let m = group_sound 2 58 a.0.1 b.0 (omega arith) b.1 in
    let s = count_sound 2 b.0.1 c.0 c.1 in
    let f = second_sound c.0.1 d.0 d.1 in
    subst (λ (y : Time × List ℕ). (text ≡ time y.0 y.1) × IsTime y.0) (some_is _ x d.2) (
      h.0 ∙ ap (λ (r : List ℕ). a.0.0 ++ (58 ∷ r)) (m.0 ∙
          ap (λ (r : List ℕ). b.0.0 ++ (58 ∷ r)) (s.0 ∙ ap (λ (r : List ℕ). c.0.0 ++ r) f.0)),
      (h.1, m.1, s.1, f.1),
    )

abbrev is_zulu : ℕ → Bool
is_zulu b = b == 90 || b == 122

abbrev is_shift : ℕ → Bool
is_shift b = b == 43 || b == 45

abbrev is_between : ℕ → Bool
is_between b = b == 84 || b == 116 || b == 32

offset_sound : (text : List ℕ) (x : Offset × List ℕ) → offset_at text ≡ Some x → (text ≡ offset x.0 x.1)
    × IsOffset x.0
unfolding offset_at
offset_sound text x e =
    let P : Offset × List ℕ → Type 0 = λ y. (text ≡ offset y.0 y.1) × IsOffset y.0 in
    elim (chosen (is_zulu (first text)) _ _ (Some x) e) [
      | inl h ↦ subst P (some_is _ x h.1) (first_of is_zulu text refl h.0, h.0)
      | inr h ↦ elim (chosen (is_shift (first text)) _ _ (Some x) h.1) [
        | inl k ↦
            let a = bind_some (group_at 2 58 (drop 1 text)) _ x k.1 in
            let b = bind_some (count_at 2 a.0.1) _ x a.2 in
            let g = group_sound 2 58 (drop 1 text) a.0 (omega arith) a.1 in
            let m = count_sound 2 a.0.1 b.0 b.1 in
            subst P (some_is _ x b.2) (
              first_of is_shift text refl k.0 ∙ ap (λ (r : List ℕ). first text ∷ r)
                  (g.0 ∙ ap (λ (r : List ℕ). a.0.0 ++ (58 ∷ r)) m.0),
              (k.0, g.1, m.1),
            )
        | inr k ↦ subst P (some_is _ x k.1) (refl, tt)
      ]
    ]

-- the byte that joins a time to a date
joins_between : (text : List ℕ) → is_time_next text ≡ true → is_between (first text) ≡ true
joins_between text h = grind (arith, nat_tests)

dated_sound : (text : List ℕ) (x : Value × List ℕ) → date_time_at text ≡ Some x → Spelled text x
unfolding date_time_at
dated_sound text x e =
    let a = bind_some (date_at text) _ x e in
    let d = date_sound text a.0 a.1 in
    elim (chosen (is_time_next a.0.1) _ _ (Some x) a.2) [
      | inl h ↦
          let b = bind_some (time_at (drop 1 a.0.1)) _ x h.1 in
          let c = bind_some (offset_at b.0.1) _ x b.2 in
          let t = time_sound (drop 1 a.0.1) b.0 b.1 in
          let o = offset_sound b.0.1 c.0 c.1 in
          let between = joins_between a.0.1 h.0 in
          subst (Spelled text) (some_is _ x c.2) (
            d.0 ∙ ap (date a.0.0) (first_of is_between a.0.1 refl between ∙
                ap (λ (r : List ℕ). first a.0.1 ∷ r) (t.0 ∙ ap (time b.0.0) o.0)),
            (d.1, between, t.1, o.1),
            tt,
          )
      | inr h ↦ subst (Spelled text) (some_is _ x h.1) (d.0, d.1, tt)
    ]

timed_sound : (text : List ℕ) (x : Value × List ℕ) → local_time_at text ≡ Some x → Spelled text x
unfolding local_time_at
timed_sound text x e =
    let a = bind_some (time_at text) _ x e in
    let t = time_sound text a.0 a.1 in
    subst (Spelled text) (some_is _ x a.2) (t.0, t.1, tt)

-- ---- all of them

prefixed : (b : Base) (text : List ℕ) (x : Value × List ℕ) → 0 < base_letter b
    → (eqb (first text) 48 && eqb (slice_index text 1) (base_letter b)) ≡ true
    → based_at b (drop 2 text) ≡ Some x → Spelled text x
prefixed b text x lt t e =
    let w = and_parts (eqb (first text) 48) (eqb (slice_index text 1) (base_letter b)) t in
    let f = based_sound b (drop 2 text) x e in (
      first_is 48 text (omega arith) w.0 ∙
          ap (λ (r : List ℕ). 48 ∷ r) (at_drop 1 (base_letter b) text lt w.1) ∙ f.0,
      f.1,
      f.2,
    )

unsigned_sound : (text : List ℕ) (x : Value × List ℕ) → unsigned_at text ≡ Some x → Spelled text x
unfolding unsigned_at
unsigned_sound text x e =
    let behind = first (after is_decimal text) in
    let opened : ℕ → Bool = λ c. eqb (first text) 48 && eqb (slice_index text 1) c in
    elim (chosen (eqb behind 45) _ _ (Some x) e) [
      | inl h ↦ dated_sound text x h.1
      | inr h ↦ elim (chosen (eqb behind 58) _ _ (Some x) h.1) [
        | inl i ↦ timed_sound text x i.1
        | inr i ↦ elim (chosen (opened 120) _ _ (Some x) i.1) [
          | inl j ↦ prefixed hexadecimal text x (omega arith) j.0 j.1
          | inr j ↦ elim (chosen (opened 111) _ _ (Some x) j.1) [
            | inl k ↦ prefixed octal text x (omega arith) k.0 k.1
            | inr k ↦ elim (chosen (opened 98) _ _ (Some x) k.1) [
              | inl l ↦ prefixed binary text x (omega arith) l.0 l.1
              | inr l ↦ decimal_sound no_sign text x l.1
            ]
          ]
        ]
      ]
    ]

pub number_sound : (text : List ℕ) (x : Value × List ℕ) → number_at text ≡ Some x → Spelled text x
unfolding number_at
number_sound text x e = elim (chosen (eqb (first text) 43) _ _ (Some x) e) [
  | inl h ↦ let f = decimal_sound plus (drop 1 text) x h.1 in
      (first_is 43 text (omega arith) h.0 ∙ f.0, f.1, f.2)
  | inr h ↦ elim (chosen (eqb (first text) 45) _ _ (Some x) h.1) [
    | inl k ↦ let f = decimal_sound minus (drop 1 text) x k.1 in
        (first_is 45 text (omega arith) k.0 ∙ f.0, f.1, f.2)
    | inr k ↦ unsigned_sound text x k.1
  ]
]
