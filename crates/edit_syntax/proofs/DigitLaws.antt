-- Digits and numbers that the parser accepts are written as its result says.
use Rattle.std.proofs.Common.{◌≡◌, ℕ, ◌<◌, Bool, true, false, eqb, List, ◌∷◌, ◌++◌, slice_index, drop, Some, refl, ap, subst, ◌∙◌, inl, inr, arith}
use Rattle.edit_syntax.specs.Numbers.{Sign, sign, is_decimal, are_digits, is_decimal_integer, Base, base_letter, base_digit, Exponent, exponent, IsExponent}
use Rattle.edit_syntax.specs.Grammar.{Value, integer, float, datetime, value, IsValue}
use Rattle.edit_syntax.specs.ReadingSteps.{first, front}
use Rattle.edit_syntax.specs.ReadingNumbers.{or_underscore, digits_at, whole_at, sign_of, past_sign, is_exponent_letter, exponent_at, fraction_read, whole_read, begins, decimal_at, based_at}
use Rattle.edit_syntax.proofs.TokenLaws.{bind_some, chosen, tested, some_is, first_is, first_of, at_drop, run_parts}
use Rattle.std.proofs.lemmas.Bool.{and_parts}

-- a number, a date or a time
abbrev pub IsNumber : Value → Type 0
IsNumber (integer n) = Unit {0}
IsNumber (float f) = Unit {0}
IsNumber (datetime d) = Unit {0}
IsNumber _ = ⊥

-- the text begins with this number, and the rest follows it
abbrev pub Spelled : List ℕ → Value × List ℕ → Type 0
Spelled text y = (text ≡ value y.0 y.1) × IsValue y.0 × IsNumber y.0

-- ---- digits

digits_sound : (class : ℕ → Bool) (text : List ℕ) (x : List ℕ × List ℕ) → digits_at class text ≡ Some x
    → (text ≡ x.0 ++ x.1) × (are_digits class x.0 ≡ true)
unfolding digits_at
digits_sound class text x e =
    let t = tested (are_digits class (front (or_underscore class) text)) _ x e in
    subst (λ (y : List ℕ × List ℕ). (text ≡ y.0 ++ y.1) × (are_digits class y.0 ≡ true)) (some_is _ x t.1)
    (run_parts (or_underscore class) text, t.0)

whole_sound : (text : List ℕ) (x : List ℕ × List ℕ) → whole_at text ≡ Some x → (text ≡ x.0 ++ x.1)
    × (is_decimal_integer x.0 ≡ true)
unfolding whole_at
whole_sound text x e =
    let t = tested (is_decimal_integer (front (or_underscore is_decimal) text)) _ x e in
    subst (λ (y : List ℕ × List ℕ). (text ≡ y.0 ++ y.1) × (is_decimal_integer y.0 ≡ true)) (some_is _ x t.1)
    (run_parts (or_underscore is_decimal) text, t.0)

sign_sound : (text : List ℕ) → text ≡ sign (sign_of text) (past_sign text)
sign_sound text = go (eqb (first text) 43) (eqb (first text) 45) refl refl
  where
    go : (a b : Bool) → eqb (first text) 43 ≡ a → eqb (first text) 45 ≡ b
        → text ≡ sign (sign_of text) (past_sign text)
    go true b e f = rw e (first_is 43 text (omega arith) e)
    go false true e f = rw (e, f) (first_is 45 text (omega arith) f)
    go false false e f = rw (e, f) refl

-- ---- numbers

exponent_sound : (text : List ℕ) (x : Exponent × List ℕ) → is_exponent_letter (first text) ≡ true
    → exponent_at text ≡ Some x → (text ≡ exponent x.0 x.1) × IsExponent x.0
unfolding exponent_at
exponent_sound text x h e =
    let a = bind_some (digits_at is_decimal (past_sign (drop 1 text))) _ x e in
    let d = digits_sound is_decimal (past_sign (drop 1 text)) a.0 a.1 in
    subst (λ (y : Exponent × List ℕ). (text ≡ exponent y.0 y.1) × IsExponent y.0) (some_is _ x a.2) (
      first_of is_exponent_letter text refl h ∙ ap (λ (r : List ℕ). first text ∷ r)
          (sign_sound (drop 1 text) ∙ ap (sign (sign_of (drop 1 text))) d.0),
      (h, d.1),
    )

fraction_sound : (s : Sign) (whole fraction text : List ℕ) (x : Value × List ℕ)
    → is_decimal_integer whole ≡ true
    → are_digits is_decimal fraction ≡ true → fraction_read s whole fraction text ≡ Some x
    → Spelled (sign s (whole ++ (46 ∷ (fraction ++ text)))) x
unfolding fraction_read
fraction_sound s whole fraction text x hw hf e =
    let P : Value × List ℕ → Type 0 = Spelled (sign s (whole ++ (46 ∷ (fraction ++ text)))) in
    elim (chosen (is_exponent_letter (first text)) _ _ (Some x) e) [
      | inl h ↦
          let a = bind_some (exponent_at text) _ x h.1 in
          let p = exponent_sound text a.0 h.0 a.1 in
          subst P (some_is _ x a.2)
          (ap (λ (r : List ℕ). sign s (whole ++ (46 ∷ (fraction ++ r)))) p.0, (hw, hf, p.1), tt)
      | inr h ↦ subst P (some_is _ x h.1) (refl, (hw, hf, tt), tt)
    ]

behind_sound : (s : Sign) (whole text : List ℕ) (x : Value × List ℕ) → is_decimal_integer whole ≡ true
    → whole_read s whole text ≡ Some x → Spelled (sign s (whole ++ text)) x
unfolding whole_read
behind_sound s whole text x hw e =
    let P : Value × List ℕ → Type 0 = Spelled (sign s (whole ++ text)) in
    elim (chosen (eqb (first text) 46) _ _ (Some x) e) [
      | inl h ↦
          let a = bind_some (digits_at is_decimal (drop 1 text)) _ x h.1 in
          let d = digits_sound is_decimal (drop 1 text) a.0 a.1 in
          let f = fraction_sound s whole a.0.0 a.0.1 x hw d.1 a.2 in
          let same : text ≡ 46 ∷ (a.0.0 ++ a.0.1) = first_is 46 text (omega arith) h.0 ∙
          ap (λ (r : List ℕ). 46 ∷ r) d.0 in
          (ap (λ (r : List ℕ). sign s (whole ++ r)) same ∙ f.0, f.1, f.2)
      | inr h ↦ elim (chosen (is_exponent_letter (first text)) _ _ (Some x) h.1) [
        | inl k ↦
            let a = bind_some (exponent_at text) _ x k.1 in
            let p = exponent_sound text a.0 k.0 a.1 in
            subst P (some_is _ x a.2) (ap (λ (r : List ℕ). sign s (whole ++ r)) p.0, (hw, p.1), tt)
        | inr k ↦ subst P (some_is _ x k.1) (refl, hw, tt)
      ]
    ]

pub begins_is : (a b c : ℕ) (text : List ℕ) → 0 < a → 0 < b → 0 < c → begins a b c text ≡ true
    → text ≡ a ∷ (b ∷ (c ∷ drop 3 text))
begins_is a b c text la lb lc e =
    let y = and_parts _ (eqb (slice_index text 2) c) e in
    let z = and_parts _ (eqb (slice_index text 1) b) y.0 in
    first_is a text la z.0 ∙
    ap (λ (r : List ℕ). a ∷ r) (at_drop 1 b text lb z.1 ∙
    ap (λ (r : List ℕ). b ∷ r) (at_drop 2 c text lc y.1))

pub decimal_sound : (s : Sign) (text : List ℕ) (x : Value × List ℕ) → decimal_at s text ≡ Some x
    → Spelled (sign s text) x
unfolding decimal_at
decimal_sound s text x e =
    let P : Value × List ℕ → Type 0 = Spelled (sign s text) in
    elim (chosen (begins 105 110 102 text) _ _ (Some x) e) [
      | inl h ↦ subst P (some_is _ x h.1)
          (ap (sign s) (begins_is 105 110 102 text (omega arith) (omega arith) (omega arith) h.0), tt, tt)
      | inr h ↦ elim (chosen (begins 110 97 110 text) _ _ (Some x) h.1) [
        | inl k ↦ subst P (some_is _ x k.1)
            (ap (sign s) (begins_is 110 97 110 text (omega arith) (omega arith) (omega arith) k.0), tt, tt)
        | inr k ↦
            let a = bind_some (whole_at text) _ x k.1 in
            let w = whole_sound text a.0 a.1 in
            let f = behind_sound s a.0.0 a.0.1 x w.1 a.2 in
            (ap (sign s) w.0 ∙ f.0, f.1, f.2)
      ]
    ]

pub based_sound : (b : Base) (text : List ℕ) (x : Value × List ℕ) → based_at b text ≡ Some x
    → Spelled (48 ∷ (base_letter b ∷ text)) x
unfolding based_at
based_sound b text x e =
    let a = bind_some (digits_at (base_digit b) text) _ x e in
    let d = digits_sound (base_digit b) text a.0 a.1 in
    subst (Spelled (48 ∷ (base_letter b ∷ text))) (some_is _ x a.2)
    (ap (λ (r : List ℕ). 48 ∷ (base_letter b ∷ r)) d.0, d.1, tt)
