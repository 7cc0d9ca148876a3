-- Values of a single token, and the white space before them: what the parser accepts.
use Rattle.std.proofs.Common.{◌≡◌, ℕ, if◌then◌else◌, ◌<◌, ◌≤◌, true, false, ◌&&◌, eqb, List, ◌∷◌, ◌++◌, slice_index, drop, Some, refl, ap, subst, ◌∙◌, inl, inr, arith}
use Rattle.edit_syntax.specs.Characters.{quote, apostrophe, is_blank}
use Rattle.edit_syntax.specs.Grammar.{three, Value, basic, literal, multi_basic, multi_literal, boolean, integer, float, datetime, array, inline, Elements, Members, value, IsValue, AreElements, AreMembers}
use Rattle.edit_syntax.specs.Depth.{depth, elements_depth, members_depth}
use Rattle.edit_syntax.specs.ReadingNumbers.{begins, number_at}
use Rattle.edit_syntax.specs.Reading.{◌>>=◌, Read, multi_at, first, blanks, past_blanks, basic_at, literal_at, scalar_at, starts}
use Rattle.edit_syntax.proofs.TokenLaws.{bind_some, chosen, some_is, first_is, at_drop, run_parts, basic_sound, literal_sound}
use Rattle.edit_syntax.proofs.NumberLaws.{number_sound}
use Rattle.edit_syntax.proofs.DigitLaws.{IsNumber, begins_is}
use Rattle.edit_syntax.proofs.MultiLaws.{multi_basic_sound, multi_literal_sound}
use Rattle.std.proofs.lemmas.Bool.{and_parts}

-- ---- white space

-- the tabs and spaces at the front, and what follows them
pub blank_parts : (text rest : List ℕ) → past_blanks text ≡ rest → text ≡ blanks text ++ rest
blank_parts text rest e = run_parts is_blank text ∙ ap (λ (r : List ℕ). blanks text ++ r) e

-- ---- values that are one token

-- a value that is read where n may be nested
pub record IsReadable (n : ℕ) (v : Value) : Type 0 where
  pub valid : IsValue v
  pub shallow : depth v ≤ n

pub record AreReadable (n : ℕ) (ms : Members) : Type 0 where
  pub valid : AreMembers ms
  pub shallow : members_depth ms ≤ n

pub record AreReadableElements (n : ℕ) (es : Elements) : Type 0 where
  pub valid : AreElements es
  pub shallow : elements_depth es ≤ n

-- a reader of values reads nothing that is not spelled so
abbrev pub Sound : ℕ → (List ℕ → Read Value) → Type 0
Sound n read = (text : List ℕ) (x : Value × List ℕ) → read text ≡ Some x → (text ≡ value x.0 x.1)
    × IsReadable n x.0

starts_is : (a b c d : ℕ) (text : List ℕ) → 0 < a → 0 < b → 0 < c → 0 < d → starts a b c d text ≡ true
    → text ≡ a ∷ (b ∷ (c ∷ (d ∷ drop 4 text)))
starts_is a b c d text la lb lc ld e =
    let x = and_parts _ (eqb (slice_index text 3) d) e in
    let y = and_parts _ (eqb (slice_index text 2) c) x.0 in
    let z = and_parts _ (eqb (slice_index text 1) b) y.0 in
    first_is a text la z.0 ∙
    ap (λ (r : List ℕ). a ∷ r) (at_drop 1 b text lb z.1 ∙
    ap (λ (r : List ℕ). b ∷ r) (at_drop 2 c text lc y.1 ∙
    ap (λ (r : List ℕ). c ∷ r) (at_drop 3 d text ld x.1)))

flat : (n : ℕ) (v : Value) → IsValue v → depth v ≡ 0 → IsReadable n v
flat n v h e = record { valid = h; shallow = omega arith }

number_readable : (n : ℕ) (v : Value) → IsValue v → IsNumber v → IsReadable n v
number_readable n (integer i) h s = flat n (integer i) h refl
number_readable n (float f) h s = flat n (float f) h refl
number_readable n (datetime d) h s = flat n (datetime d) h refl
number_readable n (basic ps) h s = absurd s
number_readable n (literal text) h s = absurd s
number_readable n (multi_basic ps) h s = absurd s
number_readable n (multi_literal ps) h s = absurd s
number_readable n (boolean b) h s = absurd s
number_readable n (array g es) h s = absurd s
number_readable n (inline g ms) h s = absurd s

-- a value that is one token on one line
abbrev token_at : List ℕ → Read Value
token_at text =
    if eqb (first text) quote then (basic_at (drop 1 text) >>= λ p. Some (basic p.0, p.1))
    else (if eqb (first text) apostrophe then (literal_at (drop 1 text) >>= λ p. Some (literal p.0, p.1))
    else (if starts 116 114 117 101 text then Some (boolean true, drop 4 text)
    else (if starts 102 97 108 115 text && eqb (slice_index text 4) 101 then Some (boolean false, drop 5 text)
    else number_at text)))

token_sound : (n : ℕ) → Sound n token_at
token_sound n text x e =
    let P : Value × List ℕ → Type 0 = λ y. (text ≡ value y.0 y.1) × IsReadable n y.0 in
    elim (chosen (eqb (first text) quote) _ _ (Some x) e) [
      | inl h ↦
          let a = bind_some (basic_at (drop 1 text)) (λ p. Some (basic p.0, p.1)) x h.1 in
          let b = basic_sound (drop 1 text) a.0 a.1 in
          subst P (some_is _ x a.2) (
            first_is quote text (omega arith) h.0 ∙ ap (λ (r : List ℕ). quote ∷ r) b.0,
            flat n (basic a.0.0) b.1 refl,
          )
      | inr h ↦ elim (chosen (eqb (first text) apostrophe) _ _ (Some x) h.1) [
        | inl k ↦
            let a = bind_some (literal_at (drop 1 text)) (λ p. Some (literal p.0, p.1)) x k.1 in
            let b = literal_sound (drop 1 text) a.0 a.1 in
            subst P (some_is _ x a.2) (
              first_is apostrophe text (omega arith) k.0 ∙ ap (λ (r : List ℕ). apostrophe ∷ r) b.0,
              flat n (literal a.0.0) b.1 refl,
            )
        | inr k ↦ elim (chosen (starts 116 114 117 101 text) _ _ (Some x) k.1) [
          | inl l ↦ subst P (some_is _ x l.1) (
            starts_is 116 114 117 101 text (omega arith) (omega arith) (omega arith) (omega arith) l.0,
            flat n (boolean true) tt refl,
          )
          | inr l ↦ elim (chosen (starts 102 97 108 115 text && eqb (slice_index text 4) 101) _ _
              (Some x) l.1) [
                | inl m ↦
                    let w = and_parts (starts 102 97 108 115 text) (eqb (slice_index text 4) 101) m.0 in
                    let four = starts_is 102 97 108 115 text (omega arith) (omega arith) (omega arith)
                    (omega arith) w.0 in
                    subst P (some_is _ x m.1) (
                      four ∙ ap (λ (r : List ℕ). 102 ∷ (97 ∷ (108 ∷ (115 ∷ r))))
                          (at_drop 4 101 text (omega arith) w.1),
                      flat n (boolean false) tt refl,
                    )
                | inr m ↦ let f = number_sound text x m.1 in (f.0, number_readable n x.0 f.1 f.2)
              ]
        ]
      ]
    ]

pub scalar_sound : (n : ℕ) → Sound n scalar_at
unfolding scalar_at
scalar_sound n text x e =
    let P : Value × List ℕ → Type 0 = λ y. (text ≡ value y.0 y.1) × IsReadable n y.0 in
    elim (chosen (begins quote quote quote text) _ _ (Some x) e) [
      | inl h ↦
          let a = bind_some (multi_at quote (drop 3 text)) (λ p. Some (multi_basic p.0, p.1)) x h.1 in
          let b = multi_basic_sound (drop 3 text) a.0 a.1 in
          subst P (some_is _ x a.2) (
            begins_is quote quote quote text (omega arith) (omega arith) (omega arith) h.0 ∙
                ap (three quote) b.spelled,
            flat n (multi_basic a.0.0) (b.fine, b.runs, b.folds) refl,
          )
      | inr g ↦ elim (chosen (begins apostrophe apostrophe apostrophe text) _ _ (Some x) g.1) [
        | inl h ↦
            let a = bind_some (multi_at apostrophe (drop 3 text))
            (λ p. Some (multi_literal p.0, p.1)) x h.1 in
            let b = multi_literal_sound (drop 3 text) a.0 a.1 in
            subst P (some_is _ x a.2) (
              begins_is apostrophe apostrophe apostrophe text (omega arith) (omega arith) (omega arith) h.0 ∙
                  ap (three apostrophe) b.spelled,
              flat n (multi_literal a.0.0) (b.fine, b.runs) refl,
            )
        | inr f ↦ token_sound n text x f.1
      ]
    ]
