-- Values: the parser accepts exactly what is written as its result says.
use Rattle.std.proofs.Common.{◌≡◌, ℕ, zero, suc, eqb, List, ◌∷◌, ◌++◌, length, drop, Some, ap, subst, ◌∙◌, inl, inr, arith}
use Rattle.edit_syntax.specs.Characters.{comma, equals, left_bracket, right_bracket, left_brace, right_brace, is_blank, All}
use Rattle.edit_syntax.specs.Strings.{key, IsKey}
use Rattle.edit_syntax.specs.Grammar.{Between, gap, IsGap, Value, array, inline, Elements, no_elements, last_element, element, Members, no_members, last_member, member, value, elements, members}
use Rattle.edit_syntax.specs.Reading.{◌>>=◌, Read, first, past, blanks, past_blanks, gap_front, past_gap, key_at, Pair, pair_at, members_at, elements_at, value_at}
use Rattle.edit_syntax.proofs.TokenLaws.{bind_some, chosen, some_is, first_is, past_some, run_all}
use Rattle.edit_syntax.proofs.KeyLaws.{key_sound}
use Rattle.edit_syntax.proofs.GapLaws.{front_parts, front_gap}
use Rattle.edit_syntax.proofs.ScalarLaws.{blank_parts, IsReadable, AreReadable, AreReadableElements, Sound, scalar_sound}

-- ---- pairs

-- what stands in a pair, and what follows it
abbrev pub pair_text : Pair → List ℕ → List ℕ
pair_text p rest = key p.key (p.before ++ (equals ∷ (p.behind ++ value p.value rest)))

pub record IsPair (n : ℕ) (p : Pair) : Type 0 where
  pub key : IsKey p.key
  pub before : All is_blank p.before
  pub behind : All is_blank p.behind
  pub value : IsReadable n p.value

pub pair_sound : (n : ℕ) (read : List ℕ → Read Value) → Sound n read → (text : List ℕ) (x : Pair × List ℕ)
    → pair_at read text ≡ Some x → (text ≡ pair_text x.0 x.1) × IsPair n x.0
unfolding pair_at
pair_sound n read sound text x e =
    let a = bind_some (key_at text)
    (λ k. past equals (past_blanks k.1) >>= λ rest. read (past_blanks rest) >>= λ v. Some
    (record { key = k.0; before = blanks k.1; behind = blanks rest; value = v.0 }, v.1)) x e in
    let b = bind_some (past equals (past_blanks a.0.1))
    (λ rest. read (past_blanks rest) >>= λ v. Some
    (record { key = a.0.0; before = blanks a.0.1; behind = blanks rest; value = v.0 }, v.1)) x a.2 in
    let c = bind_some (read (past_blanks b.0))
    (λ v. Some (record { key = a.0.0; before = blanks a.0.1; behind = blanks b.0; value = v.0 }, v.1)) x b.2
    in
    let k = key_sound text a.0 a.1 in
    let v = sound (past_blanks b.0) c.0 c.1 in
    let one : b.0 ≡ blanks b.0 ++ value c.0.0 c.0.1 = blank_parts b.0 (value c.0.0 c.0.1) v.0 in
    let two : a.0.1 ≡ blanks a.0.1 ++ (equals ∷ (blanks b.0 ++ value c.0.0 c.0.1)) =
    blank_parts a.0.1 (equals ∷ (blanks b.0 ++ value c.0.0 c.0.1)) (past_some equals _ b.0 (omega arith) b.1 ∙
    ap (λ (r : List ℕ). equals ∷ r) one) in
    subst (λ (y : Pair × List ℕ). (text ≡ pair_text y.0 y.1) × IsPair n y.0)
    (some_is (record { key = a.0.0; before = blanks a.0.1; behind = blanks b.0; value = c.0.0 }, c.0.1) x c.2) (
      k.0 ∙ ap (key a.0.0) two,
      record { key = k.1; before = run_all is_blank a.0.1; behind = run_all is_blank b.0; value = v.1 },
    )

-- ---- members

-- the readability of a pair before others
member_readable : (n : ℕ) (p : Pair) (c d : List Between) (ms : Members) → IsPair n p → IsGap c → IsGap d
    → AreReadable n ms → AreReadable n (member p.key p.before p.behind p.value c d ms)
member_readable n p c d ms one hc hd others = record {
  valid = (one.key, one.before, one.behind, one.value.valid, hc, hd, others.valid);
  shallow = let k = one.value.shallow in let l = others.shallow in omega arith;
}

last_readable : (n : ℕ) (p : Pair) (c : List Between) → IsPair n p → IsGap c
    → AreReadable n (last_member p.key p.before p.behind p.value c)
last_readable n p c one hc = record {
  valid = (one.key, one.before, one.behind, one.value.valid, hc);
  shallow = one.value.shallow;
}

no_members_readable : (n : ℕ) → AreReadable n no_members
no_members_readable n = record { valid = tt; shallow = omega arith }

pub members_sound : (n : ℕ) (read : List ℕ → Read Value) → Sound n read
    → (count : ℕ) (text : List ℕ) (x : Members × List ℕ) → members_at read count text ≡ Some x
    → (text ≡ members x.0 (right_brace ∷ x.1)) × AreReadable n x.0
unfolding members_at
members_sound n read sound zero text x e = absurd cc
members_sound n read sound (suc count) text x e =
    let P : Members × List ℕ → Type 0 = λ y. (text ≡ members y.0 (right_brace ∷ y.1)) × AreReadable n y.0 in
    elim (chosen (eqb (first text) right_brace) _ _ (Some x) e) [
      | inl h ↦ subst P (some_is _ x h.1) (first_is right_brace text (omega arith) h.0, no_members_readable n)
      | inr h ↦
          let a = bind_some (pair_at read text) _ x h.1 in
          let p = a.0.0 in
          let r = a.0.1 in
          let one = pair_sound n read sound text a.0 a.1 in
          elim (chosen (eqb (first (past_gap r)) comma) _ _ (Some x) a.2) [
            | inl k ↦
                let next = drop 1 (past_gap r) in
                let b = bind_some (members_at read count (past_gap next)) _ x k.1 in
                let others = members_sound n read sound count (past_gap next) b.0 b.1 in
                let more = members b.0.0 (right_brace ∷ b.0.1) in
                let two : next ≡ gap (gap_front next) more = front_parts next more others.0 in
                let three : r ≡ gap (gap_front r) (comma ∷ gap (gap_front next) more) =
                front_parts r (comma ∷ gap (gap_front next) more)
                (first_is comma (past_gap r) (omega arith) k.0 ∙ ap (λ (t : List ℕ). comma ∷ t) two) in
                subst P (some_is _ x b.2) (
                  one.0 ∙ ap (pair_text p) three,
                  member_readable n p (gap_front r)
                      (gap_front next) b.0.0 one.1 (front_gap r) (front_gap next) others.1,
                )
            | inr k ↦
                let b = bind_some (past right_brace (past_gap r)) _ x k.1 in
                let two : r ≡ gap (gap_front r) (right_brace ∷ b.0) =
                front_parts r (right_brace ∷ b.0)
                (past_some right_brace (past_gap r) b.0 (omega arith) b.1) in
                subst P (some_is _ x b.2)
                (one.0 ∙ ap (pair_text p) two, last_readable n p (gap_front r) one.1 (front_gap r))
          ]
    ]

-- ---- elements

none_readable : (n : ℕ) → AreReadableElements n no_elements
none_readable n = record { valid = tt; shallow = omega arith }

last_element_readable : (n : ℕ) (v : Value) (g : List Between) → IsReadable n v → IsGap g
    → AreReadableElements n (last_element v g)
last_element_readable n v g one hg = record { valid = (one.valid, hg); shallow = one.shallow }

element_readable : (n : ℕ) (v : Value) (g h : List Between) (es : Elements) → IsReadable n v → IsGap g
    → IsGap h → AreReadableElements n es → AreReadableElements n (element v g h es)
element_readable n v g h es one hg hh others = record {
  valid = (one.valid, hg, hh, others.valid);
  shallow = let k = one.shallow in let l = others.shallow in omega arith;
}

pub elements_sound : (n : ℕ) (read : List ℕ → Read Value) → Sound n read
    → (count : ℕ) (text : List ℕ) (x : Elements × List ℕ) → elements_at read count text ≡ Some x
    → (text ≡ elements x.0 (right_bracket ∷ x.1)) × AreReadableElements n x.0
unfolding elements_at
elements_sound n read sound zero text x e = absurd cc
elements_sound n read sound (suc count) text x e =
    let P : Elements × List ℕ → Type 0 = λ y. (text ≡ elements y.0 (right_bracket ∷ y.1))
    × AreReadableElements n y.0 in
    elim (chosen (eqb (first text) right_bracket) _ _ (Some x) e) [
      | inl h ↦ subst P (some_is _ x h.1) (first_is right_bracket text (omega arith) h.0, none_readable n)
      | inr h ↦
          let a = bind_some (read text) _ x h.1 in
          let v = a.0.0 in
          let r = a.0.1 in
          let one = sound text a.0 a.1 in
          elim (chosen (eqb (first (past_gap r)) comma) _ _ (Some x) a.2) [
            | inl k ↦
                let next = drop 1 (past_gap r) in
                let b = bind_some (elements_at read count (past_gap next)) _ x k.1 in
                let others = elements_sound n read sound count (past_gap next) b.0 b.1 in
                let more = elements b.0.0 (right_bracket ∷ b.0.1) in
                let two : next ≡ gap (gap_front next) more = front_parts next more others.0 in
                let three : r ≡ gap (gap_front r) (comma ∷ gap (gap_front next) more) =
                front_parts r (comma ∷ gap (gap_front next) more)
                (first_is comma (past_gap r) (omega arith) k.0 ∙ ap (λ (t : List ℕ). comma ∷ t) two) in
                subst P (some_is _ x b.2) (
                  one.0 ∙ ap (value v) three,
                  element_readable n v (gap_front r) (gap_front next) b.0.0 one.1
                      (front_gap r) (front_gap next) others.1,
                )
            | inr k ↦
                let b = bind_some (past right_bracket (past_gap r)) _ x k.1 in
                let two : r ≡ gap (gap_front r) (right_bracket ∷ b.0) =
                front_parts r (right_bracket ∷ b.0)
                (past_some right_bracket (past_gap r) b.0 (omega arith) b.1) in
                subst P (some_is _ x b.2)
                (one.0 ∙ ap (value v) two, last_element_readable n v (gap_front r) one.1 (front_gap r))
          ]
    ]

array_readable : (n : ℕ) (g : List Between) (es : Elements) → IsGap g → AreReadableElements n es
    → IsReadable (suc n) (array g es)
array_readable n g es hg h = record { valid = (hg, h.valid); shallow = let k = h.shallow in omega arith }

-- ---- inline tables

inline_readable : (n : ℕ) (g : List Between) (ms : Members) → IsGap g → AreReadable n ms
    → IsReadable (suc n) (inline g ms)
inline_readable n g ms hg h = record { valid = (hg, h.valid); shallow = let k = h.shallow in omega arith }

pub value_sound : (n : ℕ) → Sound n (value_at n)
unfolding value_at
value_sound zero text x e = scalar_sound 0 text x e
value_sound (suc n) text x e =
    let P : Value × List ℕ → Type 0 = λ y. (text ≡ value y.0 y.1) × IsReadable (suc n) y.0 in
    let inner = drop 1 text in
    elim (chosen (eqb (first text) left_bracket) _ _ (Some x) e) [
      | inl h ↦
          let b = bind_some (elements_at (value_at n) (length text) (past_gap inner)) _ x h.1 in
          let es = elements_sound n (value_at n) (value_sound n) (length text) (past_gap inner) b.0 b.1 in
          let tail : inner ≡ gap (gap_front inner) (elements b.0.0 (right_bracket ∷ b.0.1)) =
          front_parts inner (elements b.0.0 (right_bracket ∷ b.0.1)) es.0 in
          subst P (some_is _ x b.2) (
            first_is left_bracket text (omega arith) h.0 ∙ ap (λ (t : List ℕ). left_bracket ∷ t) tail,
            array_readable n (gap_front inner) b.0.0 (front_gap inner) es.1,
          )
      | inr other ↦ elim (chosen (eqb (first text) left_brace) _ _ (Some x) other.1) [
        | inl h ↦
            let b = bind_some (members_at (value_at n) (length text) (past_gap inner)) _ x h.1 in
            let ms = members_sound n (value_at n) (value_sound n) (length text) (past_gap inner) b.0 b.1 in
            let tail : inner ≡ gap (gap_front inner) (members b.0.0 (right_brace ∷ b.0.1)) =
            front_parts inner (members b.0.0 (right_brace ∷ b.0.1)) ms.0 in
            subst P (some_is _ x b.2) (
              first_is left_brace text (omega arith) h.0 ∙ ap (λ (t : List ℕ). left_brace ∷ t) tail,
              inline_readable n (gap_front inner) b.0.0 (front_gap inner) ms.1,
            )
        | inr h ↦ scalar_sound (suc n) text x h.1
      ]
    ]
