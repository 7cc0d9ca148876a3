-- A `-` in a requirement is parsed as part of a comparator with a patch number.
use Rattle.std.proofs.Common.{◌≡◌, ◌<◌, ◌+◌, ◌%◌, ◌^◌, ◌++◌, ◌∷◌, [], List, ℕ, zero, suc, Ok, Option, Some, None, Bool, true, false, length, refl, ap, ◌∙◌, sym, subst, arith, inl, inr}
use Rattle.std.specs.Prelude.{◌==◌, ◌||◌, Result, is_some}
use Rattle.std.specs.Fmt.{decimal}
use Rattle.std.specs.List.{list_any}
use Rattle.std.proofs.lemmas.Bool.{cases_Bool, eqb-true}
use Rattle.std.proofs.lemmas.Fmt.{decimal_by_steps}
use Rattle.std.proofs.lemmas.List.Folds.{list_any-append}
use Rattle.semver.specs.Parse.{Held, Minor, Parsed, Patch, build_part, comparator_in, comparator_of, first_or_equal, has, minor_of, minor_part, next_text, numeric, op_of, patch_number, patch_of, patch_part, pre_part, req_after, req_from, req_next, req_of, strip_spaces, wild_req, wildcard_of}
use Rattle.semver.specs.declared.error.Error.{Error}
use Rattle.semver.specs.declared.error.Position.{Position}
use Rattle.semver.specs.declared.error.Position.TheVariants as place
use Rattle.semver.specs.declared.Op.{Op}
use Rattle.semver.specs.declared.Op.TheVariants as op
use Rattle.semver.proofs.Grammar.{bind-ok}
use Rattle.semver.proofs.Numerals.{numeric-text, ok-value}
use Rattle.edit_version.specs.Laws.{holds_dash}
use Rattle.edit_version.proofs.Shapes.{held_of, in-comparator}

pub dash-append : (xs ys : List ℕ) → holds_dash (xs ++ ys) ≡ (holds_dash xs || holds_dash ys)
dash-append xs ys = list_any-append (λ b. b == 45) xs ys

abbrev NoDash : ℕ → List ℕ → Type 0
NoDash n ds = holds_dash ds ≡ false

digit-no_dash : (k : ℕ) → (48 + k == 45) ≡ false
digit-no_dash k = grind arith

pub decimal-no_dash : (n : ℕ) → n < 2 ^ 64 → holds_dash (decimal n) ≡ false
decimal-no_dash n fits = decimal_by_steps NoDash
    (λ k low. rw (digit-no_dash k) refl)
    (λ k ds big ih. dash-append ds ((48 + k % 10) ∷ []) ∙ rw (ih, digit-no_dash (k % 10)) refl)
    n fits

-- a dash after a byte that is none
dash-rest : (b : ℕ) (rest : List ℕ) → (b == 45) ≡ false → holds_dash (b ∷ rest) ≡ true
    → holds_dash rest ≡ true
dash-rest b rest n h = rw n at h

byte-not : (b k : ℕ) → (b == k) ≡ true → (k == 45) ≡ false → (b == 45) ≡ false
byte-not b k h n = ap (λ (x : ℕ). x == 45) (eqb-true b k h) ∙ n

dash-strip : (xs : List ℕ) → holds_dash xs ≡ true → holds_dash (strip_spaces xs) ≡ true
unfolding strip_spaces
dash-strip [] h = h
dash-strip (b ∷ rest) h = elim (cases_Bool (b == 32)) [
  | inl space ↦ rw space (dash-strip rest (dash-rest b rest (byte-not b 32 space refl) h))
  | inr other ↦ rw other h
]

dash-first : (one two : Op) (xs : List ℕ) → holds_dash xs ≡ true
    → holds_dash (first_or_equal one two xs).1 ≡ true
dash-first one two [] h = h
dash-first one two (b ∷ rest) h = elim (cases_Bool (b == 61)) [
  | inl same ↦ rw same (dash-rest b rest (byte-not b 61 same refl) h)
  | inr other ↦ rw other h
]

dash-op : (xs : List ℕ) → holds_dash xs ≡ true → holds_dash (op_of xs).1 ≡ true
dash-op [] h = h
dash-op (a ∷ rest) h = elim (cases_Bool (a == 61)) [
  | inl x ↦ rw x (dash-rest a rest (byte-not a 61 x refl) h)
  | inr n1 ↦ elim (cases_Bool (a == 62)) [
    | inl x ↦ rw (n1, x) (dash-first op.Greater op.GreaterEq rest (dash-rest a rest (byte-not a 62 x refl) h))
    | inr n2 ↦ elim (cases_Bool (a == 60)) [
      | inl x ↦ rw (n1, n2, x) (dash-first op.Less op.LessEq rest (dash-rest a rest (byte-not a 60 x refl) h))
      | inr n3 ↦ elim (cases_Bool (a == 126)) [
        | inl x ↦ rw (n1, n2, n3, x) (dash-rest a rest (byte-not a 126 x refl) h)
        | inr n4 ↦ elim (cases_Bool (a == 94)) [
          | inl x ↦ rw (n1, n2, n3, n4, x) (dash-rest a rest (byte-not a 94 x refl) h)
          | inr n5 ↦ rw (n1, n2, n3, n4, n5) h
        ]
      ]
    ]
  ]
]

dash-numeric : (pos : Position) (xs : List ℕ) (r : ℕ × List ℕ) → numeric pos xs ≡ Ok r → holds_dash xs ≡ true
    → holds_dash r.1 ≡ true
dash-numeric pos xs r e h =
    let t = numeric-text pos xs r.0 r.1 e in
    let split : holds_dash xs ≡ (holds_dash (decimal r.0) || holds_dash r.1) = ap holds_dash t.0 ∙
    dash-append (decimal r.0) r.1 in
    let none = decimal-no_dash r.0 t.1 in
    sym (split ∙ rw none refl) ∙ h

wild-rest : (b : ℕ) (rest : List ℕ) (w : ℕ × List ℕ) → ◌≡◌ {A = Option (ℕ × List ℕ)} (Some (b, rest)) (Some w)
    → rest ≡ w.1
wild-rest b rest w e = cc e

wild-byte : (xs : List ℕ) (w : ℕ × List ℕ) → wildcard_of xs ≡ Some w → holds_dash xs ≡ true
    → holds_dash w.1 ≡ true
wild-byte [] w e h = cc e
wild-byte (b ∷ rest) w e h = elim (cases_Bool (b == 42)) [
  | inl star ↦
      let same : rest ≡ w.1 = wild-rest b rest w (rw star at e) in
      subst (λ (x : List ℕ). holds_dash x ≡ true) same (dash-rest b rest (byte-not b 42 star refl) h)
  | inr n1 ↦ elim (cases_Bool (b == 120)) [
    | inl small ↦
        let same : rest ≡ w.1 = wild-rest b rest w (rw (n1, small) at e) in
        subst (λ (x : List ℕ). holds_dash x ≡ true) same (dash-rest b rest (byte-not b 120 small refl) h)
    | inr n2 ↦ elim (cases_Bool (b == 88)) [
      | inl big ↦
          let same : rest ≡ w.1 = wild-rest b rest w (rw (n1, n2, big) at e) in
          subst (λ (x : List ℕ). holds_dash x ≡ true) same (dash-rest b rest (byte-not b 88 big refl) h)
      | inr n3 ↦ cc (rw (n1, n2, n3) at e)
    ]
  ]
]

minor_of-dash : (default : Bool) (o : Op) (text : List ℕ) (w : Option (ℕ × List ℕ)) (m : Minor)
    → wildcard_of text ≡ w
    → minor_of default o text w ≡ Ok m → holds_dash text ≡ true → holds_dash m.4 ≡ true
minor_of-dash default o text (Some w) m e g h =
    subst (λ (q : Minor). holds_dash q.4 ≡ true) (ok-value _ _ g) (wild-byte text w e h)
minor_of-dash default o text None m e g h =
    let b = bind-ok (numeric place.Minor text) _ m g in
    subst (λ (q : Minor). holds_dash q.4 ≡ true) (ok-value _ _ b.2) (dash-numeric place.Minor text b.0 b.1 h)

minor-dash : (default : Bool) (o : Op) (text : List ℕ) (m : Minor) → minor_part default o text ≡ Ok m
    → holds_dash text ≡ true → holds_dash m.4 ≡ true
minor-dash default o [] m g h = cc h
minor-dash default o (b ∷ rest) m g h = elim (cases_Bool (b == 46)) [
  | inl dot ↦ minor_of-dash default o rest (wildcard_of rest) m refl (rw dot at g)
      (dash-rest b rest (byte-not b 46 dot refl) h)
  | inr other ↦ subst (λ (q : Minor). holds_dash q.4 ≡ true) (ok-value _ _ (rw other at g)) h
]

patch_number-dash : (o : Op) (wild : Bool) (text : List ℕ) (w : Option (ℕ × List ℕ)) (default : Bool)
    (p : Patch) → wildcard_of text ≡ w
    → patch_number o wild text w default ≡ Ok p → p.1 ≡ None → holds_dash text ≡ true → holds_dash p.3 ≡ true
patch_number-dash o wild text (Some w) default p e g n h =
    subst (λ (q : Patch). holds_dash q.3 ≡ true) (ok-value _ _ g) (wild-byte text w e h)
patch_number-dash o true text None default p e g n h = cc g
patch_number-dash o false text None default p e g n h =
    let b = bind-ok (numeric place.Patch text) _ p g in
    let some : Some b.0.0 ≡ p.1 = ap (λ (q : Patch). q.1) (ok-value _ _ b.2) in
    cc (some ∙ n)

patch-dash : (default : Bool) (o : Op) (wild : Bool) (pos : Position) (text : List ℕ) (p : Patch)
    → patch_of default o wild pos text ≡ Ok p
    → p.1 ≡ None → holds_dash text ≡ true → holds_dash p.3 ≡ true
patch-dash default o wild pos [] p g n h = cc h
patch-dash default o wild pos (b ∷ rest) p g n h = elim (cases_Bool (b == 46)) [
  | inl dot ↦ patch_number-dash o wild rest (wildcard_of rest) default p refl (rw dot at g) n
      (dash-rest b rest (byte-not b 46 dot refl) h)
  | inr other ↦ subst (λ (q : Patch). holds_dash q.3 ≡ true) (ok-value _ _ (rw other at g)) h
]

pre-dash : (p : Option ℕ) (pos : Position) (text : List ℕ) (e : List ℕ × Position × List ℕ)
    → pre_part (has p) pos text ≡ Ok e → p ≡ None
    → holds_dash text ≡ true → holds_dash e.2 ≡ true
pre-dash None pos text e g n h = subst (λ (q : List ℕ × Position × List ℕ). holds_dash q.2 ≡ true)
    (ok-value _ _ g) h
pre-dash (Some k) pos text e g n h = cc n

build-dash : (p : Option ℕ) (pos : Position) (text : List ℕ) (e : Position × List ℕ)
    → build_part (has p) pos text ≡ Ok e → p ≡ None
    → holds_dash text ≡ true → holds_dash e.1 ≡ true
build-dash None pos text e g n h = subst (λ (q : Position × List ℕ). holds_dash q.1 ≡ true) (ok-value _ _ g) h
build-dash (Some k) pos text e g n h = cc n

-- a comparator with no patch number leaves a dash to the rest
comparator-dash : (input : List ℕ) (q : Parsed) → comparator_of input ≡ Ok q → q.3 ≡ None
    → holds_dash input ≡ true → holds_dash q.6 ≡ true
comparator-dash input q g n h =
    let a = bind-ok (numeric place.Major (strip_spaces (op_of input).1)) _ q g in
    let m = bind-ok (minor_part (length input == length (op_of input).1) (op_of input).0 a.0.1) _ q a.2 in
    let p = bind-ok (patch_part (length input == length (op_of input).1) m.0) _ q m.2 in
    let e = bind-ok (pre_part (has p.0.1) p.0.2 p.0.3) _ q p.2 in
    let b = bind-ok (build_part (has p.0.1) e.0.1 e.0.2) _ q e.2 in
    let same = ok-value _ _ b.2 in
    let none : p.0.1 ≡ None = ap (λ (r : Parsed). r.3) same ∙ n in
    let h1 = dash-strip (op_of input).1 (dash-op input h) in
    let h2 = dash-numeric place.Major (strip_spaces (op_of input).1) a.0 a.1 h1 in
    let h3 = minor-dash _ _ a.0.1 m.0 m.1 h2 in
    let h4 = patch-dash _ m.0.0 m.0.2 m.0.3 m.0.4 p.0 p.1 none h3 in
    let h5 = pre-dash p.0.1 p.0.2 p.0.3 e.0 e.1 none h4 in
    let h6 = build-dash p.0.1 e.0.1 e.0.2 b.0 b.1 none h5 in
    subst (λ (r : Parsed). holds_dash r.6 ≡ true) same (dash-strip b.0.1 h6)

-- a text with a dash does not end, and the next comparators have it
next-dash : (pos : Position) (rest : List ℕ) (next : Option (List ℕ)) → next_text pos rest ≡ Ok next
    → holds_dash rest ≡ true
    → (t : List ℕ) × (next ≡ Some t) × (holds_dash t ≡ true)
next-dash pos [] next g h = cc h
next-dash pos (b ∷ rest) next g h = elim (cases_Bool (b == 44)) [
  | inl comma ↦ (
    strip_spaces rest,
    sym (ok-value _ _ (rw comma at g)),
    dash-strip rest (dash-rest b rest (byte-not b 44 comma refl) h),
  )
  | inr other ↦ cc (rw other at g)
]

none-from : (p : Option ℕ) → is_some p ≡ false → p ≡ None
none-from None h = refl
none-from (Some k) h = cc h

req_next-dash : (rest : List ℕ → Result (List Held) Error) (c : Held) (next : Option (List ℕ))
    (cs : List Held)
    → req_next rest c next ≡ Ok cs
    → (is_some c.3 ≡ false → (t : List ℕ) × (next ≡ Some t) × (holds_dash t ≡ true))
    → ((t : List ℕ) (ds : List Held) → rest t ≡ Ok ds → holds_dash t ≡ true
    → list_any (λ d. is_some d.3) ds ≡ true)
    → list_any (λ d. is_some d.3) cs ≡ true
req_next-dash rest c None cs g h f = elim (cases_Bool (is_some c.3)) [
  | inl here ↦ subst (λ (l : List Held). list_any (λ d. is_some d.3) l ≡ true) (ok-value _ _ g) (rw here refl)
  | inr later ↦ let t = h later in cc t.1
]
req_next-dash rest c (Some t) cs g h f =
    let b = bind-ok (rest t) _ cs g in
    subst (λ (l : List Held). list_any (λ d. is_some d.3) l ≡ true) (ok-value _ _ b.2)
    (elim (cases_Bool (is_some c.3)) [
      | inl here ↦ rw here refl
      | inr later ↦
          let s = h later in
          let same : s.0 ≡ t = cc s.1 in
          rw later (f t b.0 b.1 (subst (λ (x : List ℕ). holds_dash x ≡ true) same s.2))
    ])

from-dash : (n : ℕ) (text : List ℕ) (cs : List Held) → req_from n text ≡ Ok cs → holds_dash text ≡ true
    → list_any (λ d. is_some d.3) cs ≡ true
unfolding req_from
from-dash zero text cs g h = cc g
from-dash (suc n) text cs g h =
    let p = bind-ok (comparator_in text) _ cs g in
    let next = bind-ok (next_text p.0.5 p.0.6) _ cs p.2 in
    let read = in-comparator (comparator_of text) text p.0 p.1 in
    req_next-dash (req_from n) (held_of p.0) next.0 cs next.2
    (λ none. next-dash p.0.5 p.0.6 next.0 next.1 (comparator-dash text p.0 read (none-from p.0.3 none) h))
    (from-dash n)

wild-dash : (ch : ℕ) (rest : List ℕ) (cs : List Held) → wild_req ch rest ≡ Ok cs → holds_dash rest ≡ true
    → list_any (λ d. is_some d.3) cs ≡ true
wild-dash ch [] cs g h = cc h
wild-dash ch (b ∷ rest) cs g h = elim (cases_Bool (b == 44)) [
  | inl comma ↦ cc (rw comma at g)
  | inr other ↦ cc (rw other at g)
]

after-dash : (w : Option (ℕ × List ℕ)) (text : List ℕ) (cs : List Held) → wildcard_of text ≡ w
    → req_after w text ≡ Ok cs → holds_dash text ≡ true
    → list_any (λ d. is_some d.3) cs ≡ true
after-dash None text cs e g h = from-dash 32 text cs g h
after-dash (Some w) text cs e g h = wild-dash w.0 (strip_spaces w.1) cs g
    (dash-strip w.1 (wild-byte text w e h))

-- a requirement with a dash has a comparator with a patch number
pub req-dash : (text : List ℕ) (cs : List Held) → req_of text ≡ Ok cs → holds_dash text ≡ true
    → list_any (λ d. is_some d.3) cs ≡ true
req-dash text cs g h = after-dash (wildcard_of (strip_spaces text)) (strip_spaces text) cs refl g
    (dash-strip text h)
