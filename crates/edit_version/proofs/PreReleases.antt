-- A comparator with a pre-release comes from a text with a `-`.
use Rattle.std.proofs.Common.{◌≡◌, ◌<◌, ◌++◌, ◌∷◌, [], List, ℕ, zero, suc, Ok, Option, Some, None, Bool, true, false, length, take, refl, ap, ◌∙◌, sym, subst, arith, append_assoc, inl, inr}
use Rattle.std.specs.Prelude.{◌⊎◌, ◌==◌, ◌||◌, Result, not}
use Rattle.std.specs.Fmt.{decimal}
use Rattle.std.specs.List.{list_all, list_any}
use Rattle.std.proofs.lemmas.Bool.{cases_Bool, or_right}
use Rattle.std.proofs.lemmas.List.{take-append-drop}
use Rattle.semver.specs.Parse.{Held, Minor, Parsed, Parts, Patch, build_part, comparator_in, comparator_of, first_or_equal, has, identifier_len, identifier_of, minor_of, minor_part, next_text, numeric, op_of, patch_number, patch_of, patch_part, pre_part, req_after, req_from, req_next, req_of, strip_spaces, wild_req, wildcard_of}
use Rattle.semver.specs.declared.error.Error.{Error}
use Rattle.semver.specs.declared.error.Position.{Position}
use Rattle.semver.specs.declared.error.Position.TheVariants as place
use Rattle.semver.specs.declared.Op.{Op}
use Rattle.semver.specs.declared.Op.TheVariants as op
use Rattle.semver.proofs.Grammar.{bind-ok}
use Rattle.semver.proofs.Numerals.{numeric-text, ok-value}
use Rattle.semver.proofs.Segments.{not_zero}
use Rattle.edit_version.specs.Admits.{accepts, names_pre}
use Rattle.edit_version.specs.Laws.{Admits, holds_dash}
use Rattle.edit_version.proofs.Narrows.{right_of}
use Rattle.edit_version.proofs.Dashes.{dash-append}
use Rattle.edit_version.proofs.Shapes.{held_of, in-comparator}

-- the text ends with this one
abbrev Ends : List ℕ → List ℕ → Type 0
Ends xs rest = (front : List ℕ) × (xs ≡ front ++ rest)

ends-self : (xs : List ℕ) → Ends xs xs
ends-self xs = ([], refl)

ends-cons : (b : ℕ) (xs rest : List ℕ) → Ends xs rest → Ends (b ∷ xs) rest
ends-cons b xs rest e = (b ∷ e.0, ap (λ (l : List ℕ). b ∷ l) e.1)

ends-trans : (xs ys zs : List ℕ) → Ends xs ys → Ends ys zs → Ends xs zs
ends-trans xs ys zs e f =
    (e.0 ++ f.0, e.1 ∙ ap (λ (l : List ℕ). e.0 ++ l) f.1 ∙ sym (append_assoc e.0 f.0 zs))

ends-dash : (xs rest : List ℕ) → Ends xs rest → holds_dash rest ≡ true → holds_dash xs ≡ true
ends-dash xs rest e h = ap holds_dash e.1 ∙ dash-append e.0 rest ∙
    or_right (holds_dash e.0) (holds_dash rest) h

ends-strip : (xs : List ℕ) → Ends xs (strip_spaces xs)
unfolding strip_spaces
ends-strip [] = ends-self []
ends-strip (b ∷ rest) = elim (cases_Bool (b == 32)) [
  | inl space ↦ rw space (ends-cons b rest (strip_spaces rest) (ends-strip rest))
  | inr other ↦ rw other (ends-self (b ∷ rest))
]

ends-first : (one two : Op) (xs : List ℕ) → Ends xs (first_or_equal one two xs).1
ends-first one two [] = ends-self []
ends-first one two (b ∷ rest) = elim (cases_Bool (b == 61)) [
  | inl same ↦ rw same (ends-cons b rest rest (ends-self rest))
  | inr other ↦ rw other (ends-self (b ∷ rest))
]

ends-op : (xs : List ℕ) → Ends xs (op_of xs).1
ends-op [] = ends-self []
ends-op (a ∷ rest) =
    let one = ends-cons a rest rest (ends-self rest) in
    elim (cases_Bool (a == 61)) [
      | inl x ↦ rw x one
      | inr n1 ↦ elim (cases_Bool (a == 62)) [
        | inl x ↦ rw (n1, x) (ends-cons a rest _ (ends-first op.Greater op.GreaterEq rest))
        | inr n2 ↦ elim (cases_Bool (a == 60)) [
          | inl x ↦ rw (n1, n2, x) (ends-cons a rest _ (ends-first op.Less op.LessEq rest))
          | inr n3 ↦ elim (cases_Bool (a == 126)) [
            | inl x ↦ rw (n1, n2, n3, x) one
            | inr n4 ↦ elim (cases_Bool (a == 94)) [
              | inl x ↦ rw (n1, n2, n3, n4, x) one
              | inr n5 ↦ rw (n1, n2, n3, n4, n5) (ends-self (a ∷ rest))
            ]
          ]
        ]
      ]
    ]

ends-numeric : (pos : Position) (xs : List ℕ) (r : ℕ × List ℕ) → numeric pos xs ≡ Ok r → Ends xs r.1
ends-numeric pos xs r e = (decimal r.0, (numeric-text pos xs r.0 r.1 e).0)

some-rest : (b : ℕ) (rest : List ℕ) (w : ℕ × List ℕ) → ◌≡◌ {A = Option (ℕ × List ℕ)} (Some (b, rest)) (Some w)
    → rest ≡ w.1
some-rest b rest w e = cc e

ends-wild : (xs : List ℕ) (w : ℕ × List ℕ) → wildcard_of xs ≡ Some w → Ends xs w.1
ends-wild [] w e = cc e
ends-wild (b ∷ rest) w e = elim (cases_Bool (b == 42 || b == 120 || b == 88)) [
  | inl wild ↦
      let same : rest ≡ w.1 = some-rest b rest w (rw wild at e) in
      (b ∷ [], ap (λ (l : List ℕ). b ∷ l) same)
  | inr other ↦ cc (rw other at e)
]

ends-minor_of : (default : Bool) (o : Op) (text : List ℕ) (w : Option (ℕ × List ℕ)) (m : Minor)
    → wildcard_of text ≡ w
    → minor_of default o text w ≡ Ok m → Ends text m.4
ends-minor_of default o text (Some w) m e g = subst (λ (q : Minor). Ends text q.4) (ok-value _ _ g)
    (ends-wild text w e)
ends-minor_of default o text None m e g =
    let b = bind-ok (numeric place.Minor text) _ m g in
    subst (λ (q : Minor). Ends text q.4) (ok-value _ _ b.2) (ends-numeric place.Minor text b.0 b.1)

ends-minor : (default : Bool) (o : Op) (text : List ℕ) (m : Minor) → minor_part default o text ≡ Ok m
    → Ends text m.4
ends-minor default o [] m g = subst (λ (q : Minor). Ends [] q.4) (ok-value _ _ g) (ends-self [])
ends-minor default o (b ∷ rest) m g = elim (cases_Bool (b == 46)) [
  | inl dot ↦ ends-cons b rest m.4 (ends-minor_of default o rest (wildcard_of rest) m refl (rw dot at g))
  | inr other ↦ subst (λ (q : Minor). Ends (b ∷ rest) q.4) (ok-value _ _ (rw other at g))
      (ends-self (b ∷ rest))
]

ends-patch_number : (o : Op) (wild : Bool) (text : List ℕ) (w : Option (ℕ × List ℕ)) (default : Bool)
    (p : Patch) → wildcard_of text ≡ w
    → patch_number o wild text w default ≡ Ok p → Ends text p.3
ends-patch_number o wild text (Some w) default p e g = subst (λ (q : Patch). Ends text q.3) (ok-value _ _ g)
    (ends-wild text w e)
ends-patch_number o true text None default p e g = cc g
ends-patch_number o false text None default p e g =
    let b = bind-ok (numeric place.Patch text) _ p g in
    subst (λ (q : Patch). Ends text q.3) (ok-value _ _ b.2) (ends-numeric place.Patch text b.0 b.1)

ends-patch : (default : Bool) (o : Op) (wild : Bool) (pos : Position) (text : List ℕ) (p : Patch)
    → patch_of default o wild pos text ≡ Ok p → Ends text p.3
ends-patch default o wild pos [] p g = subst (λ (q : Patch). Ends [] q.3) (ok-value _ _ g) (ends-self [])
ends-patch default o wild pos (b ∷ rest) p g = elim (cases_Bool (b == 46)) [
  | inl dot ↦ ends-cons b rest p.3 (ends-patch_number o wild rest (wildcard_of rest) default p refl
      (rw dot at g))
  | inr other ↦ subst (λ (q : Patch). Ends (b ∷ rest) q.3) (ok-value _ _ (rw other at g))
      (ends-self (b ∷ rest))
]

ends-identifier : (pos : Position) (xs : List ℕ) (r : List ℕ × List ℕ) → identifier_of pos xs ≡ Ok r
    → Ends xs r.1
ends-identifier pos xs r g =
    let b = bind-ok (identifier_len pos xs) _ r g in
    elim (cases_Bool (b.0 == 0)) [
      | inl none ↦ cc (rw none at b.2)
      | inr some ↦
          let e = ok-value _ _ (rw some at b.2) in
          subst (λ (q : List ℕ × List ℕ). Ends xs q.1) e (take b.0 xs, sym (take-append-drop b.0 xs))
    ]

abbrev Pre : Type 0
Pre = List ℕ × Position × List ℕ

ends-pre : (h : Bool) (pos : Position) (text : List ℕ) (e : Pre) → pre_part h pos text ≡ Ok e → Ends text e.2
    × (0 < length e.0 → holds_dash text ≡ true)
ends-pre false pos text e g =
    let same = ok-value _ _ g in
    subst (λ (q : Pre). Ends text q.2 × (0 < length q.0 → holds_dash text ≡ true)) same
    (ends-self text, λ l. absurd (omega (arith, l)))
ends-pre true pos [] e g =
    let same = ok-value _ _ g in
    subst (λ (q : Pre). Ends [] q.2 × (0 < length q.0 → holds_dash [] ≡ true)) same
    (ends-self [], λ l. absurd (omega (arith, l)))
ends-pre true pos (b ∷ rest) e g = elim (cases_Bool (b == 45)) [
  | inl dash ↦
      let i = bind-ok (identifier_of place.Pre rest) _ e (rw dash at g) in
      let same = ok-value _ _ i.2 in (
        subst (λ (q : Pre). Ends (b ∷ rest) q.2) same
            (ends-cons b rest i.0.1 (ends-identifier place.Pre rest i.0 i.1)),
        λ l. rw dash refl,
      )
  | inr other ↦
      let same = ok-value _ _ (rw other at g) in
      subst (λ (q : Pre). Ends (b ∷ rest) q.2 × (0 < length q.0 → holds_dash (b ∷ rest) ≡ true)) same
      (ends-self (b ∷ rest), λ l. absurd (omega (arith, l)))
]

abbrev Build : Type 0
Build = Position × List ℕ

ends-build : (h : Bool) (pos : Position) (text : List ℕ) (e : Build) → build_part h pos text ≡ Ok e
    → Ends text e.1
ends-build false pos text e g = subst (λ (q : Build). Ends text q.1) (ok-value _ _ g) (ends-self text)
ends-build true pos [] e g = subst (λ (q : Build). Ends [] q.1) (ok-value _ _ g) (ends-self [])
ends-build true pos (b ∷ rest) e g = elim (cases_Bool (b == 43)) [
  | inl plus ↦
      let i = bind-ok (identifier_of place.Build rest) _ e (rw plus at g) in
      subst (λ (q : Build). Ends (b ∷ rest) q.1) (ok-value _ _ i.2)
      (ends-cons b rest i.0.1 (ends-identifier place.Build rest i.0 i.1))
  | inr other ↦ subst (λ (q : Build). Ends (b ∷ rest) q.1) (ok-value _ _ (rw other at g))
      (ends-self (b ∷ rest))
]

-- what follows a comparator ends its text, and its pre-release shows there
comparator-ends : (input : List ℕ) (q : Parsed) → comparator_of input ≡ Ok q → Ends input q.6
    × (0 < length q.4 → holds_dash input ≡ true)
comparator-ends input q g =
    let a = bind-ok (numeric place.Major (strip_spaces (op_of input).1)) _ q g in
    let m = bind-ok (minor_part (length input == length (op_of input).1) (op_of input).0 a.0.1) _ q a.2 in
    let p = bind-ok (patch_part (length input == length (op_of input).1) m.0) _ q m.2 in
    let e = bind-ok (pre_part (has p.0.1) p.0.2 p.0.3) _ q p.2 in
    let b = bind-ok (build_part (has p.0.1) e.0.1 e.0.2) _ q e.2 in
    let same = ok-value _ _ b.2 in
    let e1 = ends-trans input (op_of input).1 (strip_spaces (op_of input).1) (ends-op input)
    (ends-strip (op_of input).1) in
    let e2 = ends-trans input _ a.0.1 e1 (ends-numeric place.Major (strip_spaces (op_of input).1) a.0 a.1) in
    let e3 = ends-trans input a.0.1 m.0.4 e2 (ends-minor _ _ a.0.1 m.0 m.1) in
    let e4 = ends-trans input m.0.4 p.0.3 e3 (ends-patch _ m.0.0 m.0.2 m.0.3 m.0.4 p.0 p.1) in
    let pre = ends-pre (has p.0.1) p.0.2 p.0.3 e.0 e.1 in
    let e5 = ends-trans input p.0.3 e.0.2 e4 pre.0 in
    let e6 = ends-trans input e.0.2 b.0.1 e5 (ends-build (has p.0.1) e.0.1 e.0.2 b.0 b.1) in
    let e7 = ends-trans input b.0.1 (strip_spaces b.0.1) e6 (ends-strip b.0.1) in
    subst (λ (r : Parsed). Ends input r.6 × (0 < length r.4 → holds_dash input ≡ true)) same
    (e7, λ l. ends-dash input p.0.3 e4 (pre.1 l))

-- the next comparators end what follows a comparator
next-ends : (pos : Position) (rest : List ℕ) (t : List ℕ) → next_text pos rest ≡ Ok (Some t) → Ends rest t
next-ends pos [] t g = cc g
next-ends pos (b ∷ rest) t g = elim (cases_Bool (b == 44)) [
  | inl comma ↦
      let same : strip_spaces rest ≡ t = cc (rw comma at g) in
      subst (λ (x : List ℕ). Ends (b ∷ rest) x) same (ends-cons b rest (strip_spaces rest) (ends-strip rest))
  | inr other ↦ cc (rw other at g)
]

-- whether a comparator has a pre-release
abbrev pub has_pre : Held → Bool
has_pre c = not (length c.4 == 0)

filled-pre : (x : List ℕ) → not (length x == 0) ≡ true → 0 < length x
filled-pre [] h = cc h
filled-pre (b ∷ rest) h = omega arith

or-cases : (x y : Bool) → (x || y) ≡ true → (x ≡ true) ⊎ (y ≡ true)
or-cases true y h = inl refl
or-cases false y h = inr h

req_next-pre : (rest : List ℕ → Result (List Held) Error) (c : Held) (next : Option (List ℕ)) (cs : List Held)
    (text : List ℕ)
    → req_next rest c next ≡ Ok cs → (0 < length c.4 → holds_dash text ≡ true)
    → ((t : List ℕ) → next ≡ Some t → holds_dash t ≡ true → holds_dash text ≡ true)
    → ((t : List ℕ) (ds : List Held) → rest t ≡ Ok ds → list_any has_pre ds ≡ true → holds_dash t ≡ true)
    → list_any has_pre cs ≡ true → holds_dash text ≡ true
req_next-pre rest c None cs text g here later f h =
    let mine = subst (λ (l : List Held). list_any has_pre l ≡ true) (sym (ok-value _ _ g)) h in
    elim (or-cases (has_pre c) false mine) [
      | inl mine1 ↦ here (filled-pre c.4 mine1)
      | inr other1 ↦ cc other1
    ]
req_next-pre rest c (Some t) cs text g here later f h =
    let b = bind-ok (rest t) _ cs g in
    let mine = subst (λ (l : List Held). list_any has_pre l ≡ true) (sym (ok-value _ _ b.2)) h in
    elim (or-cases (has_pre c) (list_any has_pre b.0) mine) [
      | inl mine1 ↦ here (filled-pre c.4 mine1)
      | inr more ↦ later t refl (f t b.0 b.1 more)
    ]

from-pre : (n : ℕ) (text : List ℕ) (cs : List Held) → req_from n text ≡ Ok cs → list_any has_pre cs ≡ true
    → holds_dash text ≡ true
unfolding req_from
from-pre zero text cs g h = cc g
from-pre (suc n) text cs g h =
    let p = bind-ok (comparator_in text) _ cs g in
    let next = bind-ok (next_text p.0.5 p.0.6) _ cs p.2 in
    let ends = comparator-ends text p.0 (in-comparator (comparator_of text) text p.0 p.1) in
    req_next-pre (req_from n) (held_of p.0) next.0 cs text next.2 ends.1
    (λ t same d. ends-dash text t
    (ends-trans text p.0.6 t ends.0 (next-ends p.0.5 p.0.6 t (next.1 ∙ ap Ok same))) d)
    (from-pre n) h

wild-pre : (ch : ℕ) (rest : List ℕ) (cs : List Held) (text : List ℕ) → wild_req ch rest ≡ Ok cs
    → list_any has_pre cs ≡ true → holds_dash text ≡ true
wild-pre ch [] cs text g h = cc (ap (λ (l : List Held). list_any has_pre l) (ok-value _ _ g) ∙ h)
wild-pre ch (b ∷ rest) cs text g h = elim (cases_Bool (b == 44)) [
  | inl comma ↦ cc (rw comma at g)
  | inr other ↦ cc (rw other at g)
]

after-pre : (w : Option (ℕ × List ℕ)) (text : List ℕ) (cs : List Held) → req_after w text ≡ Ok cs
    → list_any has_pre cs ≡ true → holds_dash text ≡ true
after-pre None text cs g h = from-pre 32 text cs g h
after-pre (Some w) text cs g h = wild-pre w.0 (strip_spaces w.1) cs text g h

-- a requirement whose comparators have a pre-release has a dash
pub req-pre : (text : List ℕ) (cs : List Held) → req_of text ≡ Ok cs → list_any has_pre cs ≡ true
    → holds_dash text ≡ true
req-pre text cs g h =
    ends-dash text (strip_spaces text) (ends-strip text)
    (after-pre (wildcard_of (strip_spaces text)) (strip_spaces text) cs g h)

names-has_pre : (w : Parts) (cs : List Held) → list_any (λ c. names_pre c w) cs ≡ true
    → list_any has_pre cs ≡ true
names-has_pre w [] h = cc h
names-has_pre w (c ∷ cs) h = elim (or-cases (names_pre c w) (list_any (λ d. names_pre d w) cs) h) [
  | inl here ↦ let mine : has_pre c ≡ true = right_of _ _ here in rw mine refl
  | inr later ↦ or_right (has_pre c) (list_any has_pre cs) (names-has_pre w cs later)
]

-- a requirement that admits a pre-release has a dash
pub admits-dash : (text : List ℕ) (w : Parts) → Admits text w → 0 < length w.3 → holds_dash text ≡ true
admits-dash text w a some =
    let filled : (length w.3 == 0) ≡ false = not_zero (length w.3) some in
    let allowed = right_of (list_all (λ c. accepts c w) a.0)
    (length w.3 == 0 || list_any (λ c. names_pre c w) a.0) a.2 in
    let named : list_any (λ c. names_pre c w) a.0 ≡ true = rw filled at allowed in
    req-pre text a.0 a.1 (names-has_pre w a.0 named)
