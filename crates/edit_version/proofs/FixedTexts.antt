-- An upgraded requirement parses to its comparators, and upgrading it again changes nothing.
use Rattle.std.proofs.Common.{◌≡◌, ◌<◌, ◌≤◌, ◌^◌, ◌++◌, ◌∷◌, [], List, ℕ, Ok, Err, Option, Some, None, true, false, length, map, refl, ap, ◌∙◌, sym, subst, arith, inl, inr}
use Rattle.std.specs.Prelude.{Result, ◌⊎◌, find, nat_eq}
use Rattle.std.specs.Cmp.Lexicographic.{nat_list_eq_equiv, pointwise}
use Rattle.std.specs.Fmt.{decimal}
use Rattle.std.specs.List.{AllByRecursion}
use Rattle.std.proofs.lemmas.Bool.{cases_Bool}
use Rattle.std.proofs.lemmas.List.{length-map}
use Rattle.semver.specs.Grammar.{is_pre_release}
use Rattle.semver.specs.Parse.{Held, Parts, req_of}
use Rattle.semver.specs.declared.error.Error.{Error}
use Rattle.semver.specs.declared.Op.{Op}
use Rattle.semver.specs.declared.Op.TheVariants as op
use Rattle.edit_version.specs.Laws.{IsVersion}
use Rattle.edit_version.specs.Requirement.{Nothing, Text, after_patch, comparator_text, dotted, is_inequality, match_caret, more_text, upgrade_of, upgrade_all, upgrade_parsed, upgraded_comparator, raised_pre, renumbered, requirement_text, sign, star, starts_with_caret, unless_same, without_caret}
use Rattle.edit_version.proofs.ComparatorReadings.{IsSmall, IsWritable, caret-number, read_pre, reads-all, reads-unsigned-all, tidy}
use Rattle.edit_version.proofs.Shapes.{IsShaped, req-shape}

-- ---- raised comparators can be written

small-renumbered : (m : Option ℕ) (n : ℕ) → n < 2 ^ 64 → IsSmall (renumbered m n)
small-renumbered None n fits = tt
small-renumbered (Some m) n fits = fits

nested-renumbered : (m p : Option ℕ) (a b : ℕ) → (m ≡ None → p ≡ None) → renumbered m a ≡ None
    → renumbered p b ≡ None
nested-renumbered None None a b h e = refl
nested-renumbered None (Some p) a b h e = cc (h refl)
nested-renumbered (Some m) p a b h e = cc e

valid-raised : (o : Op) (p : Option ℕ) (own pre : List ℕ) (n k : ℕ) → (o ≡ op.Wildcard → p ≡ None)
    → is_pre_release pre ≡ true
    → renumbered p n ≡ Some k → is_pre_release (raised_pre o own pre) ≡ true
valid-raised op.Exact p own pre n k h valid e = valid
valid-raised op.Greater p own pre n k h valid e = valid
valid-raised op.GreaterEq p own pre n k h valid e = valid
valid-raised op.Less p own pre n k h valid e = valid
valid-raised op.LessEq p own pre n k h valid e = valid
valid-raised op.Tilde p own pre n k h valid e = valid
valid-raised op.Caret p own pre n k h valid e = valid
valid-raised op.Wildcard None own pre n k h valid e = cc e
valid-raised op.Wildcard (Some p) own pre n k h valid e = cc (h refl)

raised-writable : (v : Parts) (c : Held) → IsVersion v → IsShaped c → is_inequality c.0 ≡ false
    → IsWritable (upgraded_comparator v c)
raised-writable v c w s e = record {
  major = w.major;
  minor = small-renumbered c.2 v.1 w.minor;
  patch = small-renumbered c.3 v.2 w.patch;
  nested = nested-renumbered c.2 c.3 v.1 v.2 s.nested;
  starred = λ o. rw (s.starred o) refl;
  valid = λ k h. valid-raised c.0 c.3 c.4 v.3 v.2 k s.starred w.pre h;
  equality = e;
}

-- no comparator is an inequality
pub none-first : (c : Held) (cs : List Held) → find (λ d. is_inequality d.0) (c ∷ cs) ≡ None
    → (is_inequality c.0 ≡ false) × (find (λ d. is_inequality d.0) cs ≡ None)
none-first c cs h = elim (cases_Bool (is_inequality c.0)) [
  | inl bad ↦ cc (rw bad at h)
  | inr fine ↦ (fine, rw fine at h)
]

all-writable : (v : Parts) (cs : List Held) → IsVersion v → AllByRecursion IsShaped cs
    → find (λ d. is_inequality d.0) cs ≡ None
    → AllByRecursion IsWritable (map (upgraded_comparator v) cs)
all-writable v [] w all h = tt
all-writable v (c ∷ cs) w all h =
    let n = none-first c cs h in
    (raised-writable v c w all.0 n.0, all-writable v cs w all.1 n.1)

-- ---- raising again

renumbered-again : (m : Option ℕ) (n : ℕ) → renumbered (renumbered m n) n ≡ renumbered m n
renumbered-again None n = refl
renumbered-again (Some m) n = refl

own-again : (p : Option ℕ) (pre : List ℕ) → after_patch p (read_pre p pre) ≡ after_patch p pre
own-again None pre = refl
own-again (Some p) pre = refl

text-again : (v : Parts) (o : Op) (n : ℕ) (m p : Option ℕ) (pre : List ℕ)
    → comparator_text (upgraded_comparator v (tidy (upgraded_comparator v (o, n, m, p, pre))))
    ≡ comparator_text (upgraded_comparator v (o, n, m, p, pre))
text-again v op.Exact n m p pre = rw (renumbered-again m v.1, renumbered-again p v.2) refl
text-again v op.Greater n m p pre = rw (renumbered-again m v.1, renumbered-again p v.2) refl
text-again v op.GreaterEq n m p pre = rw (renumbered-again m v.1, renumbered-again p v.2) refl
text-again v op.Less n m p pre = rw (renumbered-again m v.1, renumbered-again p v.2) refl
text-again v op.LessEq n m p pre = rw (renumbered-again m v.1, renumbered-again p v.2) refl
text-again v op.Tilde n m p pre = rw (renumbered-again m v.1, renumbered-again p v.2) refl
text-again v op.Caret n m p pre = rw (renumbered-again m v.1, renumbered-again p v.2) refl
text-again v op.Wildcard n m p pre =
    rw (renumbered-again m v.1, renumbered-again p v.2, own-again (renumbered p v.2) pre) refl

more-again : (v : Parts) (cs : List Held)
    → more_text (map (upgraded_comparator v) (map tidy (map (upgraded_comparator v) cs)))
    ≡ more_text (map (upgraded_comparator v) cs)
more-again v [] = refl
more-again v (c ∷ cs) = rw (text-again v c.0 c.1 c.2 c.3 c.4, more-again v cs) refl

req-again : (v : Parts) (c : Held) (cs : List Held)
    → requirement_text (map (upgraded_comparator v) (map tidy (map (upgraded_comparator v) (c ∷ cs))))
    ≡ requirement_text (map (upgraded_comparator v) (c ∷ cs))
req-again v c cs = rw (text-again v c.0 c.1 c.2 c.3 c.4, more-again v cs) refl

none-again : (cs : List Held) → AllByRecursion IsWritable cs
    → find (λ d. is_inequality d.0) (map tidy cs) ≡ None
none-again [] all = refl
none-again (c ∷ cs) all = let fine = all.0.equality in rw fine (none-again cs all.1)

-- ---- the `^` that leads a text

without-none : (xs : List ℕ) → starts_with_caret xs ≡ false → without_caret xs ≡ xs
without-none [] h = refl
without-none (b ∷ rest) h = rw h refl

without-of : (o : Op) (n : ℕ) (w rest : List ℕ) → n < 2 ^ 64
    → (without_caret ((sign o ++ (decimal n ++ w)) ++ rest) ≡ (sign o ++ (decimal n ++ w)) ++ rest)
    ⊎ ((o ≡ op.Caret) × (without_caret ((sign o ++ (decimal n ++ w)) ++ rest) ≡ (decimal n ++ w) ++ rest))
without-of op.Exact n w rest fits = inl refl
without-of op.Greater n w rest fits = inl refl
without-of op.GreaterEq n w rest fits = inl refl
without-of op.Less n w rest fits = inl refl
without-of op.LessEq n w rest fits = inl refl
without-of op.Tilde n w rest fits = inl refl
without-of op.Caret n w rest fits = inr (refl, refl)
without-of op.Wildcard n w rest fits = inl (without-none _ (caret-number n w rest fits))

once-of : (o : Op) (n : ℕ) (w rest : List ℕ) → n < 2 ^ 64
    → starts_with_caret (without_caret ((sign o ++ (decimal n ++ w)) ++ rest)) ≡ false
once-of op.Exact n w rest fits = refl
once-of op.Greater n w rest fits = refl
once-of op.GreaterEq n w rest fits = refl
once-of op.Less n w rest fits = refl
once-of op.LessEq n w rest fits = refl
once-of op.Tilde n w rest fits = refl
once-of op.Caret n w rest fits = caret-number n w rest fits
once-of op.Wildcard n w rest fits = rw (without-none _ (caret-number n w rest fits))
    (caret-number n w rest fits)

led-self : (xs : List ℕ) → match_caret xs xs ≡ xs
led-self xs = elim (cases_Bool (starts_with_caret xs)) [
  | inl same ↦ rw same refl
  | inr other ↦ rw other (without-none xs other)
]

-- a text that leads as an old one did leads as itself
led-again : (old : List ℕ) (c : Held) (cs : List Held) → c.1 < 2 ^ 64
    → match_caret (match_caret old (requirement_text (c ∷ cs))) (requirement_text (c ∷ cs))
    ≡ match_caret old (requirement_text (c ∷ cs))
led-again old c cs fits =
    let rest = dotted c.2 ++ (dotted c.3 ++ (after_patch c.3 c.4 ++ star c.0 c.3)) in
    elim (cases_Bool (starts_with_caret old)) [
      | inl same ↦ rw same (led-self (requirement_text (c ∷ cs)))
      | inr other ↦
          let once : starts_with_caret (without_caret (requirement_text (c ∷ cs))) ≡ false =
          once-of c.0 c.1 rest (more_text cs) fits in
          rw (other, once) refl
    ]

-- the raised text reads as its comparators
led-reads : (old : List ℕ) (c : Held) (cs : List Held) → IsWritable c → AllByRecursion IsWritable cs
    → length cs ≤ 31
    → req_of (match_caret old (requirement_text (c ∷ cs))) ≡ Ok (map tidy (c ∷ cs))
led-reads old c cs w all le =
    let rest = dotted c.2 ++ (dotted c.3 ++ (after_patch c.3 c.4 ++ star c.0 c.3)) in
    elim (cases_Bool (starts_with_caret old)) [
      | inl same ↦ rw same (reads-all c cs w all le)
      | inr other ↦ rw other (elim (without-of c.0 c.1 rest (more_text cs) w.major) [
        | inl unchanged ↦ ap (λ (x : List ℕ). req_of x) unchanged ∙ reads-all c cs w all le
        | inr gone ↦ ap (λ (x : List ℕ). req_of x) gone.1 ∙ reads-unsigned-all c cs w gone.0 all le
      ])
    ]

-- ---- what raising says of the text

-- a text that was raised has comparators, none of which is an inequality
abbrev pub IsRaised : List ℕ → Parts → List ℕ → Held → List Held → Type 0
IsRaised text v t c cs = (req_of text ≡ Ok (c ∷ cs)) × (find (λ d. is_inequality d.0) (c ∷ cs) ≡ None)
    × (t ≡ match_caret text (requirement_text (map (upgraded_comparator v) (c ∷ cs))))

unless-read : (text new t : List ℕ) → unless_same text new ≡ Text t → t ≡ new
unless-read text new t h = elim (cases_Bool (pointwise nat_eq new text)) [
  | inl same ↦ cc (rw same at h)
  | inr other ↦ cc (rw other at h)
]

all-read : (text : List ℕ) (v : Parts) (t : List ℕ) (cs : List Held) (o : Option Held)
    → upgrade_all text v cs o ≡ Text t
    → (o ≡ None) × (t ≡ match_caret text (requirement_text (map (upgraded_comparator v) cs)))
all-read text v t cs None h = (refl, unless-read text _ t h)
all-read text v t cs (Some d) h = cc h

read-raised : (text : List ℕ) (v : Parts) (t : List ℕ) (r : Result (List Held) Error) → req_of text ≡ r
    → upgrade_parsed text v r ≡ Text t
    → (c : Held) × (cs : List Held) × IsRaised text v t c cs
read-raised text v t (Err e) same h = cc h
read-raised text v t (Ok []) same h = cc h
read-raised text v t (Ok (c ∷ cs)) same h =
    let a = all-read text v t (c ∷ cs) (find (λ d. is_inequality d.0) (c ∷ cs)) h in
    (c, cs, (same, a.0, a.1))

pub raised-read : (text : List ℕ) (v : Parts) (t : List ℕ) → upgrade_of text v ≡ Text t → (c : Held)
    × (cs : List Held) × IsRaised text v t c cs
raised-read text v t h = read-raised text v t (req_of text) refl h

-- what a raised text is read as
pub raised-reads : (text : List ℕ) (v : Parts) (t : List ℕ) (c : Held) (cs : List Held) → IsVersion v
    → IsRaised text v t c cs
    → (req_of t ≡ Ok (map tidy (map (upgraded_comparator v) (c ∷ cs))))
    × AllByRecursion IsWritable (map (upgraded_comparator v) (c ∷ cs))
raised-reads text v t c cs w h =
    let shape = req-shape text (c ∷ cs) h.0 in
    let all = all-writable v (c ∷ cs) w shape.0 h.1 in
    let few : length (map (upgraded_comparator v) cs) ≤ 31 = rw length-map (omega (arith, shape.1)) in
    (ap (λ (x : List ℕ). req_of x) h.2 ∙ led-reads text (upgraded_comparator v c) (map (upgraded_comparator v) cs) all.0 all.1 few, all)

-- raising a raised text gives no other
pub raised-fixed : (text : List ℕ) (v : Parts) (t : List ℕ) (c : Held) (cs : List Held) → IsVersion v
    → IsRaised text v t c cs
    → upgrade_of t v ≡ Nothing
raised-fixed text v t c cs w h =
    let r = raised-reads text v t c cs w h in
    let none = none-again (map (upgraded_comparator v) (c ∷ cs)) r.1 in
    let same : match_caret t (requirement_text (map (upgraded_comparator v) (c ∷ cs))) ≡ t =
    subst (λ (x : List ℕ). match_caret x (requirement_text (map (upgraded_comparator v) (c ∷ cs))) ≡ x) (sym h.2)
    (led-again text (upgraded_comparator v c) (map (upgraded_comparator v) cs) r.1.0.major) in
    let self : pointwise nat_eq t t ≡ true = nat_list_eq_equiv.refl t in
    rw (r.0, none, req-again v c cs, same, self) refl
