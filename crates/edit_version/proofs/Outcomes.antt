-- The laws of `specs/Laws.antt` for the text after a requirement is upgraded.
use Rattle.std.proofs.Common.{◌≡◌, ◌<◌, ◌^◌, ◌∷◌, [], List, ℕ, Ok, Err, Option, Some, None, Bool, true, false, refl, ap, ◌∙◌, sym, subst, arith, inl, inr}
use Rattle.std.specs.Prelude.{◌⊎◌, ◌==◌, ◌&&◌, ◌↔◌, not, IsTrue, All, IsOk, Result, find, is_some, length, map, nat_eq}
use Rattle.std.specs.Cmp.Lexicographic.{pointwise}
use Rattle.std.specs.List.{list_any}
use Rattle.std.proofs.lemmas.Bool.{cases_Bool}
use Rattle.std.proofs.lemmas.List.{nil_from_length}
use Rattle.semver.specs.Grammar.{IsValid}
use Rattle.semver.specs.OrderLaws.{same_text}
use Rattle.semver.specs.Parse.{Held, Parts, req_of, version_parts}
use Rattle.semver.specs.declared.error.Error as semver_error
use Rattle.semver.proofs.Grammar.{version_parts-sound}
use Rattle.semver.proofs.Numerals.{ok-value}
use Rattle.edit_version.specs.Admits.{admits}
use Rattle.edit_version.specs.Laws.{Admits, AdmitsNoLower, CanReach, HasThreeNumbers, IsNarrower, IsReadable, IsRelease, IsSettled, IsVersion, KeepsForm, holds_dash}
use Rattle.edit_version.specs.Requirement.{Nothing, Text, is_inequality, match_caret, upgrade_of, upgrade_all, upgrade_parsed, upgraded_comparator, requirement_text, unless_same}
use Rattle.edit_version.specs.Selection.{admits_read, is_admitted}
use Rattle.edit_version.proofs.Dashes.{req-dash}
use Rattle.edit_version.proofs.Forms.{least-all, operators-same, upgraded_text-dash}
use Rattle.edit_version.proofs.FixedTexts.{IsRaised, raised-fixed, raised-read, raised-reads}
use Rattle.edit_version.proofs.Narrows.{left_of, narrows}
use Rattle.edit_version.proofs.ReachLaws.{keeps, reaches-plain, reaches-three}
use Rattle.edit_version.proofs.ComparatorReadings.{tidy}
use Rattle.edit_version.proofs.Shapes.{req-shape}

-- ---- versions

-- the parts of a version that `semver` reads
pub valid-version : (v : Parts) → IsValid v → IsVersion v
valid-version v w = record { major = w.0; minor = w.1; patch = w.2; pre = w.3 }

-- a version of 64 bits without a pre-release, or with one that is read
pub readable : (v : Parts) → IsReadable v → v.0 < 2 ^ 64 → v.1 < 2 ^ 64 → v.2 < 2 ^ 64 → IsVersion v
readable v read a b c = record { major = a; minor = b; patch = c; pre = read }

-- a version without a pre-release
pub readable-plain : (v : Parts) → length v.3 ≡ 0 → IsReadable v
readable-plain v h = let e = nil_from_length v.3 h in rw e refl

-- a version that was read from some text
pub readable-read : (text : List ℕ) (v : Parts) → version_parts text ≡ Ok v → IsReadable v
readable-read text v h = (version_parts-sound text v h).1.3

-- ---- admission as a test

admitted-read : (req : List ℕ) (v : Parts) (r : Result (List Held) semver_error.Error) → req_of req ≡ r
    → admits_read r v ≡ true → Admits req v
admitted-read req v (Ok cs) e h = (cs, e, h)
admitted-read req v (Err x) e h = cc h

pub admitted : (req : List ℕ) (v : Parts) → is_admitted req v ≡ true → Admits req v
admitted req v h = admitted-read req v (req_of req) refl h

pub is_admitted-true : (req : List ℕ) (v : Parts) → Admits req v → is_admitted req v ≡ true
is_admitted-true req v a = rw a.1 a.2

-- ---- two ways to a text

-- a text that raising leaves as it is: it has no comparators, or it is what raising writes
unless-same-read : (text new : List ℕ) → unless_same text new ≡ Nothing → text ≡ new
unless-same-read text new h = elim (cases_Bool (pointwise nat_eq new text)) [
  | inl same ↦ sym (same_text new text same)
  | inr other ↦ cc (rw other at h)
]

all-nothing : (text : List ℕ) (v : Parts) (cs : List Held) (o : Option Held)
    → upgrade_all text v cs o ≡ Nothing
    → (o ≡ None) × (text ≡ match_caret text (requirement_text (map (upgraded_comparator v) cs)))
all-nothing text v cs None h = (refl, unless-same-read text _ h)
all-nothing text v cs (Some d) h = cc h

-- what is known of the text that stands after a call
abbrev pub IsOutcome : List ℕ → Parts → List ℕ → Type 0
IsOutcome text v t = ((req_of text ≡ Ok []) × (t ≡ text))
    ⊎ ((c : Held) × (cs : List Held) × IsRaised text v t c cs)

pub read-nothing : (text : List ℕ) (v : Parts) (r : Result (List Held) semver_error.Error) → req_of text ≡ r
    → upgrade_parsed text v r ≡ Nothing
    → IsOutcome text v text
read-nothing text v (Err e) same h = cc h
read-nothing text v (Ok []) same h = inl (same, refl)
read-nothing text v (Ok (c ∷ cs)) same h =
    let a = all-nothing text v (c ∷ cs) (find (λ d. is_inequality d.0) (c ∷ cs)) h in
    inr (c, cs, (same, a.0, a.1))

-- the text that raising gives
pub text-outcome : (old : List ℕ) (v : Parts) (t : List ℕ) → upgrade_of old v ≡ Text t → IsOutcome old v t
text-outcome old v t h = inr (raised-read old v t h)

-- the text that raising leaves
pub nothing-outcome : (old : List ℕ) (v : Parts) → upgrade_of old v ≡ Nothing → IsOutcome old v old
nothing-outcome old v h = read-nothing old v (req_of old) refl h

-- ---- the laws at an outcome

ok-read : (t : List ℕ) (cs : List Held) → req_of t ≡ Ok cs → IsOk (req_of t)
ok-read t cs h = rw h refl

pub settled-of : (text : List ℕ) (v : Parts) (t : List ℕ) → IsVersion v → IsOutcome text v t → IsSettled t v
settled-of text v t w (inl none) =
    let read : req_of t ≡ Ok [] = ap (λ (x : List ℕ). req_of x) none.1 ∙ none.0 in
    (ok-read t [] read, rw read refl)
settled-of text v t w (inr r) =
    (ok-read t _ (raised-reads text v t r.0 r.1 w r.2).0, raised-fixed text v t r.0 r.1 w r.2)

pub reads-same : (text : List ℕ) (cs ds : List Held) → req_of text ≡ Ok cs → req_of text ≡ Ok ds → cs ≡ ds
reads-same text cs ds h g = ok-value _ _ (sym h ∙ g)

plain-text : (x : List ℕ) → length x ≡ 0 → x ≡ []
plain-text x h = nil_from_length x h

pub reach-of : (text : List ℕ) (v : Parts) (t : List ℕ) → IsVersion v → IsOutcome text v t → CanReach text v
    → Admits t v
reach-of text v t w (inl none) (inl plain) =
    let e = plain-text v.3 plain in
    ([], ap (λ (x : List ℕ). req_of x) none.1 ∙ none.0, rw e refl)
reach-of text v t w (inl none) (inr three) =
    let e : [] ≡ three.0 = reads-same text [] three.0 none.0 three.1 in
    let big = subst (λ (x : List Held). 0 < length x) (sym e) three.2 in
    absurd (omega (arith, big))
reach-of text v t w (inr r) (inl plain) =
    let shape = req-shape text (r.0 ∷ r.1) r.2.0 in (
      _,
      (raised-reads text v t r.0 r.1 w r.2).0,
      reaches-plain v (r.0 ∷ r.1) shape.0 r.2.1
          (plain-text v.3 plain),
    )
reach-of text v t w (inr r) (inr three) =
    let shape = req-shape text (r.0 ∷ r.1) r.2.0 in
    let e = reads-same text three.0 (r.0 ∷ r.1) three.1 r.2.0 in
    let all = subst (λ (x : List Held). All HasThreeNumbers x) e three.3 in
    (_, (raised-reads text v t r.0 r.1 w r.2).0, reaches-three v r.0 r.1 shape.0 r.2.1 all)

pub narrower-of : (text : List ℕ) (v : Parts) (t : List ℕ) → IsVersion v → IsOutcome text v t → Admits text v
    → IsNarrower text t v
narrower-of text v t w (inl none) a =
    (subst (λ (x : List ℕ). Admits x v) (sym none.1) a, λ u b. subst (λ (x : List ℕ). Admits x u) none.1 b)
narrower-of text v t w (inr r) a =
    let shape = req-shape text (r.0 ∷ r.1) r.2.0 in
    let read = (raised-reads text v t r.0 r.1 w r.2).0 in
    let e = reads-same text a.0 (r.0 ∷ r.1) a.1 r.2.0 in
    let old = subst (λ (x : List Held). admits x v ≡ true) e a.2 in (
      (_, read, keeps v (r.0 ∷ r.1) shape.0 r.2.1 old),
      λ u b.
          let f = reads-same t b.0 (map tidy (map (upgraded_comparator v) (r.0 ∷ r.1))) b.1 read in
          let new = subst (λ (x : List Held). admits x u ≡ true) f b.2 in
          (_, r.2.0, narrows v u (r.0 ∷ r.1) shape.0 r.2.1 old new),
    )

-- ---- form, and the least version

filled : (x : List ℕ) → (IsTrue (not (length x == 0))) ↔ (0 < length x)
filled [] = (λ h. cc h, λ h. absurd (omega (arith, h)))
filled (b ∷ rest) = (λ h. omega arith, λ h. grind arith)

dash-iff : (t x : List ℕ) → holds_dash t ≡ not (length x == 0) → IsTrue (holds_dash t) ↔ (0 < length x)
dash-iff t x e = (λ h. (filled x).0 (sym e ∙ h), λ h. e ∙ (filled x).1 h)

pub form-of : (text : List ℕ) (v : Parts) (t : List ℕ) → IsVersion v → IsOutcome text v t → KeepsForm text t v
form-of text v t w (inl none) = (
  ([], [], none.0, ap (λ (x : List ℕ). req_of x) none.1 ∙ none.0, refl),
  λ d. cc (req-dash text [] none.0 d),
)
form-of text v t w (inr r) =
    let shape = req-shape text (r.0 ∷ r.1) r.2.0 in
    let read = raised-reads text v t r.0 r.1 w r.2 in (
      (r.0 ∷ r.1, _, r.2.0, read.0, operators-same v (r.0 ∷ r.1)),
      λ d.
          let three = req-dash text (r.0 ∷ r.1) r.2.0 d in
          let whole = upgraded_text-dash text v r.0 r.1 shape.0 read.1 in
          let same : holds_dash t ≡ not (length v.3 == 0) = ap holds_dash r.2.2 ∙ whole ∙
          ap (λ b. b && not (length v.3 == 0)) three in
          dash-iff t v.3 same,
    )

pub no_lower-of : (text : List ℕ) (v : Parts) (t : List ℕ) → IsVersion v → IsOutcome text v t
    → AdmitsNoLower text t v
no_lower-of text v t w (inl none) d pre u a = cc (req-dash text [] none.0 d)
no_lower-of text v t w (inr r) d pre u a =
    let shape = req-shape text (r.0 ∷ r.1) r.2.0 in
    let read = (raised-reads text v t r.0 r.1 w r.2).0 in
    let e = reads-same t a.0 (map tidy (map (upgraded_comparator v) (r.0 ∷ r.1))) a.1 read in
    let new = subst (λ (x : List Held). admits x u ≡ true) e a.2 in
    least-all v u (r.0 ∷ r.1) shape.0 r.2.1 (req-dash text (r.0 ∷ r.1) r.2.0 d) (left_of _ _ new)

-- a version without a pre-release leaves no `-`
pub release-no_dash : (old : List ℕ) (v : Parts) (t : List ℕ) → IsVersion v → IsOutcome old v t
    → IsRelease t v
release-no_dash old v t w (inl none) plain = elim (cases_Bool (holds_dash t)) [
  | inl some ↦ cc (req-dash old [] none.0 (ap holds_dash (sym none.1) ∙ some))
  | inr other ↦ other
]
release-no_dash old v t w (inr r) plain =
    let shape = req-shape old (r.0 ∷ r.1) r.2.0 in
    let read = raised-reads old v t r.0 r.1 w r.2 in
    let whole = upgraded_text-dash old v r.0 r.1 shape.0 read.1 in
    let none : not (length v.3 == 0) ≡ false = rw plain refl in
    let last : (list_any (λ d. is_some d.3) (r.0 ∷ r.1) && false) ≡ false =
    and-false (list_any (λ d. is_some d.3) (r.0 ∷ r.1)) in
    ap holds_dash r.2.2 ∙ whole ∙ ap (λ b. list_any (λ d. is_some d.3) (r.0 ∷ r.1) && b) none ∙ last
  where
    and-false : (x : Bool) → (x && false) ≡ false
    and-false true = refl
    and-false false = refl
