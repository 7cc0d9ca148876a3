-- The text of a version before its build metadata, as a requirement.
use Rattle.std.proofs.Common.{◌≡◌, ◌<◌, ◌+◌, ◌%◌, ◌^◌, ◌++◌, ◌∷◌, [], List, ℕ, suc, Ok, Some, true, false, refl, ap, ◌∙◌, sym, subst, arith, append_assoc, append-nil, inl, inr}
use Rattle.std.specs.Prelude.{◌==◌, ◌||◌, nat_eq}
use Rattle.std.specs.Cmp.Lexicographic.{nat_list_eq_equiv, pointwise}
use Rattle.std.specs.Fmt.{decimal}
use Rattle.std.specs.List.{list_all, position_or_len}
use Rattle.std.proofs.lemmas.Bool.{cases_Bool, eqb-true}
use Rattle.std.proofs.lemmas.Fmt.{decimal_by_steps}
use Rattle.std.proofs.lemmas.List.Folds.{list_any-append}
use Rattle.semver.specs.Grammar.{IsValid, is_identifier_byte, is_pre_identifier, is_pre_release}
use Rattle.semver.specs.Identifiers.{marked, parts_text}
use Rattle.semver.specs.Order.{parts}
use Rattle.semver.specs.OrderLaws.{parts-shape}
use Rattle.semver.specs.Parse.{Held, Parts, req_of, version_parts}
use Rattle.semver.specs.declared.Op.TheVariants as op
use Rattle.semver.proofs.Grammar.{version_parts-sound}
use Rattle.edit_version.specs.Laws.{IsPlainRequirement, holds_plus}
use Rattle.edit_version.specs.Requirement.{after_patch, cut, dotted, match_caret, plain_text, requirement_text, starts_with_caret, star, unsigned_text}
use Rattle.edit_version.proofs.Narrows.{left_of, right_of}
use Rattle.edit_version.proofs.ComparatorReadings.{IsWritable, caret-number, reads-unsigned-all}

pub plus-append : (xs ys : List ℕ) → holds_plus (xs ++ ys) ≡ (holds_plus xs || holds_plus ys)
plus-append xs ys = list_any-append (λ b. b == 43) xs ys

abbrev NoPlus : ℕ → List ℕ → Type 0
NoPlus n ds = holds_plus ds ≡ false

digit-no_plus : (k : ℕ) → (48 + k == 43) ≡ false
digit-no_plus k = grind arith

pub decimal-no_plus : (n : ℕ) → n < 2 ^ 64 → holds_plus (decimal n) ≡ false
decimal-no_plus n fits = decimal_by_steps NoPlus
    (λ k low. rw (digit-no_plus k) refl)
    (λ k ds big ih. plus-append ds ((48 + k % 10) ∷ []) ∙ rw (ih, digit-no_plus (k % 10)) refl)
    n fits

byte-no_plus : (b : ℕ) → is_identifier_byte b ≡ true → (b == 43) ≡ false
byte-no_plus b h = grind arith

bytes-of : (p : List ℕ) → is_pre_identifier p ≡ true → list_all is_identifier_byte p ≡ true
bytes-of p h = right_of _ _ (left_of _ _ h)

all-weaker : (ps : List (List ℕ)) → list_all is_pre_identifier ps ≡ true
    → list_all (λ p. list_all is_identifier_byte p) ps ≡ true
all-weaker [] h = refl
all-weaker (p ∷ ps) h =
    let first : list_all is_identifier_byte p ≡ true = bytes-of p (left_of _ _ h) in
    let others : list_all (λ q. list_all is_identifier_byte q) ps ≡ true = all-weaker ps (right_of _ _ h) in
    rw (first, others) refl

all-bytes : (t : List ℕ) → list_all (λ p. list_all is_identifier_byte p) (parts t) ≡ true
    → holds_plus t ≡ false
all-bytes [] h = refl
all-bytes (b ∷ rest) h = elim (cases_Bool (b == 46)) [
  | inl dot ↦
      let none : (b == 43) ≡ false = ap (λ (x : ℕ). x == 43) (eqb-true b 46 dot) in
      let later : holds_plus rest ≡ false = all-bytes rest (rw dot at h) in
      rw (none, later) refl
  | inr other ↦
      let shape = parts-shape rest in
      let whole : list_all (λ p. list_all is_identifier_byte p) ((b ∷ shape.0) ∷ shape.1) ≡ true =
      rw (other, shape.2) at h in
      let first = left_of _ _ whole in
      let none : (b == 43) ≡ false = byte-no_plus b (left_of _ _ first) in
      let bytes : list_all is_identifier_byte shape.0 ≡ true =
      right_of (is_identifier_byte b) (list_all is_identifier_byte shape.0) first in
      let others : list_all (λ p. list_all is_identifier_byte p) shape.1 ≡ true =
      right_of (list_all is_identifier_byte (b ∷ shape.0))
      (list_all (λ p. list_all is_identifier_byte p) shape.1) whole in
      let joined : list_all (λ p. list_all is_identifier_byte p) (parts rest) ≡ true =
      rw shape.2 (rw (bytes, others) refl) in
      let later : holds_plus rest ≡ false = all-bytes rest joined in
      rw (none, later) refl
]

-- a pre-release has no plus
pub pre-no_plus : (pre : List ℕ) → is_pre_release pre ≡ true → holds_plus (marked 45 pre) ≡ false
pre-no_plus [] h = refl
pre-no_plus (b ∷ rest) h = all-bytes (b ∷ rest) (all-weaker (parts (b ∷ rest)) h)

-- a text with no plus stands before the first
pub cut-before : (xs build : List ℕ) → holds_plus xs ≡ false → cut (xs ++ marked 43 build) ≡ xs
cut-before [] [] h = refl
cut-before [] (b ∷ rest) h = refl
cut-before (x ∷ xs) build h = elim (cases_Bool (x == 43)) [
  | inl plus ↦ cc (rw plus at h)
  | inr other ↦
      let k = position_or_len (λ b. b == 43) (xs ++ marked 43 build) in
      let more : 1 + k ≡ suc k = omega arith in
      rw (other, more) (ap (λ (l : List ℕ). x ∷ l) (cut-before xs build (rw other at h)))
]

pub plain_text-build : (p : Parts) → parts_text p ≡ plain_text p ++ marked 43 p.4
plain_text-build p =
    let a = decimal p.0 in
    let b = decimal p.1 in
    let c = decimal p.2 in
    let d = marked 45 p.3 in
    let t = marked 43 p.4 in
    sym (append_assoc a (46 ∷ (b ++ (46 ∷ (c ++ d)))) t
    ∙ ap (λ l. a ++ (46 ∷ l)) (append_assoc b (46 ∷ (c ++ d)) t)
    ∙ ap (λ l. a ++ (46 ∷ (b ++ (46 ∷ l)))) (append_assoc c d t))

pub plain_text-no_plus : (p : Parts) → IsValid p → holds_plus (plain_text p) ≡ false
plain_text-no_plus p v =
    let third = plus-append (decimal p.2) (marked 45 p.3) ∙
    rw (decimal-no_plus p.2 v.2, pre-no_plus p.3 v.3) refl in
    let second : holds_plus (decimal p.1 ++ (46 ∷ (decimal p.2 ++ marked 45 p.3))) ≡ false =
    plus-append (decimal p.1) (46 ∷ (decimal p.2 ++ marked 45 p.3)) ∙
    rw (decimal-no_plus p.1 v.1, third) refl in
    plus-append (decimal p.0) (46 ∷ (decimal p.1 ++ (46 ∷ (decimal p.2 ++ marked 45 p.3)))) ∙
    rw (decimal-no_plus p.0 v.0, second) refl

-- a version as one caret
abbrev as_caret : Parts → Held
as_caret p = (op.Caret, p.0, Some p.1, Some p.2, p.3)

plain_text-caret : (p : Parts) → unsigned_text (as_caret p) ++ [] ≡ plain_text p
plain_text-caret p =
    append-nil (unsigned_text (as_caret p))
    ∙ ap (λ l. decimal p.0 ++ (46 ∷ (decimal p.1 ++ (46 ∷ (decimal p.2 ++ l))))) (append-nil (marked 45 p.3))

caret-writable : (p : Parts) → IsValid p → IsWritable (as_caret p)
caret-writable p v = record {
  major = v.0;
  minor = v.1;
  patch = v.2;
  nested = λ e. cc e;
  starred = λ e. cc e;
  valid = λ k e. v.3;
  equality = refl;
}

pub plain_text-plain : (p : Parts) → IsValid p → IsPlainRequirement (plain_text p) p
plain_text-plain p v =
    let read : req_of (plain_text p) ≡ Ok (as_caret p ∷ []) =
    ap (λ (x : List ℕ). req_of x) (sym (plain_text-caret p)) ∙
    reads-unsigned-all (as_caret p) [] (caret-writable p v) refl tt (omega arith) in
    let digit : starts_with_caret (unsigned_text (as_caret p) ++ []) ≡ false =
    caret-number p.0 (dotted (Some p.1) ++
    (dotted (Some p.2) ++ (after_patch (Some p.2) p.3 ++ star op.Caret (Some p.2)))) [] v.0 in
    let bare : starts_with_caret (plain_text p) ≡ false =
    ap (λ (x : List ℕ). starts_with_caret x) (sym (plain_text-caret p)) ∙ digit in
    let led : match_caret (plain_text p) (requirement_text (as_caret p ∷ [])) ≡ plain_text p =
    rw bare (plain_text-caret p) in
    let self : pointwise nat_eq (plain_text p) (plain_text p) ≡ true =
    nat_list_eq_equiv.refl (plain_text p) in
    (read, rw (read, led, self) refl)

-- the text of a version that `semver` read, before its build metadata
pub cut-plain : (text : List ℕ) (p : Parts) → version_parts text ≡ Ok p → IsPlainRequirement (cut text) p
cut-plain text p h =
    let s = version_parts-sound text p h in
    let e : cut text ≡ plain_text p = ap (λ (x : List ℕ). cut x) (sym s.0 ∙ plain_text-build p) ∙
    cut-before (plain_text p) p.4 (plain_text-no_plus p s.1) in
    subst (λ (x : List ℕ). IsPlainRequirement x p) (sym e) (plain_text-plain p s.1)
