-- Parsing the text of a comparator, or of a list of them, gives it back.
use Rattle.std.proofs.Common.{◌≡◌, ◌<◌, ◌+◌, ◌%◌, ◌^◌, ◌++◌, ◌∷◌, [], List, ℕ, Ok, Option, Some, None, Bool, true, false, length, refl, ap, ◌∙◌, sym, subst, arith, inl, inr}
use Rattle.std.specs.Prelude.{Result, if◌then◌else◌, ◌==◌, ◌&&◌}
use Rattle.std.specs.Char.{is_ascii_digit}
use Rattle.std.specs.Fmt.{decimal}
use Rattle.std.specs.List.{list_all}
use Rattle.std.proofs.lemmas.Bool.{cases_Bool, eqb-true}
use Rattle.std.proofs.lemmas.Bool.Decides.{nat_tests}
use Rattle.std.proofs.lemmas.Fmt.{decimal_by_steps}
use Rattle.std.proofs.lemmas.List.{drop_at, take_at}
use Rattle.semver.specs.Grammar.{is_pre_identifier, is_pre_release}
use Rattle.semver.specs.Identifiers.{marked}
use Rattle.semver.specs.Order.{parts}
use Rattle.semver.specs.OrderLaws.{join-parts, join_dots, parts-shape}
use Rattle.semver.specs.Parse.{◌>>=◌, Held, Parsed, build_part, has, identifier_len, identifier_of, minor_part, numeric, op_of, patch_part, pre_part, scan, strip_spaces, wildcard_of}
use Rattle.semver.specs.declared.error.Error.{Error}
use Rattle.semver.specs.declared.error.Position.{Position}
use Rattle.semver.specs.declared.error.Position.TheVariants as place
use Rattle.semver.specs.declared.Op.{Op}
use Rattle.semver.specs.declared.Op.TheVariants as op
use Rattle.semver.proofs.Numerals.{numeric-of_text, starts_digit}
use Rattle.semver.proofs.Segments.{good, not_zero, scan-all, stops}

-- ---- the front of a number

-- a text that begins with a digit
abbrev pub Front : ℕ → List ℕ → Type 0
Front n ds = (b : ℕ) × (r : List ℕ) × (ds ≡ b ∷ r) × (is_ascii_digit b ≡ true)

pub decimal-front : (n : ℕ) → n < 2 ^ 64 → Front n (decimal n)
decimal-front n fits = decimal_by_steps Front
    (λ k low. (48 + k, [], refl, grind arith))
    (λ k ds big ih. (ih.0, ih.1 ++ ((48 + k % 10) ∷ []), rw ih.2 refl, ih.3))
    n fits

-- a digit is no other byte
pub digit-is_not : (b k : ℕ) → is_ascii_digit b ≡ true → is_ascii_digit k ≡ false → (b == k) ≡ false
digit-is_not b k d e = elim (cases_Bool (b == k)) [
  | inl same ↦ cc (sym d ∙ ap (λ x. is_ascii_digit x) (eqb-true b k same) ∙ e)
  | inr other ↦ other
]

strip-digit : (b : ℕ) (r : List ℕ) → is_ascii_digit b ≡ true → strip_spaces (b ∷ r) ≡ b ∷ r
unfolding strip_spaces
strip-digit b r d = rw (digit-is_not b 32 d refl) refl

-- no space leads a number
pub strip-number : (n : ℕ) (rest : List ℕ) → n < 2 ^ 64 → strip_spaces (decimal n ++ rest) ≡ decimal n ++ rest
strip-number n rest fits = let f = decimal-front n fits in rw f.2 (strip-digit f.0 (f.1 ++ rest) f.3)

-- a number is no wildcard
pub wildcard-number : (n : ℕ) (rest : List ℕ) → n < 2 ^ 64 → wildcard_of (decimal n ++ rest) ≡ None
wildcard-number n rest fits =
    let f = decimal-front n fits in
    rw (f.2, digit-is_not f.0 42 f.3 refl, digit-is_not f.0 120 f.3 refl, digit-is_not f.0 88 f.3 refl) refl

-- no operator leads a number
pub op-number : (n : ℕ) (rest : List ℕ) → n < 2 ^ 64 → op_of (decimal n ++ rest)
    ≡ (op.Caret, decimal n ++ rest)
op-number n rest fits =
    let f = decimal-front n fits in
    rw (
      f.2,
      digit-is_not f.0 61 f.3 refl,
      digit-is_not f.0 62 f.3 refl,
      digit-is_not f.0 60 f.3 refl,
      digit-is_not f.0 126 f.3 refl,
      digit-is_not f.0 94 f.3 refl,
    ) refl

-- ---- what follows a comparator

-- nothing, or a comma and more
abbrev pub tail : Option (List ℕ) → List ℕ
tail None = []
tail (Some r) = 44 ∷ r

-- a comparator from its major number on
abbrev pub from_major : Bool → Op → List ℕ → Result Parsed Error
from_major default o text =
    numeric place.Major (strip_spaces text) >>= λ a.
    minor_part default o a.1 >>= λ m.
    patch_part default m >>= λ p.
    pre_part (has p.1) p.2 p.3 >>= λ e.
    build_part (has p.1) e.1 e.2 >>= λ b.
    Ok (p.0, a.0, m.1, p.1, e.0, b.0, strip_spaces b.1)

-- what a comparator gives, with what follows it
abbrev pub Gives : Result Parsed Error → Held → Option (List ℕ) → Type 0
Gives r c t = (pos : Position) × (r ≡ Ok (c.0, c.1, c.2, c.3, c.4, pos, tail t))

bind-on : {A B : Type 0} (r : Result A Error) (x : A) (f : A → Result B Error) → r ≡ Ok x → (r >>= f) ≡ f x
bind-on r x f e = rw e refl

-- the chain after its major number
after_major : (default : Bool) (o : Op) (n : ℕ) (rest : List ℕ) → n < 2 ^ 64 → starts_digit rest ≡ false
    → from_major default o (decimal n ++ rest) ≡ (minor_part default o rest >>= λ m.
    patch_part default m >>= λ p.
    pre_part (has p.1) p.2 p.3 >>= λ e.
    build_part (has p.1) e.1 e.2 >>= λ b.
    Ok (p.0, n, m.1, p.1, e.0, b.0, strip_spaces b.1))
after_major default o n rest fits stop =
    rw (strip-number n rest fits, numeric-of_text place.Major n rest fits stop) refl

-- one number
pub reads-major : (default : Bool) (o : Op) (n : ℕ) (t : Option (List ℕ)) → n < 2 ^ 64
    → Gives (from_major default o (decimal n ++ tail t)) (o, n, None, None, []) t
unfolding strip_spaces
reads-major default o n None fits = (place.Major, after_major default o n [] fits refl)
reads-major default o n (Some r) fits = (place.Major, after_major default o n (44 ∷ r) fits refl)

-- one number and a star
pub reads-major_star : (o : Op) (n : ℕ) (t : Option (List ℕ)) → n < 2 ^ 64
    → Gives (from_major true o (decimal n ++ (46 ∷ 42 ∷ tail t))) (op.Wildcard, n, None, None, []) t
unfolding strip_spaces
reads-major_star o n None fits = (place.Minor, after_major true o n (46 ∷ 42 ∷ []) fits refl)
reads-major_star o n (Some r) fits = (place.Minor, after_major true o n (46 ∷ 42 ∷ 44 ∷ r) fits refl)

-- two numbers
after_minor : (default : Bool) (o : Op) (m : ℕ) (rest : List ℕ) → m < 2 ^ 64 → starts_digit rest ≡ false
    → minor_part default o (46 ∷ (decimal m ++ rest)) ≡ Ok (o, Some m, false, place.Minor, rest)
after_minor default o m rest fits stop =
    rw (wildcard-number m rest fits, numeric-of_text place.Minor m rest fits stop) refl

pub reads-minor : (default : Bool) (o : Op) (n m : ℕ) (t : Option (List ℕ)) → n < 2 ^ 64 → m < 2 ^ 64
    → Gives (from_major default o (decimal n ++ (46 ∷ (decimal m ++ tail t)))) (o, n, Some m, None, []) t
unfolding strip_spaces
reads-minor default o n m None fits small = (
  place.Minor,
  after_major default o n (46 ∷ (decimal m ++ [])) fits refl ∙
      rw (after_minor default o m [] small refl) refl,
)
reads-minor default o n m (Some r) fits small = (
  place.Minor,
  after_major default o n (46 ∷ (decimal m ++ 44 ∷ r)) fits refl ∙
      rw (after_minor default o m (44 ∷ r) small refl) refl,
)

-- two numbers and a star
pub reads-minor_star : (o : Op) (n m : ℕ) (t : Option (List ℕ)) → n < 2 ^ 64 → m < 2 ^ 64
    → Gives (from_major true o (decimal n ++ (46 ∷ (decimal m ++ (46 ∷ 42 ∷ tail t)))))
    (op.Wildcard, n, Some m, None, []) t
unfolding strip_spaces
reads-minor_star o n m None fits small = (
  place.Patch,
  after_major true o n (46 ∷ (decimal m ++ (46 ∷ 42 ∷ []))) fits refl ∙
      rw (after_minor true o m (46 ∷ 42 ∷ []) small refl) refl,
)
reads-minor_star o n m (Some r) fits small = (
  place.Patch,
  after_major true o n (46 ∷ (decimal m ++ (46 ∷ 42 ∷ 44 ∷ r))) fits refl ∙
      rw (after_minor true o m (46 ∷ 42 ∷ 44 ∷ r) small refl) refl,
)

-- one side of a test
pick-false : {T : Type 0} (x : Bool) (a b : T) → x ≡ false → (if x then a else b) ≡ b
pick-false true a b e = cc e
pick-false false a b e = refl

both-left : (x y : Bool) → (x && y) ≡ true → x ≡ true
both-left true y h = refl
both-left false y h = cc h

both-right : (x y : Bool) → (x && y) ≡ true → y ≡ true
both-right true y h = h
both-right false y h = cc h

-- the good parts of a pre-release are its identifiers
good-pre : (p : List ℕ) → good place.Pre p ≡ is_pre_identifier p
good-pre [] = refl
good-pre (b ∷ []) = grind (arith, nat_tests)
good-pre (b ∷ c ∷ rest) = grind (arith, nat_tests)

all-good : (xs : List (List ℕ)) → list_all is_pre_identifier xs ≡ true → list_all (good place.Pre) xs ≡ true
all-good [] h = refl
all-good (x ∷ rest) h =
    let first : good place.Pre x ≡ true = good-pre x ∙ both-left (is_pre_identifier x)
    (list_all is_pre_identifier rest) h in
    let others : list_all (good place.Pre) rest ≡ true =
    all-good rest (both-right (is_pre_identifier x) (list_all is_pre_identifier rest) h) in
    rw (first, others) refl

-- a pre-release is read whole
pub pre-whole : (b : ℕ) (r rest : List ℕ) → is_pre_release (b ∷ r) ≡ true → stops rest ≡ true
    → identifier_of place.Pre ((b ∷ r) ++ rest) ≡ Ok (b ∷ r, rest)
pre-whole b r rest valid stop =
    let id = b ∷ r in
    let shape = parts-shape id in
    let back : join_dots (shape.0 ∷ shape.1) ≡ id = subst (λ (ps : List (List ℕ)). join_dots ps ≡ id) shape.2
    (join-parts id) in
    let fine = subst (λ (ps : List (List ℕ)). list_all (good place.Pre) ps ≡ true) shape.2
    (all-good (parts id) valid) in
    let read = scan-all place.Pre 0 shape.0 shape.1 rest stop fine in
    let z : 0 + length id ≡ length id = omega arith in
    let whole = subst (λ (j : List ℕ). scan place.Pre 0 0 false false (j ++ rest)
    ≡ Ok (0 + length j)) back read in
    let len : scan place.Pre 0 0 false false (id ++ rest) ≡ Ok (length id) =
    subst (λ (k : ℕ). scan place.Pre 0 0 false false (id ++ rest) ≡ Ok k) z whole in
    let after = bind-on (identifier_len place.Pre (id ++ rest)) (length id) _ len in
    after ∙ pick-false _ _ _ (not_zero (length id) (omega arith)) ∙
    rw (take_at id rest (length id) refl, drop_at id rest (length id) refl) refl

-- three numbers
after_patch_number : (default : Bool) (o : Op) (m p : ℕ) (rest : List ℕ) → p < 2 ^ 64
    → starts_digit rest ≡ false
    → patch_part default (o, Some m, false, place.Minor, 46 ∷ (decimal p ++ rest))
    ≡ Ok (o, Some p, place.Patch, rest)
after_patch_number default o m p rest fits stop =
    rw (wildcard-number p rest fits, numeric-of_text place.Patch p rest fits stop) refl

marked-digit : (pre : List ℕ) (t : Option (List ℕ)) → starts_digit (marked 45 pre ++ tail t) ≡ false
marked-digit [] None = refl
marked-digit [] (Some r) = refl
marked-digit (b ∷ rest) t = refl

-- a comparator from its pre-release on
ends-pre : (o : Op) (n m p : ℕ) (pre : List ℕ) (t : Option (List ℕ)) → is_pre_release pre ≡ true
    → Gives (pre_part true place.Patch (marked 45 pre ++ tail t) >>= λ e. build_part true e.1 e.2 >>= λ b. Ok
    (o, n, Some m, Some p, e.0, b.0, strip_spaces b.1)) (o, n, Some m, Some p, pre) t
unfolding strip_spaces
ends-pre o n m p [] None valid = (place.Patch, refl)
ends-pre o n m p [] (Some r) valid = (place.Patch, refl)
ends-pre o n m p (b ∷ rest) None valid = (place.Pre, rw (pre-whole b rest [] valid refl) refl)
ends-pre o n m p (b ∷ rest) (Some r) valid = (place.Pre, rw (pre-whole b rest (44 ∷ r) valid refl) refl)

pub reads-patch : (default : Bool) (o : Op) (n m p : ℕ) (pre : List ℕ) (t : Option (List ℕ)) → n < 2 ^ 64
    → m < 2 ^ 64 → p < 2 ^ 64
    → is_pre_release pre ≡ true
    → Gives (from_major default o
    (decimal n ++ (46 ∷ (decimal m ++ (46 ∷ (decimal p ++ (marked 45 pre ++ tail t)))))))
    (o, n, Some m, Some p, pre) t
reads-patch default o n m p pre t fits small tiny valid =
    let rest = marked 45 pre ++ tail t in
    let stop : starts_digit rest ≡ false = marked-digit pre t in
    let e = ends-pre o n m p pre t valid in (
      e.0,
      after_major default o n (46 ∷ (decimal m ++ (46 ∷ (decimal p ++ rest)))) fits refl
          ∙ rw (after_minor default o m (46 ∷ (decimal p ++ rest)) small refl)
          (rw (after_patch_number default o m p rest tiny stop) e.1),
    )
