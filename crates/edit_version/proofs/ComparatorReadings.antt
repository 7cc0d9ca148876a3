-- Comparators, and lists of them, that parse back from their text.
use Rattle.std.proofs.Common.{◌≡◌, ◌<◌, ◌≤◌, ◌^◌, ◌++◌, ◌∷◌, [], List, ℕ, zero, suc, Ok, Option, Some, None, Bool, true, false, length, map, refl, ap, ◌∙◌, sym, subst, arith, append_assoc, append-nil}
use Rattle.std.specs.Prelude.{◌==◌, codes}
use Rattle.std.specs.Fmt.{decimal}
use Rattle.std.specs.List.{AllByRecursion}
use Rattle.std.proofs.lemmas.Bool.{eq-eqb}
use Rattle.semver.specs.Grammar.{is_pre_release}
use Rattle.semver.specs.Identifiers.{marked}
use Rattle.semver.specs.Parse.{Held, Parsed, comparator_of, next_text, op_of, prepend, req_from, req_of, strip_spaces, wildcard_of}
use Rattle.semver.specs.declared.error.Position.{Position}
use Rattle.semver.specs.declared.Op.{Op}
use Rattle.semver.specs.declared.Op.TheVariants as op
use Rattle.semver.proofs.Requirements.{req-end, req-more}
use Rattle.edit_version.specs.Requirement.{after_patch, comparator_text, dotted, is_inequality, more_text, requirement_text, sign, starts_with_caret, star, unsigned_text}
use Rattle.edit_version.proofs.ComparatorTexts.{decimal-front, digit-is_not, strip-number, wildcard-number, op-number, tail, from_major, Gives, reads-major, reads-major_star, reads-minor, reads-minor_star, reads-patch}

-- ---- whole comparators

-- a pre-release is read only after a patch number
abbrev pub read_pre : Option ℕ → List ℕ → List ℕ
read_pre None pre = []
read_pre (Some p) pre = pre

-- what the text of a comparator is read as
abbrev pub tidy : Held → Held
tidy c = (c.0, c.1, c.2, c.3, read_pre c.3 c.4)

abbrev pub IsSmall : Option ℕ → Type 0
IsSmall None = Unit {0}
IsSmall (Some n) = n < 2 ^ 64

-- what the text of a comparator must not lose
pub record IsWritable (c : Held) : Type 0 where
  pub major : c.1 < 2 ^ 64
  pub minor : IsSmall c.2
  pub patch : IsSmall c.3
  pub nested : c.2 ≡ None → c.3 ≡ None
  pub starred : c.0 ≡ op.Wildcard → c.3 ≡ None
  pub valid : (p : ℕ) → c.3 ≡ Some p → is_pre_release c.4 ≡ true
  pub equality : is_inequality c.0 ≡ false

two-text : (a b t : List ℕ) → (a ++ (46 ∷ (b ++ []))) ++ t ≡ a ++ (46 ∷ (b ++ t))
two-text a b t = append_assoc a (46 ∷ (b ++ [])) t ∙ ap (λ l. a ++ (46 ∷ (l ++ t))) (append-nil b)

three-text : (a b c d t : List ℕ) → (a ++ (46 ∷ (b ++ (46 ∷ (c ++ (d ++ [])))))) ++ t
    ≡ a ++ (46 ∷ (b ++ (46 ∷ (c ++ (d ++ t)))))
three-text a b c d t =
    append_assoc a (46 ∷ (b ++ (46 ∷ (c ++ (d ++ []))))) t
    ∙ ap (λ l. a ++ (46 ∷ l)) (append_assoc b (46 ∷ (c ++ (d ++ []))) t)
    ∙ ap (λ l. a ++ (46 ∷ (b ++ (46 ∷ l)))) (append_assoc c (d ++ []) t)
    ∙ ap (λ l. a ++ (46 ∷ (b ++ (46 ∷ (c ++ (l ++ t)))))) (append-nil d)

plain : (default : Bool) (o : Op) (n : ℕ) (m p : Option ℕ) (pre : List ℕ) (t : Option (List ℕ)) → n < 2 ^ 64
    → IsSmall m → IsSmall p
    → (m ≡ None → p ≡ None) → ((k : ℕ) → p ≡ Some k → is_pre_release pre ≡ true)
    → Gives (from_major default o
    ((decimal n ++ (dotted m ++ (dotted p ++ (after_patch p pre ++ [])))) ++ tail t))
    (o, n, m, p, read_pre p pre) t
plain default o n None None pre t fits sm sp nested valid =
    subst (λ (x : List ℕ). Gives (from_major default o (x ++ tail t)) (o, n, None, None, []) t)
    (sym (append-nil (decimal n))) (reads-major default o n t fits)
plain default o n None (Some p) pre t fits sm sp nested valid = cc (nested refl)
plain default o n (Some m) None pre t fits sm sp nested valid =
    subst (λ (x : List ℕ). Gives (from_major default o x) (o, n, Some m, None, []) t)
    (sym (two-text (decimal n) (decimal m) (tail t))) (reads-minor default o n m t fits sm)
plain default o n (Some m) (Some p) pre t fits sm sp nested valid =
    subst (λ (x : List ℕ). Gives (from_major default o x) (o, n, Some m, Some p, pre) t)
    (sym (three-text (decimal n) (decimal m) (decimal p) (marked 45 pre) (tail t)))
    (reads-patch default o n m p pre t fits sm sp (valid p refl))

starry : (o : Op) (n : ℕ) (m : Option ℕ) (t : Option (List ℕ)) → n < 2 ^ 64 → IsSmall m
    → Gives (from_major true o ((decimal n ++ (dotted m ++ codes ".*")) ++ tail t))
    (op.Wildcard, n, m, None, []) t
starry o n None t fits sm =
    subst (λ (x : List ℕ). Gives (from_major true o x) (op.Wildcard, n, None, None, []) t)
    (sym (append_assoc (decimal n) (46 ∷ 42 ∷ []) (tail t))) (reads-major_star o n t fits)
starry o n (Some m) t fits sm =
    subst (λ (x : List ℕ). Gives (from_major true o x) (op.Wildcard, n, Some m, None, []) t)
    (sym (append_assoc (decimal n) (46 ∷ (decimal m ++ (46 ∷ 42 ∷ []))) (tail t) ∙
    ap (λ l. decimal n ++ (46 ∷ l)) (append_assoc (decimal m) (46 ∷ 42 ∷ []) (tail t))))
    (reads-minor_star o n m t fits sm)

-- a comparator with no sign
bare : (input : List ℕ) → op_of input ≡ (op.Caret, input)
    → comparator_of input ≡ from_major true op.Caret input
bare input e =
    ap (λ (q : Op × List ℕ). from_major (length input == length q.1) q.0 q.1) e
    ∙ ap (λ b. from_major b op.Caret input) (eq-eqb (length input) (length input) refl)

bare-number : (n : ℕ) (w rest : List ℕ) → n < 2 ^ 64
    → comparator_of ((decimal n ++ w) ++ rest) ≡ from_major true op.Caret ((decimal n ++ w) ++ rest)
bare-number n w rest fits =
    let assoc : (decimal n ++ w) ++ rest ≡ decimal n ++ (w ++ rest) = append_assoc (decimal n) w rest in
    bare ((decimal n ++ w) ++ rest)
    (subst (λ (x : List ℕ). op_of x ≡ (op.Caret, x)) (sym assoc) (op-number n (w ++ rest) fits))

-- the text of a comparator is read as that, whatever may follow it
reads-of : (o : Op) (n : ℕ) (m p : Option ℕ) (pre : List ℕ) (t : Option (List ℕ))
    → IsWritable (o, n, m, p, pre)
    → Gives (comparator_of (comparator_text (o, n, m, p, pre) ++ tail t)) (o, n, m, p, read_pre p pre) t
reads-of op.Exact n m p pre t w = plain _ op.Exact n m p pre t w.major w.minor w.patch w.nested w.valid
reads-of op.Tilde n m p pre t w = plain _ op.Tilde n m p pre t w.major w.minor w.patch w.nested w.valid
reads-of op.Caret n m p pre t w = plain _ op.Caret n m p pre t w.major w.minor w.patch w.nested w.valid
reads-of op.Wildcard n m None pre t w =
    let g = starry op.Caret n m t w.major w.minor in
    (g.0, bare-number n (dotted m ++ codes ".*") (tail t) w.major ∙ g.1)
reads-of op.Wildcard n m (Some p) pre t w = cc (w.starred refl)
reads-of op.Greater n m p pre t w = cc w.equality
reads-of op.GreaterEq n m p pre t w = cc w.equality
reads-of op.Less n m p pre t w = cc w.equality
reads-of op.LessEq n m p pre t w = cc w.equality

pub reads : (c : Held) (t : Option (List ℕ)) → IsWritable c
    → Gives (comparator_of (comparator_text c ++ tail t)) (tidy c) t
reads c t w = reads-of c.0 c.1 c.2 c.3 c.4 t w

-- the `^` of a comparator may be left out
pub reads-unsigned : (c : Held) (t : Option (List ℕ)) → IsWritable c → c.0 ≡ op.Caret
    → Gives (comparator_of (unsigned_text c ++ tail t)) (tidy c) t
reads-unsigned c t w e =
    let none : star c.0 c.3 ≡ [] = rw e refl in
    let g = plain true op.Caret c.1 c.2 c.3 c.4 t w.major w.minor w.patch w.nested w.valid in (
      g.0,
      rw none (bare-number c.1 (dotted c.2 ++ (dotted c.3 ++ (after_patch c.3 c.4 ++ [])))
          (tail t) w.major ∙ rw e g.1),
    )

-- ---- lists of comparators

strip-bare : (n : ℕ) (w rest : List ℕ) → n < 2 ^ 64 → strip_spaces ((decimal n ++ w) ++ rest)
    ≡ (decimal n ++ w) ++ rest
strip-bare n w rest fits =
    subst (λ (x : List ℕ). strip_spaces x ≡ x) (sym (append_assoc (decimal n) w rest))
    (strip-number n (w ++ rest) fits)

wildcard-bare : (n : ℕ) (w rest : List ℕ) → n < 2 ^ 64 → wildcard_of ((decimal n ++ w) ++ rest) ≡ None
wildcard-bare n w rest fits =
    subst (λ (x : List ℕ). wildcard_of x ≡ None) (sym (append_assoc (decimal n) w rest))
    (wildcard-number n (w ++ rest) fits)

-- no space leads a comparator
strip-of : (o : Op) (n : ℕ) (w rest : List ℕ) → n < 2 ^ 64
    → strip_spaces ((sign o ++ (decimal n ++ w)) ++ rest) ≡ (sign o ++ (decimal n ++ w)) ++ rest
unfolding strip_spaces
strip-of op.Exact n w rest fits = refl
strip-of op.Greater n w rest fits = refl
strip-of op.GreaterEq n w rest fits = refl
strip-of op.Less n w rest fits = refl
strip-of op.LessEq n w rest fits = refl
strip-of op.Tilde n w rest fits = refl
strip-of op.Caret n w rest fits = refl
strip-of op.Wildcard n w rest fits = strip-bare n w rest fits

-- a comparator does not begin with a star
wildcard-none : (o : Op) (n : ℕ) (w rest : List ℕ) → n < 2 ^ 64
    → wildcard_of ((sign o ++ (decimal n ++ w)) ++ rest) ≡ None
wildcard-none op.Exact n w rest fits = refl
wildcard-none op.Greater n w rest fits = refl
wildcard-none op.GreaterEq n w rest fits = refl
wildcard-none op.Less n w rest fits = refl
wildcard-none op.LessEq n w rest fits = refl
wildcard-none op.Tilde n w rest fits = refl
wildcard-none op.Caret n w rest fits = refl
wildcard-none op.Wildcard n w rest fits = wildcard-bare n w rest fits

-- what follows a comparator, before the comparators after it
abbrev pub more_of : List Held → Option (List ℕ)
more_of [] = None
more_of (c ∷ cs) = Some (32 ∷ (comparator_text c ++ more_text cs))

pub more_text-tail : (cs : List Held) → more_text cs ≡ tail (more_of cs)
more_text-tail [] = refl
more_text-tail (c ∷ cs) = refl

next-stripped : (pos : Position) (d : Held) (rest : List ℕ) → d.1 < 2 ^ 64
    → next_text pos (44 ∷ 32 ∷ (comparator_text d ++ rest)) ≡ Ok (Some (comparator_text d ++ rest))
unfolding strip_spaces
next-stripped pos d rest fits =
    ap (λ (x : List ℕ). Ok (Some x))
    (strip-of d.0 d.1 (dotted d.2 ++ (dotted d.3 ++ (after_patch d.3 d.4 ++ star d.0 d.3))) rest fits)

-- a list of comparators reads back, after a first one that was read
reads-from : (n : ℕ) (input : List ℕ) (c : Held) (cs : List Held) → Gives (comparator_of input) c (more_of cs)
    → AllByRecursion IsWritable cs → length cs ≤ n → req_from (suc n) input ≡ Ok (c ∷ map tidy cs)
reads-from n input c [] g all le = req-end n input (c.0, c.1, c.2, c.3, c.4, g.0, []) g.1 refl
reads-from zero input c (d ∷ ds) g all le = absurd (omega arith)
reads-from (suc k) input c (d ∷ ds) g all le =
    let text = comparator_text d ++ more_text ds in
    let p : Parsed = (c.0, c.1, c.2, c.3, c.4, g.0, 44 ∷ 32 ∷ text) in
    let next = next-stripped g.0 d (more_text ds) all.0.major in
    let read : Gives (comparator_of text) (tidy d) (more_of ds) =
    subst (λ (x : List ℕ). Gives (comparator_of (comparator_text d ++ x)) (tidy d) (more_of ds))
    (sym (more_text-tail ds)) (reads d (more_of ds) all.0) in
    let rest = reads-from k text (tidy d) ds read all.1 (omega arith) in
    req-more (suc k) input p text g.1 next ∙ ap (λ r. prepend (c ∷ []) r) rest

-- the text of comparators reads back
pub reads-all : (c : Held) (cs : List Held) → IsWritable c → AllByRecursion IsWritable cs → length cs ≤ 31
    → req_of (requirement_text (c ∷ cs)) ≡ Ok (map tidy (c ∷ cs))
reads-all c cs w all le =
    let rest = dotted c.2 ++ (dotted c.3 ++ (after_patch c.3 c.4 ++ star c.0 c.3)) in
    let strip : strip_spaces (comparator_text c ++ more_text cs) ≡ comparator_text c ++ more_text cs =
    strip-of c.0 c.1 rest (more_text cs) w.major in
    let none : wildcard_of (comparator_text c ++ more_text cs) ≡ None =
    wildcard-none c.0 c.1 rest (more_text cs) w.major in
    let read : Gives (comparator_of (comparator_text c ++ more_text cs)) (tidy c) (more_of cs) =
    subst (λ (x : List ℕ). Gives (comparator_of (comparator_text c ++ x)) (tidy c) (more_of cs))
    (sym (more_text-tail cs)) (reads c (more_of cs) w) in
    rw (strip, none) (reads-from 31 _ (tidy c) cs read all le)

-- and without the `^` that leads it
pub reads-unsigned-all : (c : Held) (cs : List Held) → IsWritable c → c.0 ≡ op.Caret
    → AllByRecursion IsWritable cs → length cs ≤ 31
    → req_of (unsigned_text c ++ more_text cs) ≡ Ok (map tidy (c ∷ cs))
reads-unsigned-all c cs w e all le =
    let rest = dotted c.2 ++ (dotted c.3 ++ (after_patch c.3 c.4 ++ star c.0 c.3)) in
    let strip : strip_spaces (unsigned_text c ++ more_text cs) ≡ unsigned_text c ++ more_text cs =
    strip-bare c.1 rest (more_text cs) w.major in
    let none : wildcard_of (unsigned_text c ++ more_text cs) ≡ None =
    wildcard-bare c.1 rest (more_text cs) w.major in
    let read : Gives (comparator_of (unsigned_text c ++ more_text cs)) (tidy c) (more_of cs) =
    subst (λ (x : List ℕ). Gives (comparator_of (unsigned_text c ++ x)) (tidy c) (more_of cs))
    (sym (more_text-tail cs)) (reads-unsigned c (more_of cs) w e) in
    rw (strip, none) (reads-from 31 _ (tidy c) cs read all le)

-- a text that leads with a digit leads with no `^`
pub caret-number : (n : ℕ) (w rest : List ℕ) → n < 2 ^ 64
    → starts_with_caret ((decimal n ++ w) ++ rest) ≡ false
caret-number n w rest fits =
    let f = decimal-front n fits in
    rw (f.2, digit-is_not f.0 94 f.3 refl) refl
