-- Build metadata affects neither what a requirement matches nor how it is upgraded.
use Rattle.std.proofs.Common.{◌≡◌, ◌++◌, ◌∷◌, [], List, ℕ, Ok, Err, Option, Some, None, length, map, refl, ap, ◌∙◌, sym, append-nil}
use Rattle.std.specs.Prelude.{◌==◌, ◌&&◌, ◌||◌, Bool, not, Result, nat_lt}
use Rattle.std.specs.List.{list_all, list_any}
use Rattle.std.specs.Ordering.{is_gt, is_lt}
use Rattle.semver.specs.Order.{pre_cmp}
use Rattle.semver.specs.declared.Op.{Op}
use Rattle.semver.specs.declared.Op.TheVariants as op
use Rattle.std.specs.Fmt.{decimal}
use Rattle.semver.specs.Grammar.{IsValid}
use Rattle.semver.specs.Identifiers.{marked, parts_text}
use Rattle.semver.specs.Parse.{Held, Parts, req_of, version_parts}
use Rattle.semver.specs.declared.error.Error as semver_error
use Rattle.semver.proofs.Grammar.{version_parts-complete, version_parts-sound}
use Rattle.edit_version.specs.Admits.{accepts, accepts_by, admits, agrees, caret_after, is_given, is_greater, is_less, is_same, minor_beyond, names_pre, tilde_patch}
use Rattle.edit_version.specs.Requirement.{cut, match_caret, plain_text, upgrade_of, upgrade_all, upgrade_parsed, upgraded_comparator, requirement_text, unless_same}
use Rattle.edit_version.proofs.Cuts.{cut-before, plain_text-build, plain_text-no_plus}
use Rattle.edit_version.proofs.Orders.{SameVersion}

-- a version without its build metadata
abbrev pub without_build : Parts → Parts
without_build v = (v.0, v.1, v.2, v.3, [])

raised-same : (u v : Parts) → SameVersion u v → (c : Held) → upgraded_comparator u c ≡ upgraded_comparator v c
raised-same u v s c = rw (s.0, s.1, s.2, s.3) refl

all-same : (text : List ℕ) (u v : Parts) → SameVersion u v → (cs : List Held) (o : Option Held)
    → upgrade_all text u cs o ≡ upgrade_all text v cs o
all-same text u v s cs (Some d) = refl
all-same text u v s cs None =
    ap (λ (f : Held → Held). unless_same text (match_caret text (requirement_text (map f cs))))
    (λ i c. raised-same u v s c i)

read-same : (text : List ℕ) (u v : Parts) → SameVersion u v → (r : Result (List Held) semver_error.Error)
    → upgrade_parsed text u r ≡ upgrade_parsed text v r
read-same text u v s (Err e) = refl
read-same text u v s (Ok []) = refl
read-same text u v s (Ok (c ∷ cs)) = all-same text u v s (c ∷ cs) _

-- raising does not depend on build metadata
pub raise-same : (text : List ℕ) (u v : Parts) → SameVersion u v → upgrade_of text u ≡ upgrade_of text v
raise-same text u v s = read-same text u v s (req_of text)

pub raise-without_build : (text : List ℕ) (v : Parts) → upgrade_of text (without_build v) ≡ upgrade_of text v
raise-without_build text v = raise-same text (without_build v) v (refl, refl, refl, refl)

tilde-same : (p : Option ℕ) (pre : List ℕ) (u v : Parts) → SameVersion u v
    → tilde_patch p pre u ≡ tilde_patch p pre v
tilde-same None pre u v s = rw s.3 refl
tilde-same (Some p) pre u v s = rw (s.2, s.3) refl

caret-same : (n : ℕ) (m p : Option ℕ) (pre : List ℕ) (u v : Parts) → SameVersion u v
    → caret_after n m p pre u ≡ caret_after n m p pre v
caret-same n None p pre u v s = refl
caret-same n (Some m) None pre u v s = rw s.1 refl
caret-same n (Some m) (Some p) pre u v s = rw (s.1, s.2, s.3) refl

beyond-same : (num : ℕ → ℕ → Bool) (test : List ℕ → List ℕ → Bool) (m p : Option ℕ) (pre : List ℕ)
    (u v : Parts) → SameVersion u v
    → minor_beyond num test m p pre u ≡ minor_beyond num test m p pre v
beyond-same num test None p pre u v s = refl
beyond-same num test (Some m) None pre u v s = rw s.1 refl
beyond-same num test (Some m) (Some p) pre u v s = rw (s.1, s.2, s.3) refl

exact-same : (c : Held) (u v : Parts) → SameVersion u v → is_same c u ≡ is_same c v
exact-same c u v s = rw (s.0, s.1, s.2, s.3) refl

greater-same : (c : Held) (u v : Parts) → SameVersion u v → is_greater c u ≡ is_greater c v
greater-same c u v s =
    let rest = beyond-same (λ a b. nat_lt b a) (λ a b. is_gt (pre_cmp a b)) c.2 c.3 c.4 u v s in
    λ i. nat_lt c.1 (s.0 i) || ((s.0 i == c.1) && rest i)

less-same : (c : Held) (u v : Parts) → SameVersion u v → is_less c u ≡ is_less c v
less-same c u v s =
    let rest = beyond-same (λ a b. nat_lt a b) (λ a b. is_lt (pre_cmp a b)) c.2 c.3 c.4 u v s in
    λ i. nat_lt (s.0 i) c.1 || ((s.0 i == c.1) && rest i)

accepts-same : (o : Op) (c : Held) (u v : Parts) → SameVersion u v → accepts_by o c u ≡ accepts_by o c v
accepts-same op.Exact c u v s = exact-same c u v s
accepts-same op.Wildcard c u v s = exact-same c u v s
accepts-same op.Tilde c u v s = let rest = tilde-same c.3 c.4 u v s in
    λ i. (s.0 i == c.1) && agrees c.2 (s.1 i) && rest i
accepts-same op.Caret c u v s = let rest = caret-same c.1 c.2 c.3 c.4 u v s in λ i. (s.0 i == c.1) && rest i
accepts-same op.Greater c u v s = greater-same c u v s
accepts-same op.GreaterEq c u v s = let same = exact-same c u v s in let rest = greater-same c u v s in
    λ i. same i || rest i
accepts-same op.Less c u v s = less-same c u v s
accepts-same op.LessEq c u v s = let same = exact-same c u v s in let rest = less-same c u v s in
    λ i. same i || rest i

all-admits : (cs : List Held) (u v : Parts) → SameVersion u v
    → list_all (λ c. accepts c u) cs ≡ list_all (λ c. accepts c v) cs
all-admits [] u v s = refl
all-admits (c ∷ cs) u v s = let first = accepts-same c.0 c u v s in let rest = all-admits cs u v s in
    λ i. first i && rest i

any-names : (cs : List Held) (u v : Parts) → SameVersion u v
    → list_any (λ c. names_pre c u) cs ≡ list_any (λ c. names_pre c v) cs
any-names [] u v s = refl
any-names (c ∷ cs) u v s =
    let rest = any-names cs u v s in
    λ i. ((c.1 == s.0 i) && is_given c.2 (s.1 i) && is_given c.3 (s.2 i) && not (length c.4 == 0)) || rest i

-- nor does what a requirement admits
pub admits-same : (cs : List Held) (u v : Parts) → SameVersion u v → admits cs u ≡ admits cs v
admits-same cs u v s =
    let all = all-admits cs u v s in
    let any = any-names cs u v s in
    λ i. all i && ((length (s.3 i) == 0) || any i)

pub admits-without_build : (cs : List Held) (v : Parts) → admits cs (without_build v) ≡ admits cs v
admits-without_build cs v = admits-same cs (without_build v) v (refl, refl, refl, refl)

-- nor the text of a version without it
pub plain-same : (u v : Parts) → SameVersion u v → plain_text u ≡ plain_text v
plain-same u v s = rw (s.0, s.1, s.2, s.3) refl

-- the text of a version that was read, cut before its build metadata
pub cut-text : (text : List ℕ) (v : Parts) → version_parts text ≡ Ok v → cut text ≡ plain_text v
cut-text text v h =
    let s = version_parts-sound text v h in
    ap (λ (x : List ℕ). cut x) (sym s.0 ∙ plain_text-build v) ∙
    cut-before (plain_text v) v.4 (plain_text-no_plus v s.1)

valid-without : (v : Parts) → IsValid v → IsValid (without_build v)
valid-without v w = (w.0, w.1, w.2, w.3, refl)

-- it is read as that version without build metadata
pub plain_text-read : (v : Parts) → IsValid v → version_parts (plain_text v) ≡ Ok (without_build v)
plain_text-read v w =
    let e : parts_text (without_build v) ≡ plain_text v =
    ap (λ (l : List ℕ). decimal v.0 ++ (46 ∷ (decimal v.1 ++ (46 ∷ (decimal v.2 ++ l)))))
    (append-nil (marked 45 v.3)) in
    ap (λ (x : List ℕ). version_parts x) (sym e) ∙ version_parts-complete (without_build v)
    (valid-without v w)
