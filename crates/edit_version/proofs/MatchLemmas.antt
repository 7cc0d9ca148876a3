-- `matches` of `semver` agrees with `admits`.
use Rattle.std.proofs.Common.{◌≡◌, ◌∷◌, [], List, ℕ, Option, Some, None, Bool, true, false, refl, ◌∙◌, arith, inl, inr}
use Rattle.std.specs.Prelude.{◌==◌, ◌&&◌, ◌||◌, nat_lt, nat_le, not, if◌then◌else◌, map}
use Rattle.std.specs.Ordering.{is_gt, is_lt}
use Rattle.std.specs.List.{list_all, list_any}
use Rattle.std.proofs.lemmas.Bool.{cases_Bool}
use Rattle.semver.specs.Eval.{allows, matches_all, same_number}
use Rattle.semver.specs.EvalViews.{view_by_minor_of, view_by_patch, view_caret_of, view_op, view_pre_is_compatible, view_tilde_patch}
use Rattle.semver.specs.Identifiers.{comparator_view, parts_of}
use Rattle.semver.specs.Order.{pre_cmp}
use Rattle.semver.specs.Parse.{Held, Parts}
use Rattle.semver.specs.declared.Comparator.{Comparator}
use Rattle.semver.specs.declared.Version.{Version}
use Rattle.semver.specs.declared.Op.{Op}
use Rattle.semver.specs.declared.Op.TheVariants as op
use Rattle.semver.proofs.EvalViews.{matches_all-views}
use Rattle.edit_version.specs.Admits.{accepts_by, admits, agrees, caret_after, is_given, minor_beyond, names_pre, patch_beyond, pre_reaches, tilde_patch}

agrees-allows : (m : Option ℕ) (x : ℕ) → allows m x ≡ agrees m x
agrees-allows None x = refl
agrees-allows (Some m) x = refl

given-same_number : (m : Option ℕ) (x : ℕ) → same_number m x ≡ is_given m x
given-same_number None x = refl
given-same_number (Some m) x = refl

-- a choice by equality, in list order
step-less : (a b : ℕ) (x : Bool) → (if a == b then x else nat_lt b a) ≡ (nat_lt b a || ((a == b) && x))
step-less a b x = grind arith

step-greater : (a b : ℕ) (x : Bool) → (if a == b then x else nat_lt a b) ≡ (nat_lt a b || ((a == b) && x))
step-greater a b x = grind arith

patch-greater : (p : Option ℕ) (pre : List ℕ) (w : Parts)
    → view_by_patch (λ a b. nat_lt b a) (is_gt (pre_cmp w.3 pre)) p w
    ≡ patch_beyond (λ a b. nat_lt b a) (λ a b. is_gt (pre_cmp a b)) p pre w
patch-greater None pre w = refl
patch-greater (Some p) pre w = step-less w.2 p (is_gt (pre_cmp w.3 pre))

minor-greater : (m p : Option ℕ) (o : Op) (n : ℕ) (pre : List ℕ) (w : Parts)
    → view_by_minor_of (λ a b. nat_lt b a) (is_gt (pre_cmp w.3 pre)) m (o, n, m, p, pre) w
    ≡ minor_beyond (λ a b. nat_lt b a) (λ a b. is_gt (pre_cmp a b)) m p pre w
minor-greater None p o n pre w = refl
minor-greater (Some m) p o n pre w = rw (patch-greater p pre w) (step-less w.1 m _)

patch-less : (p : Option ℕ) (pre : List ℕ) (w : Parts)
    → view_by_patch (λ a b. nat_lt a b) (is_lt (pre_cmp w.3 pre)) p w
    ≡ patch_beyond (λ a b. nat_lt a b) (λ a b. is_lt (pre_cmp a b)) p pre w
patch-less None pre w = refl
patch-less (Some p) pre w = step-greater w.2 p (is_lt (pre_cmp w.3 pre))

minor-less : (m p : Option ℕ) (o : Op) (n : ℕ) (pre : List ℕ) (w : Parts)
    → view_by_minor_of (λ a b. nat_lt a b) (is_lt (pre_cmp w.3 pre)) m (o, n, m, p, pre) w
    ≡ minor_beyond (λ a b. nat_lt a b) (λ a b. is_lt (pre_cmp a b)) m p pre w
minor-less None p o n pre w = refl
minor-less (Some m) p o n pre w = rw (patch-less p pre w) (step-greater w.1 m _)

exact-is : (o : Op) (n : ℕ) (m p : Option ℕ) (pre : List ℕ) (w : Parts)
    → view_op op.Exact (o, n, m, p, pre) w ≡ accepts_by op.Exact (o, n, m, p, pre) w
exact-is o n m p pre w = rw (agrees-allows m w.1, agrees-allows p w.2) refl

greater-is : (o : Op) (n : ℕ) (m p : Option ℕ) (pre : List ℕ) (w : Parts)
    → view_op op.Greater (o, n, m, p, pre) w ≡ accepts_by op.Greater (o, n, m, p, pre) w
greater-is o n m p pre w = rw (minor-greater m p o n pre w) (step-less w.0 n _)

less-is : (o : Op) (n : ℕ) (m p : Option ℕ) (pre : List ℕ) (w : Parts)
    → view_op op.Less (o, n, m, p, pre) w ≡ accepts_by op.Less (o, n, m, p, pre) w
less-is o n m p pre w = rw (minor-less m p o n pre w) (step-greater w.0 n _)

tilde-is : (o : Op) (n : ℕ) (m p : Option ℕ) (pre : List ℕ) (w : Parts)
    → view_tilde_patch p (o, n, m, p, pre) w ≡ tilde_patch p pre w
tilde-is o n m None pre w = refl
tilde-is o n m (Some p) pre w = step-less w.2 p (pre_reaches w.3 pre)

full-zero : (a m : ℕ) (y : Bool) → (if a == m then y else false)
    ≡ (((nat_lt m a || ((a == m) && y)) && (a == m)) && true)
full-zero a m y = grind arith

full-zeros : (a m b p : ℕ) (x : Bool)
    → ((a == m) && (b == p) && x)
    ≡ ((nat_lt m a || ((a == m) && (nat_lt p b || ((b == p) && x)))) && (a == m) && (b == p))
full-zeros a m b p x = grind arith

full-one : (y : Bool) → ((y && true) && true) ≡ y
full-one true = refl
full-one false = refl

lt-zero : (n : ℕ) → nat_lt 0 n ≡ not (n == 0)
lt-zero n = grind arith

full-is : (n m p a b : ℕ) (x : Bool) →
    (if nat_lt 0 n then (if a == m then (if b == p then x else nat_lt p b) else nat_lt m a)
    else if nat_lt 0 m then (if a == m then (if b == p then x else nat_lt p b) else false)
    else (a == m) && (b == p) && x)
    ≡ ((nat_lt m a || ((a == m) && (nat_lt p b || ((b == p) && x)))) && (not (n == 0) || (a == m)) &&
    (not (n == 0) || not (m == 0) || (b == p)))
full-is n m p a b x = elim (cases_Bool (n == 0)) [
  | inl nothing ↦ elim (cases_Bool (m == 0)) [
    | inl none ↦ rw (lt-zero n, lt-zero m, nothing, none) (full-zeros a m b p x)
    | inr more ↦ rw (lt-zero n, lt-zero m, nothing, more, step-less b p x)
        (full-zero a m (nat_lt p b || ((b == p) && x)))
  ]
  | inr big ↦ rw (
    lt-zero n,
    big,
    step-less b p x,
    step-less a m (nat_lt p b || ((b == p) && x)),
    full-one (nat_lt m a || ((a == m) && (nat_lt p b || ((b == p) && x)))),
  ) refl
]

half-is : (n m a : ℕ) → (if nat_lt 0 n then nat_le m a else (a == m))
    ≡ (if n == 0 then a == m else nat_le m a)
half-is n m a = grind arith

caret-is : (o : Op) (n : ℕ) (m p : Option ℕ) (pre : List ℕ) (w : Parts)
    → view_caret_of m (o, n, m, p, pre) w ≡ caret_after n m p pre w
caret-is o n None p pre w = refl
caret-is o n (Some m) None pre w = half-is n m w.1
caret-is o n (Some m) (Some p) pre w = full-is n m p w.1 w.2 (pre_reaches w.3 pre)

accepts-is : (k o : Op) (n : ℕ) (m p : Option ℕ) (pre : List ℕ) (w : Parts)
    → view_op k (o, n, m, p, pre) w ≡ accepts_by k (o, n, m, p, pre) w
accepts-is op.Exact o n m p pre w = exact-is o n m p pre w
accepts-is op.Wildcard o n m p pre w = exact-is o n m p pre w
accepts-is op.Greater o n m p pre w = greater-is o n m p pre w
accepts-is op.GreaterEq o n m p pre w = rw (exact-is o n m p pre w, greater-is o n m p pre w) refl
accepts-is op.Less o n m p pre w = less-is o n m p pre w
accepts-is op.LessEq o n m p pre w = rw (exact-is o n m p pre w, less-is o n m p pre w) refl
accepts-is op.Tilde o n m p pre w = rw (agrees-allows m w.1, tilde-is o n m p pre w) refl
accepts-is op.Caret o n m p pre w = rw (caret-is o n m p pre w) refl

all-is : (w : Parts) (cs : List Held) → list_all (λ c. view_op c.0 c w) cs
    ≡ list_all (λ c. accepts_by c.0 c w) cs
all-is w [] = refl
all-is w (c ∷ cs) = rw (accepts-is c.0 c.0 c.1 c.2 c.3 c.4 w, all-is w cs) refl

any-is : (w : Parts) (cs : List Held) → list_any (λ c. view_pre_is_compatible c w) cs
    ≡ list_any (λ c. names_pre c w) cs
any-is w [] = refl
any-is w (c ∷ cs) = rw (given-same_number c.2 w.1, given-same_number c.3 w.2, any-is w cs) refl

pub matches_admits : (cs : List Comparator) (v : Version)
    → matches_all cs v ≡ admits (map comparator_view cs) (parts_of v)
matches_admits cs v =
    matches_all-views cs v ∙
    rw (all-is (parts_of v) (map comparator_view cs), any-is (parts_of v) (map comparator_view cs)) refl
