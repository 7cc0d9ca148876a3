-- Which versions a requirement admits, in the words of its documentation (Cargo reference, "Specifying
-- Dependencies"; SemVer 2.0.0, item 11): numbers equal or in list order, and pre-releases by their
-- precedence, of which the empty one is the greatest.
use Rattle.std.specs.Prelude.{ℕ, ◌==◌, ◌&&◌, ◌||◌, nat_lt, nat_le, Bool, true, false, not, List, Option, Some, None, nat_eq, length, if◌then◌else◌}
use Rattle.std.specs.Cmp.Lexicographic.{pointwise}
use Rattle.std.specs.List.{list_all, list_any}
use Rattle.std.specs.Ordering.{is_ge, is_gt, is_lt}
use Rattle.semver.specs.Order.{pre_cmp}
use Rattle.semver.specs.Parse.{Held, Parts}
use Rattle.semver.specs.declared.Op.{Op}
use Rattle.semver.specs.declared.Op.TheVariants as op

-- a number that may be left out is the version's (Cargo reference, "Wildcard requirements")
abbrev pub agrees : Option ℕ → ℕ → Bool
agrees None n = true
agrees (Some m) n = n == m

-- the given numbers and the pre-release are the version's (Cargo reference, "Comparison requirements", `=`)
abbrev pub is_same : Held → Parts → Bool
is_same c w = (w.0 == c.1) && agrees c.2 w.1 && agrees c.3 w.2 && pointwise nat_eq w.3 c.4

-- a pre-release is not below another (SemVer 2.0.0, item 11.4)
abbrev pub pre_reaches : List ℕ → List ℕ → Bool
pre_reaches a b = is_ge (pre_cmp a b)

-- list order: the patch and then the pre-release are not less
abbrev pub patch_reaches : ℕ → List ℕ → Parts → Bool
patch_reaches p pre w = nat_lt p w.2 || ((w.2 == p) && pre_reaches w.3 pre)

-- list order: the minor, the patch and then the pre-release are not less
abbrev pub minor_reaches : ℕ → ℕ → List ℕ → Parts → Bool
minor_reaches m p pre w = nat_lt m w.1 || ((w.1 == m) && patch_reaches p pre w)

-- a patch that is not less, or any where none is given, with a
-- pre-release that is not below (Cargo reference, "Tilde requirements")
abbrev pub tilde_patch : Option ℕ → List ℕ → Parts → Bool
tilde_patch None pre w = pre_reaches w.3 pre
tilde_patch (Some p) pre w = patch_reaches p pre w

-- `~`: the same major and a given minor, and a patch that is
-- not less (Cargo reference, "Tilde requirements")
abbrev pub is_in_tilde : Held → Parts → Bool
is_in_tilde c w = (w.0 == c.1) && agrees c.2 w.1 && tilde_patch c.3 c.4 w

-- `^` with a minor number, and perhaps a patch: not less, and the leftmost
-- number that is not 0 stays (Cargo reference, "Caret requirements")
abbrev pub caret_minor : ℕ → ℕ → Option ℕ → List ℕ → Parts → Bool
caret_minor major m None pre w = if major == 0 then w.1 == m else nat_le m w.1
caret_minor major m (Some p) pre w = minor_reaches m p pre w
    && (not (major == 0) || (w.1 == m))
    && (not (major == 0) || not (m == 0) || (w.2 == p))

-- `^` after its major number (Cargo reference, "Caret requirements")
abbrev pub caret_after : ℕ → Option ℕ → Option ℕ → List ℕ → Parts → Bool
caret_after major None p pre w = true
caret_after major (Some m) p pre w = caret_minor major m p pre w

-- `^`: the same major, and what follows it (Cargo reference, "Caret requirements")
abbrev pub is_in_caret : Held → Parts → Bool
is_in_caret c w = (w.0 == c.1) && caret_after c.1 c.2 c.3 c.4 w

-- the given numbers, and with a patch number the pre-release after them, in list order, by a test on
-- numbers and one on pre-releases
abbrev pub patch_beyond : (ℕ → ℕ → Bool) → (List ℕ → List ℕ → Bool) → Option ℕ → List ℕ → Parts → Bool
patch_beyond num pre None own w = false
patch_beyond num pre (Some p) own w = num w.2 p || ((w.2 == p) && pre w.3 own)

-- the same from the minor number on
abbrev pub minor_beyond : (ℕ → ℕ → Bool) → (List ℕ → List ℕ → Bool) → Option ℕ → Option ℕ → List ℕ → Parts
    → Bool
minor_beyond num pre None p own w = false
minor_beyond num pre (Some m) p own w = num w.1 m || ((w.1 == m) && patch_beyond num pre p own w)

-- the same from the major number on
abbrev pub is_beyond : (ℕ → ℕ → Bool) → (List ℕ → List ℕ → Bool) → Held → Parts → Bool
is_beyond num pre c w = num w.0 c.1 || ((w.0 == c.1) && minor_beyond num pre c.2 c.3 c.4 w)

-- `>` (Cargo reference, "Comparison requirements")
abbrev pub is_greater : Held → Parts → Bool
is_greater c w = is_beyond (λ a b. nat_lt b a) (λ a b. is_gt (pre_cmp a b)) c w

-- `<` (Cargo reference, "Comparison requirements")
abbrev pub is_less : Held → Parts → Bool
is_less c w = is_beyond (λ a b. nat_lt a b) (λ a b. is_lt (pre_cmp a b)) c w

-- the comparator accepts the version, by its operator (Cargo reference, "Specifying Dependencies")
abbrev pub accepts_by : Op → Held → Parts → Bool
accepts_by op.Exact c w = is_same c w
accepts_by op.Wildcard c w = is_same c w
accepts_by op.Tilde c w = is_in_tilde c w
accepts_by op.Caret c w = is_in_caret c w
accepts_by op.Greater c w = is_greater c w
accepts_by op.GreaterEq c w = is_same c w || is_greater c w
accepts_by op.Less c w = is_less c w
accepts_by op.LessEq c w = is_same c w || is_less c w

-- the comparator accepts the version (own)
abbrev pub accepts : Held → Parts → Bool
accepts c w = accepts_by c.0 c w

-- a number that is given and is the version's (own)
abbrev pub is_given : Option ℕ → ℕ → Bool
is_given None n = false
is_given (Some m) n = m == n

-- the comparator has the version's three numbers and a pre-release (Cargo reference, "Pre-releases")
abbrev pub names_pre : Held → Parts → Bool
names_pre c w = (c.1 == w.0) && is_given c.2 w.1 && is_given c.3 w.2 && not (length c.4 == 0)

-- every comparator accepts the version, and one names a pre-release of its numbers if it has one (Cargo
-- reference, "Multiple requirements", "Pre-releases")
abbrev pub admits : List Held → Parts → Bool
admits cs w = list_all (λ c. accepts c w) cs && (length w.3 == 0 || list_any (λ c. names_pre c w) cs)
