-- Compatible ranges: the versions that a caret requirement admits from its floor on (Cargo reference,
-- "Specifying Dependencies", "Caret requirements").
use Rattle.std.specs.Prelude.{◌&&◌, ◌==◌, ℕ, zero, suc, List, [], ◌∷◌, Bool, true, false, Option, Some, None, if◌then◌else◌, length, option_and_then, unwrap_or}
use Rattle.std.specs.Option.{option_eq}
use Rattle.std.specs.Ordering.{is_gt, nat_cmp, ordering_then}
use Rattle.semver.specs.Parse.{Held}
use Rattle.semver.specs.declared.Op.{Op}
use Rattle.semver.specs.declared.Op.TheVariants as op
use Rattle.edit_version.specs.Requirement.{requirement_read}
use Rattle.edit_version.specs.declared.levels.Level.{Level}
use Rattle.edit_version.specs.declared.levels.Level.TheVariants.{Patch}
use Rattle.edit_unify.specs.declared.ranges.Numbers.{Numbers}

-- the numbers of a caret comparator: a major number, and those that stand behind it
abbrev pub Caret : Type 0
Caret = ℕ × Option ℕ × Option ℕ

-- the numbers of the program's type (own)
abbrev pub numbers_of : Numbers → Caret
numbers_of n = (n.major, n.minor, n.patch)

-- `^`, which is meant where no operator stands
abbrev pub is_caret : Op → Bool
is_caret op.Caret = true
is_caret o = false

-- the numbers of comparators that are one caret comparator without a pre-release
abbrev pub caret_in : List Held → Option Caret
caret_in (c ∷ []) = if is_caret c.0 && (length c.4 == 0) then Some (c.1, c.2, c.3) else None
caret_in cs = None

-- the numbers of a requirement that is one caret comparator without a pre-release
abbrev pub caret_of : List ℕ → Option Caret
caret_of text = option_and_then caret_in (requirement_read text)

-- the numbers that each version has that a caret comparator admits: those up to the first that is not 0
abbrev pub range_of : Caret → Caret
range_of (suc n, minor, patch) = (suc n, None, None)
range_of (zero, Some zero, patch) = (zero, Some zero, patch)
range_of (zero, minor, patch) = (zero, minor, None)

-- two caret comparators have one range (own)
abbrev pub is_same_range : Caret → Caret → Bool
is_same_range a b = is_same (range_of a) (range_of b)
  where
    is_same : Caret → Caret → Bool
    is_same a b = (a.0 == b.0) && (option_eq (λ m n. m == n) a.1 b.1 && option_eq (λ m n. m == n) a.2 b.2)

-- two floors in one range have the numbers in common that a level keeps: with `patch` the minor number,
-- the major number is that of the range
abbrev pub keeps_level : Option Level → Caret → Caret → Bool
keeps_level (Some Patch) a b = unwrap_or a.1 0 == unwrap_or b.1 0
keeps_level level a b = true

-- the minor number of a floor where the level keeps it, else 0 (own)
abbrev pub kept_minor : Option Level → Caret → ℕ
kept_minor (Some Patch) caret = unwrap_or caret.1 0
kept_minor level caret = 0

-- the floor of the first caret comparator is higher than that of the second; missing numbers are 0
abbrev pub is_higher : Caret → Caret → Bool
is_higher a b = is_gt (ordering_then (nat_cmp a.0 b.0)
    (ordering_then (nat_cmp (unwrap_or a.1 0) (unwrap_or b.1 0))
    (nat_cmp (unwrap_or a.2 0) (unwrap_or b.2 0))))
