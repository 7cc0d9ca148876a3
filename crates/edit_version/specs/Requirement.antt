-- How a requirement is written, and how it is raised to a version (own; the signs are those of Cargo
-- reference, "Specifying Dependencies"). A comparator is what `semver` read of it: its
-- operator, its numbers and its pre-release; a version is its numbers and texts.
use Rattle.std.specs.Prelude.{ℕ, List, [], ◌∷◌, ◌++◌, Option, Some, None, Result, Ok, Err, Bool, true, false, ◌==◌, nat_eq, codes, map, find, if◌then◌else◌}
use Rattle.std.specs.Cmp.Lexicographic.{pointwise}
use Rattle.std.specs.Fmt.{decimal}
use Rattle.std.specs.List.{before_first}
use Rattle.std.specs.Result.{result_ok}
use Rattle.semver.specs.Identifiers.{comparator_view, marked}
use Rattle.semver.specs.Parse.{Held, Parts, req_of}
use Rattle.semver.specs.declared.error.Error.{Error}
use Rattle.semver.specs.declared.Op.{Op}
use Rattle.semver.specs.declared.VersionReq.{VersionReq}
use Rattle.semver.specs.declared.Op.TheVariants as op

-- the comparators of a requirement that was read (own)
abbrev pub comparators_of : VersionReq → List Held
comparators_of req = map comparator_view req.comparators.items

-- what is read of a text as a requirement, none where it is none
abbrev pub requirement_read : List ℕ → Option (List Held)
requirement_read text = result_ok (req_of text)

-- the sign of an operator (Cargo reference, "Specifying Dependencies")
abbrev pub sign : Op → List ℕ
sign op.Exact = codes "="
sign op.Greater = codes ">"
sign op.GreaterEq = codes ">="
sign op.Less = codes "<"
sign op.LessEq = codes "<="
sign op.Tilde = codes "~"
sign op.Caret = codes "^"
sign op.Wildcard = []

-- a number that may be left out, with the dot before it
abbrev pub dotted : Option ℕ → List ℕ
dotted None = []
dotted (Some n) = 46 ∷ decimal n

-- a pre-release, which stands only after a patch number
abbrev pub after_patch : Option ℕ → List ℕ → List ℕ
after_patch None pre = []
after_patch (Some p) pre = marked 45 pre

-- the star of a wildcard without patch number
abbrev pub star : Op → Option ℕ → List ℕ
star op.Wildcard None = codes ".*"
star o p = []

-- a comparator after its sign
abbrev pub unsigned_text : Held → List ℕ
unsigned_text c = decimal c.1 ++ (dotted c.2 ++ (dotted c.3 ++ (after_patch c.3 c.4 ++ star c.0 c.3)))

-- the text of a comparator
abbrev pub comparator_text : Held → List ℕ
comparator_text c = sign c.0 ++ unsigned_text c

-- further comparators, each after a comma
abbrev pub more_text : List Held → List ℕ
more_text [] = []
more_text (c ∷ cs) = codes ", " ++ (comparator_text c ++ more_text cs)

-- the text of a requirement
abbrev pub requirement_text : List Held → List ℕ
requirement_text [] = codes "*"
requirement_text (c ∷ cs) = comparator_text c ++ more_text cs

-- a number takes the version's where it is there
abbrev pub renumbered : Option ℕ → ℕ → Option ℕ
renumbered None n = None
renumbered (Some m) n = Some n

-- the version's pre-release, but a wildcard keeps its own
abbrev pub raised_pre : Op → List ℕ → List ℕ → List ℕ
raised_pre op.Wildcard own pre = own
raised_pre o own pre = pre

-- the comparator upgraded to a version: the version's numbers where it has numbers, and the version's
-- pre-release unless it is a wildcard
abbrev pub upgraded_comparator : Parts → Held → Held
upgraded_comparator v c = (c.0, v.0, renumbered c.2 v.1, renumbered c.3 v.2, raised_pre c.0 c.4 v.3)

-- whether an operator is `>`, `>=`, `<` or `<=`
abbrev pub is_inequality : Op → Bool
is_inequality op.Greater = true
is_inequality op.GreaterEq = true
is_inequality op.Less = true
is_inequality op.LessEq = true
is_inequality o = false

-- whether a text begins with `^`
abbrev pub starts_with_caret : List ℕ → Bool
starts_with_caret [] = false
starts_with_caret (b ∷ rest) = b == 94

-- a text without the `^` that leads it
abbrev pub without_caret : List ℕ → List ℕ
without_caret [] = []
without_caret (b ∷ rest) = if b == 94 then rest else b ∷ rest

-- a new text leads with `^` only where the old one does
abbrev pub match_caret : List ℕ → List ℕ → List ℕ
match_caret old new = if starts_with_caret old then new else without_caret new

-- what raising a requirement to a version gives
pub data UpgradeResult : Type 0 where
  -- `semver` does not read the text
  Unread : UpgradeResult
  -- there is no other text
  Nothing : UpgradeResult
  -- the first comparator that cannot be raised
  Unsupported : Held → UpgradeResult
  -- the new text
  Text : List ℕ → UpgradeResult

-- the new text, where it is another
abbrev pub unless_same : List ℕ → List ℕ → UpgradeResult
unless_same old new = if pointwise nat_eq new old then Nothing else Text new

-- the first comparator that cannot be raised, or the text of all raised
abbrev pub upgrade_all : List ℕ → Parts → List Held → Option Held → UpgradeResult
upgrade_all text v cs (Some c) = Unsupported c
upgrade_all text v cs None = unless_same text (match_caret text (requirement_text (map
    (upgraded_comparator v) cs)))

-- raising what was read of a text
abbrev pub upgrade_parsed : List ℕ → Parts → Result (List Held) Error → UpgradeResult
upgrade_parsed text v (Err e) = Unread
upgrade_parsed text v (Ok []) = Nothing
upgrade_parsed text v (Ok (c ∷ cs)) = upgrade_all text v (c ∷ cs) (find (λ d. is_inequality d.0) (c ∷ cs))

-- a requirement raised to a version
abbrev pub upgrade_of : List ℕ → Parts → UpgradeResult
upgrade_of text v = upgrade_parsed text v (req_of text)

-- the text of a version without its build metadata (SemVer 2.0.0, items 2 and 9)
abbrev pub plain_text : Parts → List ℕ
plain_text v = decimal v.0 ++ (46 ∷ (decimal v.1 ++ (46 ∷ (decimal v.2 ++ marked 45 v.3))))

-- the text before the first `+`, or all of it (own: build metadata begins there, SemVer 2.0.0, item 10)
abbrev pub cut : List ℕ → List ℕ
cut text = before_first (λ b. b == 43) text
