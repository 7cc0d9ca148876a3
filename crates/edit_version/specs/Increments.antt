-- What increments make of a version (SemVer 2.0.0, items 6 to 10).
use Rattle.std.specs.Prelude.{ℕ, List, [], ◌∷◌, ◌++◌, ◌+◌, ◌^◌, ◌==◌, ◌&&◌, ◌||◌, Bool, false, Option, Some, None, codes, if◌then◌else◌, length, nat_eq, nat_lt}
use Rattle.std.specs.Cmp.Lexicographic.{pointwise}
use Rattle.std.specs.Fmt.{decimal}
use Rattle.std.specs.List.{after_first, before_first, position_or_len}
use Rattle.std.specs.Str.Parse.{digits_value}
use Rattle.semver.specs.Grammar.{is_build}
use Rattle.semver.specs.Order.{is_numeric}
use Rattle.semver.specs.Parse.{Parts}
use Rattle.edit_version.specs.declared.version.Phase.{Phase}
use Rattle.edit_version.specs.declared.version.Phase.TheVariants as phase

-- what may be incremented: a number, or the number of a pre-release of a phase (own)
pub data Level : Type 0 where
  Major : Level
  Minor : Level
  Patch : Level
  Pre : Phase → Level

-- why a version is not changed (own)
pub data ChangeError : Type 0 where
  -- its pre-release is of a later phase
  Behind : Phase → ChangeError
  -- its pre-release is no name, and no name and a number
  Scheme : ChangeError
  -- a number stands at its end
  AtEnd : ChangeError
  -- the build metadata is outside its grammar
  Metadata : List ℕ → ChangeError

-- what a change of a version gives (own)
pub data Change : Type 0 where
  Refused : ChangeError → Change
  To : Parts → Change

-- a version with a number that rose, where 64 bits hold it (own)
abbrev pub if_fits : ℕ → Parts → Change
if_fits n v = if nat_lt n (2 ^ 64) then To v else Refused AtEnd

-- the next major version (SemVer 2.0.0, item 8)
abbrev pub next_major : Parts → Parts
next_major v = (v.0 + 1, 0, 0, [], [])

-- the next minor version (SemVer 2.0.0, item 7)
abbrev pub next_minor : Parts → Parts
next_minor v = (v.0, v.1 + 1, 0, [], [])

-- the next patch version (SemVer 2.0.0, item 6)
abbrev pub next_patch : Parts → Parts
next_patch v = (v.0, v.1, v.2 + 1, [], [])

-- ---- phases

-- the name of a phase (own)
abbrev pub phase_name : Phase → List ℕ
phase_name phase.Alpha = codes "alpha"
phase_name phase.Beta = codes "beta"
phase_name phase.Rc = codes "rc"

-- two texts are one
abbrev pub is_text : List ℕ → List ℕ → Bool
is_text a b = pointwise nat_eq a b

-- whether a text names a phase after this one (own)
abbrev pub is_later_phase : Phase → List ℕ → Bool
is_later_phase phase.Alpha w = is_text w (codes "beta") || is_text w (codes "rc")
is_later_phase phase.Beta w = is_text w (codes "rc")
is_later_phase phase.Rc w = false

-- a pre-release of a phase, as `alpha.1` (SemVer 2.0.0, item 9)
abbrev pub phase_prerelease : Phase → ℕ → List ℕ
phase_prerelease p n = phase_name p ++ (46 ∷ decimal n)

-- the decimal number of 64 bits that a text is (own)
abbrev pub number_of : List ℕ → Option ℕ
number_of text =
    if is_numeric text && nat_lt 0 (length text) && nat_lt (digits_value 10 text) (2 ^ 64)
    then Some (digits_value 10 text) else None

-- the name of a pre-release, up to its first dot (own)
abbrev pub first_identifier : List ℕ → List ℕ
first_identifier pre = before_first (λ b. b == 46) pre

-- the number after the first dot, 0 where there is no dot (own)
abbrev pub number_after : List ℕ → Option ℕ
number_after pre =
    if position_or_len (λ b. b == 46) pre == length pre
    then Some 0 else number_of (after_first (λ b. b == 46) pre)

-- the next pre-release of a phase, from a name and its number, none where it is no number (own)
abbrev pub next_of : Phase → Parts → List ℕ → Option ℕ → Change
next_of p v w None = Refused Scheme
next_of p v w (Some n) =
    if is_later_phase p w then Refused (Behind p)
    else (if is_text w (phase_name p) then if_fits (n + 1) (v.0, v.1, v.2, phase_prerelease p (n + 1), v.4)
    else To (v.0, v.1, v.2, phase_prerelease p 1, v.4))

-- the next version of a phase: the first of the next patch version, or
-- of a pre-release the next number, or the first of a later phase (own)
abbrev pub next_phase : Phase → Parts → Change
next_phase p v =
    if length v.3 == 0 then if_fits (v.2 + 1) (v.0, v.1, v.2 + 1, phase_prerelease p 1, [])
    else next_of p v (first_identifier v.3) (number_after v.3)

-- what incrementing gives (own)
abbrev pub step : Level → Parts → Change
step Major v = if_fits (v.0 + 1) (next_major v)
step Minor v = if_fits (v.1 + 1) (next_minor v)
step Patch v = if_fits (v.2 + 1) (next_patch v)
step (Pre p) v = next_phase p v

-- with other build metadata (SemVer 2.0.0, item 10)
abbrev pub with_build : List ℕ → Parts → Change
with_build m v = if is_build m then To (v.0, v.1, v.2, v.3, m) else Refused (Metadata m)
