-- Versions of curl that can fetch index entries (curl's manual: `%{exitcode}` and `%{errormsg}` of
-- `--write-out` exist since 7.75).
use Rattle.std.specs.Prelude.{◌≡◌, ◌⊎◌, ℕ, ◌<◌, ◌≤◌, List, ◌∷◌, ◌++◌, Ok, codes}
use Rattle.std.specs.Str.Parse.{ParsesUnsigned}
use Rattle.edit_lookups.specs.Lookups.{HasNo}

-- version 7.75 or later
abbrev pub HasVariables : ℕ → ℕ → Type 0
HasVariables major minor = (7 < major) ⊎ ((major ≡ 7) × (75 ≤ minor))

-- the text begins with `curl MAJOR.MINOR.`
pub record IsCurlVersion (text : List ℕ) (major minor : ℕ) : Type 0 where
  pub major_digits : List ℕ
  pub minor_digits : List ℕ
  pub rest : List ℕ
  pub is : text ≡ codes "curl" ++ 32 ∷ (major_digits ++ 46 ∷ (minor_digits ++ 46 ∷ rest))
  pub no_dot_major : HasNo 46 major_digits
  pub no_dot_minor : HasNo 46 minor_digits
  pub major_is : ParsesUnsigned {E = Unit {0}} 32 10 major_digits (Ok major)
  pub minor_is : ParsesUnsigned {E = Unit {0}} 32 10 minor_digits (Ok minor)

-- the text begins with the version of curl, which is 7.75 or later
pub record IsNewEnough (text : List ℕ) : Type 0 where
  pub major : ℕ
  pub minor : ℕ
  pub says : IsCurlVersion text major minor
  pub has : HasVariables major minor
