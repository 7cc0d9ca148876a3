-- What follows where a requirement is raised (own, over SemVer
-- 2.0.0 and Cargo reference, "Specifying Dependencies").
use Rattle.std.specs.List.{list_any}
use Rattle.std.specs.Prelude.{◌≡◌, ◌<◌, ◌^◌, ◌⊎◌, ◌==◌, ◌↔◌, ◌∷◌, [], ℕ, Bool, List, map, Option, Some, None, Ok, String, string_bytes, true, false, All, IsOk, IsSome, IsTrue, length}
use Rattle.std.specs.declared.alloc.Global.{Global}
use Rattle.std.specs.Ordering.{is_ge, nat_cmp, ordering_then}
use Rattle.std.specs.declared.cmp.Ordering.{Ordering}
use Rattle.semver.specs.Grammar.{is_pre_release}
use Rattle.semver.specs.Order.{pre_cmp}
use Rattle.semver.specs.Parse.{Held, Parts, req_of}
use Rattle.semver.specs.declared.Op.TheVariants as op
use Rattle.edit_version.specs.Admits.{admits}
use Rattle.edit_version.specs.Requirement.{Nothing, upgrade_of}

-- a version that can be read: numbers of 64 bits, and no
-- pre-release or one of its grammar (SemVer 2.0.0, items 2 and 9)
pub record IsVersion (v : Parts) : Type 0 where
  pub major : v.0 < 2 ^ 64
  pub minor : v.1 < 2 ^ 64
  pub patch : v.2 < 2 ^ 64
  pub pre : is_pre_release v.3 ≡ true

-- a version with no pre-release, or with one of the grammar,
-- as each has that was read from a text (SemVer 2.0.0, item 9)
abbrev pub IsReadable : Parts → Type 0
IsReadable v = IsTrue (is_pre_release v.3)

-- the requirement that stands after a call: the new text, or the old one where there is no other
abbrev pub text_after : Option (String Global) → List ℕ → List ℕ
text_after None old = old
text_after (Some s) old = string_bytes s

-- the text is a requirement that admits the version
abbrev pub Admits : List ℕ → Parts → Type 0
Admits text w = (cs : List Held) × (req_of text ≡ Ok cs) × IsTrue (admits cs w)

-- a comparator with major, minor and patch number
abbrev pub HasThreeNumbers : Held → Type 0
HasThreeNumbers c = IsSome c.2 × IsSome c.3

-- the version has no pre-release, or the text has comparators, all of three numbers
abbrev pub CanReach : List ℕ → Parts → Type 0
CanReach text v =
    (length v.3 ≡ 0) ⊎ ((cs : List Held) × (req_of text ≡ Ok cs) × (0 < length cs) × All HasThreeNumbers cs)

-- `semver` reads the text, and raising it gives no other
abbrev pub IsSettled : List ℕ → Parts → Type 0
IsSettled t v = IsOk (req_of t) × (upgrade_of t v ≡ Nothing)

-- the new requirement admits the version, and nothing that the old one does not
abbrev pub IsNarrower : List ℕ → List ℕ → Parts → Type 0
IsNarrower old new v = Admits new v × ((w : Parts) → Admits new w → Admits old w)

-- whether a text has a `-`
abbrev pub holds_dash : List ℕ → Bool
holds_dash text = list_any (λ b. b == 45) text

-- whether a text has a `+` (own)
abbrev pub holds_plus : List ℕ → Bool
holds_plus text = list_any (λ b. b == 43) text

-- where the version has no pre-release, the text has no `-` (own)
abbrev pub IsRelease : List ℕ → Parts → Type 0
IsRelease new v = length v.3 ≡ 0 → holds_dash new ≡ false

-- the two texts are requirements with the same operators
abbrev pub HasSameOperators : List ℕ → List ℕ → Type 0
HasSameOperators old new = (cs : List Held) × (ds : List Held) × (req_of old ≡ Ok cs) × (req_of new ≡ Ok ds)
    × (map (λ c. c.0) ds ≡ map (λ c. c.0) cs)

-- the operators stay, and a `-` stays exactly where the version has a pre-release
abbrev pub KeepsForm : List ℕ → List ℕ → Parts → Type 0
KeepsForm old new v =
    HasSameOperators old new × (IsTrue (holds_dash old) → (IsTrue (holds_dash new) ↔ (0 < length v.3)))

-- the order of versions without their build metadata (SemVer 2.0.0, item 11)
abbrev pub precedence : Parts → Parts → Ordering
precedence a b = ordering_then (nat_cmp a.0 b.0)
    (ordering_then (nat_cmp a.1 b.1) (ordering_then (nat_cmp a.2 b.2) (pre_cmp a.3 b.3)))

-- where the old text has a `-` and the version a pre-release, no version that the new one admits is lower
abbrev pub AdmitsNoLower : List ℕ → List ℕ → Parts → Type 0
AdmitsNoLower old new v =
    IsTrue (holds_dash old) → 0 < length v.3 → (w : Parts) → Admits new w → IsTrue (is_ge (precedence w v))

-- the text of a version, cut before its build metadata, is a requirement that admits the version, that
-- has no comparator but one caret, and that stays as it is when it is raised to the version
abbrev pub IsPlainRequirement : List ℕ → Parts → Type 0
IsPlainRequirement t v =
    (req_of t ≡ Ok ((op.Caret, v.0, Some v.1, Some v.2, v.3) ∷ [])) × (upgrade_of t v ≡ Nothing)
