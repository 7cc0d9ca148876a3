-- Versions of curl.
use Rattle.std.proofs.Common.{◌≡◌, ℕ, ◌<◌, ◌^◌, List, [], ◌∷◌, ◌++◌, Bool, true, false, refl, sym, ◌∙◌, ap, subst, arith}
use Rattle.std.specs.Prelude.{Ok, codes, not}
use Rattle.std.specs.Str.Parse.{IsNumeral, ParsesUnsigned, digits_value, without_leading_plus}
use Rattle.edit_lookups.specs.Lookups.{HasNo}
use Rattle.edit_lookups.proofs.CutLemmas.{HasNo-at, HasNo-cons, first-cut}
use Rattle.edit_answers.specs.CurlVersion.{IsCurlVersion}

name-no-space : HasNo 32 (codes "curl")
name-no-space =
    HasNo-cons 32 99 (117 ∷ 114 ∷ 108 ∷ []) (λ e. absurd (omega (arith, e)))
    (HasNo-cons 32 117 (114 ∷ 108 ∷ []) (λ e. absurd (omega (arith, e)))
    (HasNo-cons 32 114 (108 ∷ []) (λ e. absurd (omega (arith, e)))
    (HasNo-cons 32 108 [] (λ e. absurd (omega (arith, e))) (λ i w. absurd (omega (arith, w))))))

pub not-not : (b : Bool) → not b ≡ false → b ≡ true
not-not true e = refl
not-not false e = sym e

module _ (text : List ℕ) (major minor : ℕ) (says : IsCurlVersion text major minor) where
  pub no-space : HasNo 32 text → ⊥
  no-space lacks = HasNo-at 32 (codes "curl") _ (subst (HasNo 32) says.is lacks)

  pub name-is : (name rest : List ℕ) → text ≡ name ++ 32 ∷ rest → HasNo 32 name → name ≡ codes "curl"
  name-is name rest is none = (first-cut 32 name rest (codes "curl") _ none name-no-space
      (sym is ∙ says.is)).0

  rest-is : (name rest : List ℕ) → text ≡ name ++ 32 ∷ rest → HasNo 32 name
      → rest ≡ says.major_digits ++ 46 ∷ (says.minor_digits ++ 46 ∷ says.rest)
  rest-is name rest is none = (first-cut 32 name rest (codes "curl") _ none name-no-space
      (sym is ∙ says.is)).1

  pub no-dot : (name rest : List ℕ) → text ≡ name ++ 32 ∷ rest → HasNo 32 name → HasNo 46 rest → ⊥
  no-dot name rest is none lacks = HasNo-at 46 says.major_digits _
      (subst (HasNo 46) (rest-is name rest is none) lacks)

  digits-are : (name a rest : List ℕ) → text ≡ name ++ 32 ∷ (a ++ 46 ∷ rest) → HasNo 32 name → HasNo 46 a
      → (a ≡ says.major_digits) × (rest ≡ says.minor_digits ++ 46 ∷ says.rest)
  digits-are name a rest is none none_a =
      first-cut 46 a rest says.major_digits _ none_a says.no_dot_major (rest-is name (a ++ 46 ∷ rest) is none)

  pub no-second-dot : (name a rest : List ℕ) → text ≡ name ++ 32 ∷ (a ++ 46 ∷ rest) → HasNo 32 name
      → HasNo 46 a
      → HasNo 46 rest → ⊥
  no-second-dot name a rest is none none_a lacks =
      HasNo-at 46 says.minor_digits _ (subst (HasNo 46) (digits-are name a rest is none none_a).1 lacks)

  pub both-are : (name a b rest : List ℕ) → text ≡ name ++ 32 ∷ (a ++ 46 ∷ (b ++ 46 ∷ rest)) → HasNo 32 name
      → HasNo 46 a → HasNo 46 b → (a ≡ says.major_digits) × (b ≡ says.minor_digits)
  both-are name a b rest is none none_a none_b =
      let cut = digits-are name a (b ++ 46 ∷ rest) is none none_a in
      (cut.0, (first-cut 46 b rest says.minor_digits _ none_b says.no_dot_minor cut.1).0)

  pub no-major : (name a b rest : List ℕ) → text ≡ name ++ 32 ∷ (a ++ 46 ∷ (b ++ 46 ∷ rest)) → HasNo 32 name
      → HasNo 46 a → HasNo 46 b
      → ((IsNumeral 10 (without_leading_plus a) × (digits_value 10 (without_leading_plus a) < 2 ^ 32)) → ⊥)
      → ⊥
  no-major name a b rest is none none_a none_b fails =
      fails (subst (λ d. ParsesUnsigned {E = Unit {0}} 32 10 d (Ok major))
      (sym (both-are name a b rest is none none_a none_b).0) says.major_is).0

  pub no-minor : (name a b rest : List ℕ) → text ≡ name ++ 32 ∷ (a ++ 46 ∷ (b ++ 46 ∷ rest)) → HasNo 32 name
      → HasNo 46 a → HasNo 46 b
      → ((IsNumeral 10 (without_leading_plus b) × (digits_value 10 (without_leading_plus b) < 2 ^ 32)) → ⊥)
      → ⊥
  no-minor name a b rest is none none_a none_b fails =
      fails (subst (λ d. ParsesUnsigned {E = Unit {0}} 32 10 d (Ok minor))
      (sym (both-are name a b rest is none none_a none_b).1) says.minor_is).0

-- a text has a single version
pub one-version : (text : List ℕ) (a b c d : ℕ) → IsCurlVersion text a b → IsCurlVersion text c d → (a ≡ c)
    × (b ≡ d)
one-version text a b c d x y =
    let cut = both-are text c d y (codes "curl") x.major_digits x.minor_digits x.rest x.is name-no-space
    x.no_dot_major x.no_dot_minor in (
      x.major_is.1 ∙ (ap (λ t. digits_value 10 (without_leading_plus t)) cut.0 ∙ sym y.major_is.1),
      x.minor_is.1 ∙ (ap (λ t. digits_value 10 (without_leading_plus t)) cut.1 ∙ sym y.minor_is.1),
    )
