-- The length of the userinfo, byte by byte.
use Rattle.std.proofs.Common.{◌≡◌, ℕ, zero, suc, ◌+◌, ◌<◌, Bool, true, false, cond, eqb, List, ◌∷◌, length, get_or, drop, refl, ap, ◌∙◌, sym, arith, drop-cons, add-one}
use Rattle.edit_lookups.specs.UserinfoAddresses.{ends_authority, one_more, userinfo_len}

-- the length so far, where the rest of the text has a userinfo of a given length
abbrev pub more : ℕ → ℕ → ℕ → ℕ
more len i zero = len
more len i (suc n) = i + suc n

step : (t : Bool) (i len u : ℕ)
    → more len i (one_more t u) ≡ more (cond t (i + 1) len) (i + 1) u
step true i len zero = refl
step false i len zero = refl
step true i len (suc n) = omega arith
step false i len (suc n) = omega arith

step-cons : (b : ℕ) (rest : List ℕ) (i len : ℕ) → ends_authority b ≡ false
    → more len i (userinfo_len (b ∷ rest)) ≡ more (cond (eqb b 64) (i + 1) len) (i + 1) (userinfo_len rest)
step-cons b rest i len e =
    ap (λ t. more len i (cond t 0 (one_more (eqb b 64) (userinfo_len rest)))) e
    ∙ step (eqb b 64) i len (userinfo_len rest)

-- one byte further
pub more-step : (text : List ℕ) (i len : ℕ) → i < length text → ends_authority (get_or text i 0) ≡ false
    → more len i (userinfo_len (drop i text))
    ≡ more (cond (eqb (get_or text i 0) 64) (i + 1) len) (i + 1) (userinfo_len (drop (i + 1) text))
more-step text i len w e =
    ap (λ t. more len i (userinfo_len t)) (drop-cons text i 0 w)
    ∙ (step-cons (get_or text i 0) (drop (suc i) text) i len e
    ∙ ap (λ k. more (cond (eqb (get_or text i 0) 64) (i + 1) len) (i + 1) (userinfo_len (drop k text)))
    (sym (add-one i)))

-- the search ends at a byte that ends the authority
pub more-end : (text : List ℕ) (i len : ℕ) → i < length text → ends_authority (get_or text i 0) ≡ true
    → more len i (userinfo_len (drop i text)) ≡ len
more-end text i len w e =
    ap (λ t. more len i (userinfo_len t)) (drop-cons text i 0 w)
    ∙ ap (λ t. more len i (cond t 0 (one_more (eqb (get_or text i 0) 64)
    (userinfo_len (drop (suc i) text))))) e
