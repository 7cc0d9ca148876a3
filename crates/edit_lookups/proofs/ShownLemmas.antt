-- Addresses are split at their first slash.
use Rattle.std.proofs.Common.{◌≡◌, ◌≢◌, ℕ, false, cond, eqb, List, [], ◌∷◌, ◌++◌, get_or, drop, refl, ap, ◌∙◌, sym, arith}
use Rattle.std.specs.Prelude.{codes}
use Rattle.std.specs.List.{before_first, after_first}
use Rattle.std.proofs.lemmas.Bool.{false_from_ne_true}
use Rattle.std.proofs.lemmas.Bool.Decides.{nat_tests}
use Rattle.edit_lookups.specs.UserinfoAddresses.{strip_userinfo, userinfo_len}

head-off : (xs : List ℕ) → ((r : List ℕ) → xs ≢ 47 ∷ r) → eqb (get_or xs 0 0) 47 ≡ false
head-off [] h = refl
head-off (x ∷ xs) h = false_from_ne_true (eqb x 47)
    (λ e. let same : x ≡ 47 = grind (arith, nat_tests) in h xs (ap (λ y. y ∷ xs) same))

abbrev cut : List ℕ → List ℕ
cut address =
    (before_first (λ b. eqb b 47) address ++ codes "//")
    ++ drop (userinfo_len (drop 1 (after_first (λ b. eqb b 47) address)))
    (drop 1 (after_first (λ b. eqb b 47) address))

pub shown-plain : (address rest : List ℕ) → rest ≡ after_first (λ b. eqb b 47) address
    → ((r : List ℕ) → rest ≢ 47 ∷ r) → strip_userinfo address ≡ address
shown-plain address rest e h =
    ap (λ t. cond t (cut address) address)
    (ap (λ xs. eqb (get_or xs 0 0) 47) (sym e) ∙ head-off rest h)

pub shown-cut : (address scheme rest host : List ℕ) → scheme ≡ before_first (λ b. eqb b 47) address
    → rest ≡ after_first (λ b. eqb b 47) address → rest ≡ 47 ∷ host
    → strip_userinfo address ≡ (scheme ++ codes "//") ++ drop (userinfo_len host) host
shown-cut address scheme rest host es er eh =
    let at : after_first (λ b. eqb b 47) address ≡ 47 ∷ host = sym er ∙ eh in
    ap (λ xs. cond (eqb (get_or xs 0 0) 47) (cut address) address) at
    ∙ (ap (λ xs. (before_first (λ b. eqb b 47) address ++ codes "//")
    ++ drop (userinfo_len (drop 1 xs)) (drop 1 xs)) at
    ∙ ap (λ t. (t ++ codes "//") ++ drop (userinfo_len host) host) (sym es))
