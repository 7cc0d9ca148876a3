-- Addresses without user names and passwords.
use Rattle.std.specs.Prelude.{ℕ, zero, suc, List, [], ◌∷◌, ◌++◌, Bool, ◌==◌, ◌||◌, codes, drop, slice_index, if◌then◌else◌}
use Rattle.std.specs.List.{before_first, after_first}

-- a byte that ends the authority of a URL: `/`, `?` or `#`
abbrev pub ends_authority : ℕ → Bool
ends_authority b = (b == 47) || ((b == 63) || (b == 35))

-- the length of the userinfo with its `@` after a byte is added in front, given that length before and
-- whether the byte is `@`
abbrev pub one_more : Bool → ℕ → ℕ
one_more is_at zero = if is_at then 1 else 0
one_more is_at (suc n) = suc (suc n)

-- the length of the userinfo at the start of a text, with its `@`: up to the last `@` before the first `/`,
-- `?` or `#`; 0 where there is none
abbrev pub userinfo_len : List ℕ → ℕ
userinfo_len [] = 0
userinfo_len (b ∷ rest) =
    if ends_authority b then 0
    else one_more (b == 64) (userinfo_len rest)

-- an address without the userinfo after its `//`, which has to begin at its first slash
abbrev pub strip_userinfo : List ℕ → List ℕ
strip_userinfo address =
    let rest = after_first (λ b. b == 47) address in
    if slice_index rest 0 == 47
    then before_first (λ b. b == 47) address ++ codes "//" ++ drop (userinfo_len (drop 1 rest)) (drop 1 rest)
    else address
