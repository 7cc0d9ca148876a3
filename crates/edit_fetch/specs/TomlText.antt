-- TOML strings (TOML 1.0.0, "String").
use Rattle.std.specs.Prelude.{ℕ, ◌+◌, ◌-◌, List, [], ◌∷◌, ◌++◌, Bool, ◌==◌, ◌||◌, nat_lt, ◌/◌, ◌%◌, if◌then◌else◌}
use Rattle.std.specs.List.{flat_map}

-- the hex digit of a number below 16
abbrev pub hex_digit : ℕ → ℕ
hex_digit n = if nat_lt n 10 then 48 + n else 97 + (n - 10)

-- a control character of ASCII
abbrev pub is_control : ℕ → Bool
is_control b = nat_lt b 32 || (b == 127)

-- a byte in a basic string: `"` and `\` after a `\`, a control character as `\u` and four hex digits
abbrev pub escape_of : ℕ → List ℕ
escape_of b =
    if (b == 34) || (b == 92) then 92 ∷ b ∷ []
    else if is_control b then 92 ∷ 117 ∷ 48 ∷ 48 ∷ hex_digit (b / 16) ∷ hex_digit (b % 16) ∷ []
    else b ∷ []

-- a value as a basic string
abbrev pub quoted : List ℕ → List ℕ
quoted value = 34 ∷ (flat_map escape_of value ++ 34 ∷ [])

-- a value as a basic string, and a line end
abbrev pub value_line : List ℕ → List ℕ
value_line value = quoted value ++ 10 ∷ []
