-- The bytes of a value that was skipped, by which it is known again.
use Rattle.std.specs.Prelude.{◌≡◌, ℕ, ◌-◌, ◌≤◌, List, ◌++◌, Option, Some, drop, length, option_map}
use Rattle.std.specs.Coded.{Coded-set, Π_prop, coded_option, le_prop, ×_prop}
use Rattle.json.specs.Json.{value}
use Rattle.json.specs.Lex.{tokens}
use Rattle.json.specs.Token.{Token, tokens_code}
use Rattle.serde_json.specs.Read.{converted, of_json}

-- the tokens after a value, nested at most this deep (own)
abbrev pub tokens_behind : ℕ → List ℕ → Option (List Token)
tokens_behind depth text = option_map (λ p. p.1) (converted of_json (value depth (tokens text)))

-- each text that begins with these bytes begins with a value, and what is after that begins with the last of
-- them (own)
abbrev pub IsSkippedValue : ℕ → List ℕ → Type 0
IsSkippedValue depth bytes =
    (1 ≤ length bytes)
    × ((other : List ℕ) → tokens_behind depth (bytes ++ other)
    ≡ Some (tokens (drop (length bytes - 1) (bytes ++ other))))

-- two proofs of it are the same
pub IsSkippedValue-prop : (depth : ℕ) (bytes : List ℕ) → IsProp (IsSkippedValue depth bytes)
IsSkippedValue-prop depth bytes = ×_prop le_prop (Π_prop (λ other. Coded-set (coded_option tokens_code) _ _))
