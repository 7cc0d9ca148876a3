-- The tokens of registries (Cargo reference, "Registries", Registry Authentication).
use Rattle.std.specs.Prelude.{◌≡◌, ℕ, List, ◌∷◌, ◌++◌, Option, None, Ok, ◌==◌, codes, map, option_map, if◌then◌else◌}
use Rattle.std.specs.Char.{to_ascii_uppercase}
use Rattle.std.specs.List.{find}
use Rattle.std.specs.Str.{bytes_eq}
use Rattle.url.specs.Parser.{parse_url}
use Rattle.url.specs.Parts.{Parts, serialize}
use Rattle.edit_fetch.specs.declared.tokens.Token.{Token}

-- the token of the first registry with this address
abbrev pub token_of : List Token → List ℕ → Option (List ℕ)
token_of tokens address =
    option_map (λ t. t.token.now) (find (λ t. bytes_eq t.address.now address) tokens)

-- the token belongs to a registry with this address
pub record IsTokenOf (tokens : List Token) (address token : List ℕ) : Type 0 where
  pub before : List Token
  pub holder : Token
  pub after : List Token
  pub among : tokens ≡ before ++ holder ∷ after
  pub own : holder.address.now ≡ address
  pub is : holder.token.now ≡ token

-- a byte of a registry's name as in the name of the environment variable: upper case, and `_` for `-`
abbrev pub variable_byte : ℕ → ℕ
variable_byte b = if b == 45 then 95 else to_ascii_uppercase b

-- the environment variable for a setting of a registry (Cargo reference, "Configuration", Environment
-- variables)
abbrev pub registry_variable : List ℕ → List ℕ → List ℕ
registry_variable name ending = codes "CARGO_REGISTRIES_" ++ (map variable_byte name ++ ending)

-- the environment variable with the token of a registry (Cargo reference, "Configuration",
-- registries.<name>.token)
abbrev pub token_variable : List ℕ → List ℕ
token_variable name = registry_variable name (codes "_TOKEN")

-- the environment variable with the credential provider of a registry (Cargo reference, "Configuration",
-- registries.<name>.credential-provider)
abbrev pub provider_variable : List ℕ → List ℕ
provider_variable name = registry_variable name (codes "_CREDENTIAL_PROVIDER")

-- the address is the text, parsed as a URL and serialized again (URL Standard, "URL serializing")
pub record IsAddressOf (text address : List ℕ) : Type 0 where
  pub url : Parts
  pub reads : parse_url None text ≡ Ok url
  pub writes : address ≡ serialize url
