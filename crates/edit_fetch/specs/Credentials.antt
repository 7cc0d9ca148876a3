-- Where a token is looked for, in which order, and whose answer counts.
use Rattle.std.specs.Prelude.{ℕ, ◌-◌, List, Option, Some, None, option_map, Bool, true, false, ◌&&◌, ◌||◌, ◌==◌, nat_lt, codes, length, position, if◌then◌else◌}
use Rattle.std.specs.Str.{bytes_eq}
use Rattle.edit_fetch.specs.declared.credentials.Place.{Place}
use Rattle.edit_fetch.specs.declared.credentials.Place.TheVariants.{Credentials, Environment, File}
use Rattle.edit_fetch.specs.declared.credentials.Provider.{Provider}
use Rattle.edit_fetch.specs.declared.credentials.Provider.TheVariants.{Default, Global, Own}
use Rattle.edit_fetch.specs.declared.credentials.Providers.{Providers}
use Rattle.edit_fetch.specs.declared.credentials.Reply.{Reply}
use Rattle.edit_fetch.specs.declared.credentials.Reply.TheVariants.{Failed, Nothing, Token}
use Rattle.edit_fetch.specs.declared.credentials.Step.{Step}
use Rattle.edit_fetch.specs.declared.credentials.Step.TheVariants.{Ask, Decided, Exhausted}

-- whether a registry wants a token: it answers an unauthenticated request for its `config.json` by the HTTP
-- status 401, or that file has `"auth-required": true` (Cargo reference, "Registry Index", Authentication)
abbrev pub wants_token : List ℕ → Bool → Bool
wants_token status auth_required =
    bytes_eq status (codes "401") || (bytes_eq status (codes "200") && auth_required)

-- the place whose value counts: the environment before the file of credentials, and that before the
-- configuration files, of which the first with a value counts (Cargo reference, "Configuration", Environment
-- variables and Credentials)
abbrev pub counted_place : Bool → Bool → List Bool → Option Place
counted_place true credentials files = Some Environment
counted_place false true files = Some Credentials
counted_place false false files = option_map File (position (λ has. has) files)

-- the provider that is asked after `asked` others: only the registry's own one, if it has one; else the
-- global ones from the last to the first; else the built-in one (Cargo reference, "Registry Authentication")
abbrev pub asked_provider : Providers → ℕ → Option Provider
asked_provider providers asked =
    if providers.own then (if asked == 0 then Some Own else None)
    else if providers.global == 0 then (if asked == 0 then Some Default else None)
    else if nat_lt asked providers.global then Some (Global (providers.global - 1 - asked))
    else None

-- whether no other provider is asked after an answer: a token or a failure (Cargo reference, "Credential
-- Provider Protocol", Failure response)
abbrev pub is_decisive : Reply → Bool
is_decisive Token = true
is_decisive Nothing = false
is_decisive Failed = true

-- the position of the answer that counts: the first that is a token or a failure (own)
abbrev pub deciding_reply : List Reply → Option ℕ
deciding_reply replies = position is_decisive replies

-- what follows if no provider is left (own)
abbrev pub step_of : Option Provider → Step
step_of (Some provider) = Ask provider
step_of None = Exhausted

-- what follows from the answers of the first providers, given the answer that counts, if there is one (own)
abbrev pub step_after : Option ℕ → Option Provider → Step
step_after (Some place) next = Decided place
step_after None next = step_of next

-- what follows from the answers of the first providers, in the order in which they are asked (own)
abbrev pub next_step : Providers → List Reply → Step
next_step providers replies =
    step_after (deciding_reply replies) (asked_provider providers (length replies))
