-- The text of messages to the user.
use Rattle.std.specs.Prelude.{ℕ, ◌-◌, ◌^◌, List, [], ◌∷◌, ◌++◌, Bool, true, false, codes}
use Rattle.std.specs.Fmt.{format_spec, padded}

-- a status right-aligned to twelve characters, as `{:>12}` formats it
abbrev pub right_in_twelve : List ℕ → List ℕ
right_in_twelve status = padded (format_spec 32 3 0 12 (2 ^ 64 - 1)) status

-- a message after its status: right-aligned to twelve characters and a space, or with a colon and a space
-- (own)
abbrev pub message_text : Bool → List ℕ → List ℕ → List ℕ
message_text true status message = right_in_twelve status ++ (codes " " ++ (message ++ 10 ∷ []))
message_text false status message = status ++ (codes ": " ++ (message ++ 10 ∷ []))
