-- The file of calls: one argument per line, and an empty line after each call.
use Rattle.std.specs.Prelude.{◌≢◌, ℕ, List, [], ◌∷◌, ◌++◌, All}
use Rattle.std.specs.List.{flat_map}
use Rattle.edit_lock.specs.AdaptedCalls.{Call}

-- the lines of a call
abbrev pub call_lines : Call → List (List ℕ)
call_lines call = call ++ [] ∷ []

-- the lines of the file for these calls
abbrev pub file_lines : List Call → List (List ℕ)
file_lines calls = flat_map call_lines calls

-- none of the arguments of the call is empty, so that the file can hold it
abbrev pub HasNoEmptyArgument : Call → Type 0
HasNoEmptyArgument call = All (λ argument. argument ≢ []) call

-- the calls of these lines, given the arguments of the current call so far; arguments after the last empty
-- line are dropped
abbrev pub calls_behind : Call → List (List ℕ) → List Call
calls_behind arguments [] = []
calls_behind arguments ([] ∷ rest) = arguments ∷ calls_behind [] rest
calls_behind arguments ((b ∷ bs) ∷ rest) = calls_behind (arguments ++ (b ∷ bs) ∷ []) rest
