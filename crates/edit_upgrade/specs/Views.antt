-- Calls of `cargo update`, by their texts.
use Rattle.std.specs.Prelude.{ℕ, List, map, String, Vec, string_bytes}
use Rattle.std.specs.declared.alloc.Global.{Global}

-- the arguments of a call, by their texts
abbrev pub args_view : List (String Global) → List (List ℕ)
args_view args = map string_bytes args

-- the arguments of each call, by their texts
abbrev pub calls_view : List (Vec (String Global) Global) → List (List (List ℕ))
calls_view calls = map (λ call. args_view call.items) calls
