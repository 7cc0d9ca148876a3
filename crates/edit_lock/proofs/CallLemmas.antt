-- The calls in a file of calls, line by line.
use Rattle.std.proofs.Common.{◌≡◌, ◌≢◌, ◌∷◌, ◌++◌, ◌∙◌, [], List, ℕ, ap, append_assoc, append-nil, refl, sym}
use Rattle.std.specs.Prelude.{All}
use Rattle.std.specs.List.{flat_map}
use Rattle.std.proofs.lemmas.List.Elements.{All-head, All-tail}
use Rattle.edit_lock.specs.CallsFile.{HasNoEmptyArgument, call_lines, calls_behind, file_lines}
use Rattle.edit_lock.specs.AdaptedCalls.{Call}

-- an argument is appended to the call
one-more : (arguments : Call) (line : List ℕ) (rest : List (List ℕ)) → line ≢ []
    → calls_behind arguments (line ∷ rest) ≡ calls_behind (arguments ++ line ∷ []) rest
one-more arguments [] rest ne = absurd (ne refl)
one-more arguments (b ∷ bs) rest ne = refl

-- a call that was written is read back
one-call : (arguments call : Call) (rest : List (List ℕ)) → HasNoEmptyArgument call
    → calls_behind arguments (call ++ [] ∷ rest) ≡ (arguments ++ call) ∷ calls_behind [] rest
one-call arguments [] rest has = ap (λ (xs : Call). xs ∷ calls_behind [] rest) (sym (append-nil arguments))
one-call arguments (a ∷ call) rest has =
    one-more arguments a (call ++ [] ∷ rest) (All-head (λ x. x ≢ []) a call has)
    ∙ one-call (arguments ++ a ∷ []) call rest (All-tail (λ x. x ≢ []) a call has)
    ∙ ap (λ (xs : Call). xs ∷ calls_behind [] rest) (append_assoc arguments (a ∷ []) call)

-- calls that were written are read back
pub all-calls : (calls : List Call) → All HasNoEmptyArgument calls
    → calls_behind [] (file_lines calls) ≡ calls
all-calls [] all = refl
all-calls (call ∷ calls) all =
    ap (calls_behind []) (append_assoc call ([] ∷ []) (file_lines calls))
    ∙ one-call [] call (file_lines calls) (All-head HasNoEmptyArgument call calls all)
    ∙ ap (λ (cs : List Call). call ∷ cs) (all-calls calls (All-tail HasNoEmptyArgument call calls all))
