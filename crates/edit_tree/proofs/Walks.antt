-- The walk over tokens, one after the other.
use Rattle.std.proofs.Common.{◌≡◌, ℕ, ◌+◌, ◌-◌, List, [], ◌∷◌, ◌++◌, length, Option, Some, None, refl, ap, ◌∙◌, length-append, arith}
use Rattle.std.specs.Prelude.{slice_get}
use Rattle.edit_syntax.specs.declared.read.syntax_tokens.SyntaxToken.{SyntaxToken}
use Rattle.edit_syntax.specs.Reading.{◌>>=◌}
use Rattle.edit_tree.specs.Walk.{State, last_of, step, state_after}
use Rattle.edit_syntax.proofs.ListElements.{get_last}

bind_some : {A : Type 0} (o : Option A) → (o >>= λ x. Some x) ≡ o
bind_some None = refl
bind_some (Some x) = refl

pub walked_one : (bytes : List ℕ) (m : SyntaxToken) (st : State)
    → state_after bytes (m ∷ []) st ≡ step bytes m st
unfolding state_after
walked_one bytes m st = bind_some (step bytes m st)

pub walked_first : (bytes : List ℕ) (m : SyntaxToken) (ms : List SyntaxToken) (st next : State)
    → step bytes m st ≡ Some next → state_after bytes (m ∷ ms) st ≡ state_after bytes ms next
unfolding state_after
walked_first bytes m ms st next e = ap (λ (o : Option State). o >>= state_after bytes ms) e

pub walked_stops : (bytes : List ℕ) (m : SyntaxToken) (ms : List SyntaxToken) (st : State)
    → step bytes m st ≡ None
    → state_after bytes (m ∷ ms) st ≡ None
unfolding state_after
walked_stops bytes m ms st e = ap (λ (o : Option State). o >>= state_after bytes ms) e

pub walked_none : (bytes : List ℕ) (st : State) → state_after bytes [] st ≡ Some st
unfolding state_after
walked_none bytes st = refl

pub walked_append : (bytes : List ℕ) (xs ys : List SyntaxToken) (st : State)
    → state_after bytes (xs ++ ys) st ≡ (state_after bytes xs st >>= state_after bytes ys)
unfolding state_after
walked_append bytes [] ys st = refl
walked_append bytes (x ∷ xs) ys st = go (step bytes x st) (λ next. walked_append bytes xs ys next)
  where
    go : (o : Option State)
        → ((next : State) → state_after bytes (xs ++ ys) next ≡ (state_after bytes xs next >>= state_after bytes ys))
        → (o >>= state_after bytes (xs ++ ys)) ≡ ((o >>= state_after bytes xs) >>= state_after bytes ys)
    go None ih = refl
    go (Some n) ih = ih n

pub last_push : (base : List ℕ) (t : ℕ) → last_of (base ++ t ∷ []) ≡ Some t
last_push base t =
    let size : length (base ++ t ∷ []) ≡ length base + 1 = length-append base (t ∷ []) in
    let n : length (base ++ t ∷ []) - 1 ≡ length base = omega arith in
    ap (slice_get (base ++ t ∷ [])) n ∙ get_last base t
