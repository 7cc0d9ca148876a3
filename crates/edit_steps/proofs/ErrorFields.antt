-- The fields of an error that is made from another.
use Rattle.std.proofs.Common.{◌≡◌, Result, Ok, Err, subst, sym}
use Rattle.std.specs.Prelude.{IfErr, IsErrAnd, OnErr}
use Rattle.edit_base.specs.declared.errors.Error.{Error}
use Rattle.edit_steps.specs.declared.run_error.RunError.{RunError}

-- an error that is passed on has the cause of the original error
pub failure_has : {T : Type 0} (r : Result T RunError) (e : RunError) (P : Error → Type 0)
    → IsErrAnd r (λ other. other ≡ e) → P e.error → IfErr r (λ x. P x.error)
failure_has (Ok x) e P same h = tt
failure_has (Err other) e P same h = subst (λ (x : RunError). P x.error) (sym same) h

-- and so has one that was made of an error
pub failure_made : {T : Type 0} (r : Result T RunError) (e : Error) (P : Error → Type 0)
    → IsErrAnd r (λ other. other.error ≡ e) → P e → IfErr r (λ x. P x.error)
failure_made (Ok x) e P same h = tt
failure_made (Err other) e P same h = subst P (sym same) h

-- what holds in any case holds of an error
pub on_failure : {T E : Type 0} (r : Result T E) (P : Type 0) → P → OnErr r P
on_failure (Ok x) P h = tt
on_failure (Err e) P h = h
