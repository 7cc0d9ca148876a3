-- Faults count from an earlier state on.
use Rattle.std.proofs.Common.{ℕ, ◌≤◌, ⊎_elim, inl, inr, arith, ◌∙◌}
use Rattle.std.proofs.Math.Nat.{eq-or-lt_of_le}
use Rattle.edit_base.specs.declared.errors.DeviceCall.{DeviceCall}
use Rattle.edit_base.specs.declared.errors.Error.{Error}
use Rattle.edit_store.specs.Store.{IsRaisedCount}
use Rattle.edit_manifest.specs.Located.{IsFault}

raised_later : (a b c : ℕ) → a ≤ b → IsRaisedCount b c → IsRaisedCount a c
raised_later a b c le (inl lt) = inl (omega arith)
raised_later a b c le (inr ends) = ⊎_elim (λ same. inr (same ∙ ends.0, ends.1)) (λ lt. inl (omega arith))
    (eq-or-lt_of_le le)

-- a fault of a call is one from an earlier count on
pub fault_later : (call : DeviceCall) (a b c : ℕ) (e : Error) → a ≤ b → IsFault call b c e
    → IsFault call a c e
fault_later call a b c e le (inl memory) = inl memory
fault_later call a b c e le (inr failed) = inr (failed.0, raised_later a b c le failed.1)
