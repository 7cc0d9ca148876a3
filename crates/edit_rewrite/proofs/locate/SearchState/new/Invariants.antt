use Rattle.std.proofs.Common.{◌≡◌, ℕ, length}
use Rattle.std.specs.Prelude.{slice_index}
use Rattle.edit_rewrite.proofs.locate.SearchState.new.Given as goal

-- a zero for each step so far
abbrev pub invariant-steps : goal.invariant-steps
invariant-steps l = (length l.counts.items ≡ l._step) × ((d : ℕ) → slice_index l.counts.items d ≡ 0)
