use Rattle.std.proofs.Common.{◌≡◌, ◌≤◌, true}
use Rattle.std.specs.Prelude.{filter}
use Rattle.edit_store.specs.Store.{IsRaisedCount}
use Rattle.edit_answers.specs.Aging.{remaining_files}
use Rattle.edit_answers.proofs.PruneLemmas.{stays_at}
use Rattle.edit_answers.proofs.pruning.prune.Given as goal

-- the files that have to stay do so and, if the device did not fail, the other files so far are removed
abbrev pub invariant-loop-i : goal.invariant-loop-i
invariant-loop-i g l =
    let old = g.S.AgingStore.aging l.fn.cache in
    let now = g.S.AgingStore.aging l.cache in
    record {
      tells : now.tells ≡ old.tells;
      later : old.faults ≤ now.faults;
      stays : old.tells ≡ true → remaining_files old.files now.files ≡ remaining_files old.files old.files;
      gone : old.tells ≡ true → (IsRaisedCount old.faults now.faults → ⊥)
          → now.files ≡ filter (stays_at old.files l.i) old.files;
    }
