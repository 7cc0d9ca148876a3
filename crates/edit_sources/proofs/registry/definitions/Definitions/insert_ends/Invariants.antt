use Rattle.std.proofs.Common.{◌≡◌, ℕ, List, Some, cond, take}
use Rattle.edit_base.specs.Paths.{texts}
use Rattle.edit_sources.specs.SourceReplacement.{is_used}
use Rattle.edit_sources.specs.Definitions.{end_at}
use Rattle.edit_sources.proofs.registry.definitions.Definitions.insert_ends.Given as goal

abbrev pub invariant-loop-key : goal.invariant-loop-key
invariant-loop-key l = record {
  left : l.self.left ≡ l.fn.self.left;
  ends : (q : List ℕ) → end_at l.self q
      ≡ cond (is_used (texts (take l.key-index l.keys)) q) (Some l.address) (end_at l.fn.self q);
}
