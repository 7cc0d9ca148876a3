use Rattle.std.proofs.Common.{Bor, List, ℕ, []}
use Rattle.edit_sources.proofs.KeyLemmas.{ends_more}
use Rattle.edit_sources.proofs.registry.definitions.Definitions.insert_ends.Goals as goal

pub loop-key-preserved : goal.loop-key-preserved
loop-key-preserved c =
    let d : Bor (List ℕ) = record { ref_ptr = (0, 0); now = [] } in
    record {
      left = c.loop-key.invariant.left;
      ends = ends_more c.args.self.now c.loop-key.self (record c.loop-key.self { ends = c.insert.new.self })
          c.args.keys.now c.loop-key.key-index d c.args.address c.loop-key-test.true
          c.loop-key.invariant.ends c.in_ok-insert.ensures.updates;
    }
