use Rattle.std.proofs.Common.{◌++◌, ◌∙◌, Bor, List, ap, append_assoc, arith, map, sym, ℕ}
use Rattle.std.specs.List.{flat_map, range_with_len}
use Rattle.edit_shown.proofs.LineKindLemmas.{counted_more, pieces_more}
use Rattle.edit_shown.specs.Hunks.{text_at}
use Rattle.edit_shown.proofs.diff.hunks.push_parts.Goals as goal

pub loop-i-preserved : goal.loop-i-preserved
loop-i-preserved c =
    let piece = text_at c.args.kinds.now (map (λ (l : Bor (List ℕ)). l.now) c.args.lines.now) in
    let front = flat_map piece (range_with_len 0 c.loop-i.i) in
    record {
      text = c.in_ok-push_at.ensures.ok
          ∙ ap (λ (t : List ℕ). t ++ piece c.loop-i.i) c.loop-i.invariant.text
          ∙ append_assoc c.args.text.now.items front (piece c.loop-i.i)
          ∙ sym (ap (λ (t : List ℕ). c.args.text.now.items ++ t) (pieces_more piece c.loop-i.i));
      counted = counted_more c.args.kinds.now c.loop-i.i _ c.loop-i.before.old c.loop-i.before.new
          c.counts_after-before.result.old c.counts_after-before.result.new (omega arith)
          c.loop-i.invariant.counted c.counts_after-before.ensures.old c.counts_after-before.ensures.new;
    }
