use Rattle.std.proofs.Common.{◌∙◌, Bor, List, Option, ap, map, option_map, ℕ}
use Rattle.std.specs.Prelude.{slice_get}
use Rattle.edit_shown.proofs.LineKindLemmas.{one_more}
use Rattle.edit_shown.specs.LineKinds.{DiffLine, compare_lines_at}
use Rattle.edit_shown.proofs.diff.line_diff.compare_lines.Goals as goal

pub loop-i-preserved : goal.loop-i-preserved
loop-i-preserved c =
    let olds = map (λ (l : Bor (List ℕ)). l.now) c.args.olds.now in
    let news = map (λ (l : Bor (List ℕ)). l.now) c.args.news.now in
    let at : ℕ → List DiffLine = λ i. compare_lines_at (slice_get olds i) (slice_get news i) in
    let here = ap (λ (o : Option (List ℕ)). compare_lines_at o
    (option_map (λ (l : Bor (List ℕ)). l.now) c.line_at-in-loop-i.result)) c.line_at.ensures
    ∙ ap (λ (n : Option (List ℕ)). compare_lines_at (slice_get olds c.loop-i.i) n) c.line_at-in-loop-i.ensures in
    record {
      kinds = one_more (λ line. line.0) at c.loop-i.i _ _ _ c.in_ok-push_at.ensures.kinds
          c.loop-i.invariant.kinds here;
      lines = one_more (λ line. line.1) at c.loop-i.i _ _ _ c.in_ok-push_at.ensures.lines
          c.loop-i.invariant.lines here;
    }
