use Rattle.std.proofs.Common.{◌≡◌, ℕ, ◌<◌, length, ap₂, ◌∙◌, eq-eqb, arith}
use Rattle.edit_syntax.specs.Spans.{cut_from, bytes_at}
use Rattle.edit_syntax.proofs.DecodedSpans.{cut_length}
use Rattle.edit_tree.proofs.nodes.may_have.Goals as goal

pub returns : goal.returns
unfolding bytes_at
returns c long =
    let text = c.args.text.now in
    let i = c.saturating_sub-start.result in
    let j = c.saturating_sub-end.result in
    let same : length (cut_from text i j) ≡ c.args.len =
    ap₂ (λ (m : ℕ) (n : ℕ). length (cut_from text m n)) c.saturating_sub-start.ensures
    c.saturating_sub-end.ensures ∙ long in
    let some : 0 < c.args.len = omega arith in
    let made = cut_length text i j c.args.len same some in
    let equal : c.saturating_sub.result ≡ c.args.len = let e = c.saturating_sub.ensures in omega arith in
    eq-eqb c.saturating_sub.result c.args.len equal
