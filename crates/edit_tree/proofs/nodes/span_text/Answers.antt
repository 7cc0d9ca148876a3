use Rattle.edit_syntax.specs.Spans.{bytes_at}
use Rattle.edit_tree.proofs.nodes.span_text.Goals as goal

pub returns : goal.returns
unfolding bytes_at
returns c = c.between.ensures
