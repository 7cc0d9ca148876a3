use Rattle.edit_syntax.specs.Spans.{bytes_at}
use Rattle.edit_syntax.proofs.DecodedSpans.{unequal}
use Rattle.edit_tree.proofs.nodes.is_span_text.Goals as goal

pub returns-then-not-may_have : goal.returns-then-not-may_have
returns-then-not-may_have c =
    unequal c.args.name.now (bytes_at c.args.text.now c.args.span) c.may_have.result c.may_have.ensures
    c.if-not-may_have.true
