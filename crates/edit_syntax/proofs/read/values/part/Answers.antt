use Rattle.edit_syntax.proofs.NotedTokens.{part_noted}
use Rattle.edit_syntax.proofs.read.values.part.Goals as goal

pub returns : goal.returns
returns c = part_noted c.args.out.now.items c.append_token.new.out.items c.in-Some.kind c.args.s.now
    c.in-Some.rest.now c.in-Some.ensures c.in_ok-append_token.ensures
