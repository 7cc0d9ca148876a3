use Rattle.std.proofs.Common.{lit<, append_assoc, arith}
use Rattle.std.proofs.lemmas.Grind.{common_steps}
use Rattle.edit_tree.proofs.LiteralBytes.{literal_parts}
use Rattle.edit_document.proofs.literal.push_literal.Goals as goal

pub returns : goal.returns
returns c =
    let quote_is = c.push.ensures.ascii (lit< tt) in
    let parts = literal_parts c.args.text.now in
    rw parts (grind (arith, common_steps, append_assoc))
