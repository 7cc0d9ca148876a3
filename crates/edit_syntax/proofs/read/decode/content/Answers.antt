use Rattle.std.proofs.Common.{◌+◌, length, ap, ◌∙◌, arith}
use Rattle.std.specs.Borrow.{Bor}
use Rattle.edit_syntax.proofs.DelimitedContents.{IsContentAt, content_found, content_range, got_content}
use Rattle.edit_syntax.proofs.read.decode.content.Goals as goal

pub returns : goal.returns
returns c before content rest said spelled from to says =
    let text = c.args.text.now in
    let kind = c.args.token.kind in
    let d = c.delimiter_len-width.result in
    let range = content_range kind before content rest (length text) c.args.token.from c.args.token.to d
    (ap length spelled) from to c.delimiter_len-width.ensures in
    let i = c.saturating_sub.result + d in
    let j = c.saturating_sub-end.result in
    let at : IsContentAt text content i j =
    content_found kind text before content rest said i j c.utf8.text spelled says (omega (arith, range.0))
    (omega (arith, range.0, range.1)) in
    ap (λ (b : Bor _). b.now) c.unwrap_or.ensures ∙
    got_content text content i j c.get.result _ at c.get.ensures.cases
