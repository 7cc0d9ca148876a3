use Rattle.std.proofs.Common.{◌≡◌, ◌+◌, length, length-append, arith, ◌++◌}
use Rattle.edit_syntax.specs.Decoding.{delimiter}
use Rattle.edit_syntax.proofs.DecodedSpans.{content_read}
use Rattle.edit_syntax.proofs.read.decode.content_span.Goals as goal

pub returns : goal.returns
returns c text before content rest said utf8 spelled from to says =
    let d = delimiter c.args.token.kind in
    let width = c.delimiter_len-width.ensures in
    let a = length-append d (content ++ (d ++ rest)) in
    let b = length-append content (d ++ rest) in
    let k = length-append d rest in
    let ends : c.saturating_add.result ≡ length rest + c.delimiter_len-width.result = let e =
    c.saturating_add.ensures in omega arith in
    content_read c.args.token.kind text before content rest said c.args.token.from c.delimiter_len-width.result
    _ utf8 spelled from says width c.saturating_sub.ensures ends
