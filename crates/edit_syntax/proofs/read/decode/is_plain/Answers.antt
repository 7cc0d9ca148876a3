use Rattle.std.proofs.Common.{◌≡◌, ◌≤◌, length, ap, ◌∙◌, arith}
use Rattle.std.specs.List.{prefix_len}
use Rattle.std.proofs.lemmas.Bool.Decides.{nat_tests}
use Rattle.edit_syntax.specs.Characters.{is_unescaped}
use Rattle.edit_syntax.proofs.DecodedSpans.{plain_basic}
use Rattle.edit_syntax.proofs.OwnContents.{own_basic}
use Rattle.edit_syntax.proofs.read.decode.is_plain.Goals as goal

pub returns-in-BasicPart-clause-written : goal.returns-in-BasicPart-clause-written
returns-in-BasicPart-clause-written c said says test =
    let run : c.run_len.result ≡ prefix_len is_unescaped c.args.content.now = c.run_len.ensures.len ∙
    ap (prefix_len is_unescaped) c.as_bytes.ensures.value in
    let all : length c.args.content.now ≤ c.run_len.result = grind (arith, nat_tests) in
    plain_basic c.args.kind c.args.content.now said c.in-BasicPart.is says (omega arith)

pub returns-in-BasicPart-clause-found : goal.returns-in-BasicPart-clause-found
returns-in-BasicPart-clause-found c one says =
    let run : c.run_len.result ≡ prefix_len is_unescaped c.args.content.now = c.run_len.ensures.len ∙
    ap (prefix_len is_unescaped) c.as_bytes.ensures.value in
    let all = own_basic c.args.kind c.args.content.now c.in-BasicPart.is says in
    grind (arith, nat_tests)
