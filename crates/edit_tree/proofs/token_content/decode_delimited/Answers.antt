use Rattle.std.proofs.Common.{ℕ, List, sym, ap, subst, ◌∙◌}
use Rattle.std.specs.Prelude.{string_bytes}
use Rattle.edit_syntax.specs.Decoding.{HasDecodedValue}
use Rattle.edit_tree.proofs.token_content.decode_delimited.Goals as goal

pub returns-then-is_plain-clause-says : goal.returns-then-is_plain-clause-says
returns-then-is_plain-clause-says c name (before, content, rest, spelled, from, to, says) =
    let seen = c.content-written.ensures before content rest name spelled from to says in
    let said = subst (λ (b : List ℕ). HasDecodedValue c.args.token.kind b name) (sym seen) says in
    let plain = c.is_plain.ensures.written name said c.if-is_plain.true in
    c.content_span.ensures c.args.text.now before content rest name c.utf8.text spelled from to says ∙
    sym seen ∙ plain

pub returns-in_ok-new-clause-says : goal.returns-in_ok-new-clause-says
returns-in_ok-new-clause-says c name (before, content, rest, spelled, from, to, says) =
    let seen = c.content-written.ensures before content rest name spelled from to says in
    ap string_bytes (c.in_ok-new.ensures {u = tt}).ok ∙ (c.in_ok-decoded_text.ensures {u = tt}).text name
    (subst (λ (b : List ℕ). HasDecodedValue c.args.token.kind b name) (sym seen) says)
