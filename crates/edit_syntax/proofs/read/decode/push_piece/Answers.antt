use Rattle.std.proofs.Common.{◌≡◌, false, true, get_or, drop, sym, ap, ◌∙◌}
use Rattle.std.specs.Prelude.{string_bytes}
use Rattle.std.specs.List.{prefix_len}
use Rattle.edit_syntax.specs.Decoding.{is_spacing}
use Rattle.edit_syntax.proofs.Escapes.{fold_taken, escape_taken}
use Rattle.edit_syntax.proofs.read.decode.push_piece.Goals as goal

pub returns-then-is_in-clause-says : goal.returns-then-is_in-clause-says
returns-then-is_in-clause-says c p rest escaped fine stops spelled =
    let bytes = c.args.bytes.now in
    let here : is_spacing (get_or bytes 1 0) ≡ true = ap is_spacing (sym c.byte_at.ensures) ∙
    sym c.is_in.ensures ∙ c.if-is_in.true in
    let n : c.run_len.result ≡ prefix_len is_spacing (drop 1 bytes) = c.run_len.ensures.len ∙
    ap (prefix_len is_spacing) c.skip.ensures in
    fold_taken p rest bytes (string_bytes c.args.out.now) c.run_len.result escaped fine stops spelled here n

pub returns-clause-says : goal.returns-clause-says
returns-clause-says c p rest escaped fine stops spelled =
    let bytes = c.args.bytes.now in
    let other : is_spacing (get_or bytes 1 0) ≡ false = ap is_spacing (sym c.byte_at.ensures) ∙
    sym c.is_in.ensures ∙ c.if-is_in.false in
    escape_taken p rest bytes (string_bytes c.args.out.now)
    (string_bytes c.push.new.self) c.escape-named.result.0 c.escape-named.result.1 escaped fine spelled other
    (c.in_ok-push.ensures {u = tt}).bytes
    (λ escape basic. c.escape-named.ensures.names p rest escape basic spelled)
