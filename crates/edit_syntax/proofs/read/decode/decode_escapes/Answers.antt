use Rattle.std.proofs.Common.{◌≡◌, ◌+◌, ◌<◌, ◌≤◌, ◌++◌, ℕ, List, false, length, take, drop, string_bytes, sym, ap, ◌∙◌, eqb, arith}
use Rattle.std.specs.List.{prefix_len}
use Rattle.std.specs.Str.{IsCharBoundary}
use Rattle.std.proofs.lemmas.Bool.{eqb-true}
use Rattle.std.proofs.lemmas.Bool.Decides.{nat_tests}
use Rattle.edit_syntax.specs.Characters.{quote, is_unescaped}
use Rattle.edit_syntax.specs.Strings.{decoded_piece}
use Rattle.edit_syntax.proofs.Escapes.{Left, turn, done}
use Rattle.edit_syntax.proofs.EscapeRuns.{run_boundary}
use Rattle.edit_syntax.proofs.read.decode.decode_escapes.Goals as goal

pub returns-then-is_empty-clause-text : goal.returns-then-is_empty-clause-text
returns-then-is_empty-clause-text c said says =
    let rest = c.pieces.rest.now in
    let l : Left says.0 rest (string_bytes c.pieces.out) =
    c.pieces.invariant.2 says.0 (record { all = says.1; folds = says.2 }) says.3 in
    let n : c.run_len-run.result ≡ prefix_len is_unescaped rest = c.run_len-run.ensures.len ∙
    ap (prefix_len is_unescaped) c.as_bytes.ensures.value in
    let at : IsCharBoundary rest c.run_len-run.result = rw n (run_boundary rest) in
    let front : c.front.result.now ≡ take (prefix_len is_unescaped rest) rest = c.front.ensures at ∙
    ap (λ (k : ℕ). take k rest) n in
    let back : c.behind-tail.result.now ≡ drop (prefix_len is_unescaped rest) rest =
    c.behind-tail.ensures.text at ∙ ap (λ (k : ℕ). drop k rest) n in
    let over : length c.behind-tail.result.now ≡ 0 = eqb-true _ _
    (sym c.is_empty.ensures ∙ c.if-is_empty.true) in
    c.in_ok-push_str.ensures.bytes ∙
    done says.0 rest (string_bytes c.pieces.out) c.front.result.now c.behind-tail.result.now l front back
    over ∙ sym says.4

pub pieces-preserved : goal.pieces-preserved
pieces-preserved c =
    let rest = c.pieces.rest.now in
    let tail = c.behind-tail.result.now in
    let next = c.behind-rest.result.now in
    let len = c.in_ok-len.len in
    let n : c.run_len-run.result ≡ prefix_len is_unescaped rest = c.run_len-run.ensures.len ∙
    ap (prefix_len is_unescaped) c.as_bytes.ensures.value in
    let at : IsCharBoundary rest c.run_len-run.result = rw n (run_boundary rest) in
    let front : c.front.result.now ≡ take (prefix_len is_unescaped rest) rest = c.front.ensures at ∙
    ap (λ (k : ℕ). take k rest) n in
    let back : tail ≡ drop (prefix_len is_unescaped rest) rest = c.behind-tail.ensures.text at ∙
    ap (λ (k : ℕ). drop k rest) n in
    let more : eqb (length tail) 0 ≡ false = sym c.is_empty.ensures ∙ c.if-is_empty.false in
    let some : 0 < length tail = grind (arith, nat_tests) in
    let here : c.as_bytes-in-pieces.result.now ≡ tail = c.as_bytes-in-pieces.ensures.value in
    let measure : length next + (c.pieces._piece + 1) ≤ length c.args.content.now =
    omega (
      arith,
      c.pieces.invariant.1,
      c.behind-tail.ensures.shorter,
      c.behind-rest.ensures.shorter,
      (c.in_ok-len.ensures {u = tt}).some,
    ) in (
      c.behind-rest.utf8,
      measure,
      λ ps basic spelled.
          let l : Left ps rest (string_bytes c.pieces.out) = c.pieces.invariant.2 ps basic spelled in
          let out : string_bytes c.push_str.new.self ≡ string_bytes c.pieces.out ++ c.front.result.now =
          c.in_ok-push_str.ensures.bytes in
          turn ps rest (string_bytes c.pieces.out) c.front.result.now tail
          (string_bytes c.push_piece.new.out) next len l front back c.behind-tail.utf8 some
          (λ p r escaped fine stops e.
          let t = (c.in_ok-len.ensures {u = tt}).says p r escaped fine stops (here ∙ e) in
          (t.0 ∙ ap (λ (b : List ℕ). b ++ decoded_piece quote p) out, t.1))
          c.behind-rest.ensures.text,
    )
