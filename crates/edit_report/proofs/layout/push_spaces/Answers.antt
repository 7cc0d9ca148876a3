use Rattle.std.proofs.Common.{◌≡◌, ◌++◌, ◌∙◌, ap, replicate, List, ℕ, ◌+◌, ◌*◌, ◌/◌, ◌%◌, arith, append_assoc}
use Rattle.std.specs.Prelude.{string_bytes}
use Rattle.std.proofs.lemmas.List.{replicate-append-replicate}
use Rattle.std.proofs.Math.Nat.{div-add-mod}
use Rattle.edit_report.proofs.layout.push_spaces.Goals as goal

pub loop-i-preserved : goal.loop-i-preserved
loop-i-preserved c =
    let i = c.loop-i._i in
    let old = string_bytes c.args.text.now in
    let e : 64 * i + 64 ≡ 64 * (i + 1) = omega arith in
    c.in_ok-push_str.ensures.bytes
    ∙ ap (λ (t : List ℕ). t ++ replicate 64 32) c.loop-i.invariant
    ∙ append_assoc old (replicate (64 * i) 32) (replicate 64 32)
    ∙ ap (λ (t : List ℕ). old ++ t) (replicate-append-replicate (64 * i) 64 32 ∙ ap (λ n. replicate n 32) e)

pub returns : goal.returns
returns c =
    let count = c.args.count in
    let old = string_bytes c.args.text.now in
    let i : c.loop-i._i ≡ count / 64 = omega (arith, c.loop-i-test.false, c.loop-i.auto._i-end) in
    let j : c.loop-j._j ≡ count % 64 = omega (arith, c.loop-j-test.false, c.loop-j.auto._j-end) in
    let e : 64 * c.loop-i._i + c.loop-j._j ≡ count =
    ap (λ n. 64 * n + c.loop-j._j) i ∙ ap (λ n. 64 * (count / 64) + n) j ∙ div-add-mod count 64 in
    record {
      ok = c.loop-j.invariant
          ∙ ap (λ (t : List ℕ). t ++ replicate c.loop-j._j 32) c.loop-i.invariant
          ∙ append_assoc old (replicate (64 * c.loop-i._i) 32) (replicate c.loop-j._j 32)
          ∙ ap (λ (t : List ℕ). old ++ t)
          (replicate-append-replicate (64 * c.loop-i._i) c.loop-j._j 32 ∙ ap (λ n. replicate n 32) e);
    }
