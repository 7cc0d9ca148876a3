use Rattle.std.proofs.Common.{◌≡◌, Bor, List, [], ap, arith, map, string_bytes, subst, ℕ}
use Rattle.std.proofs.lemmas.List.{take_all}
use Rattle.edit_program.proofs.CopyLemmas.{one_more}
use Rattle.edit_program.proofs.lookups.copied_texts.Goals as goal

pub texts-init : goal.texts-init
texts-init c = ap (map string_bytes) c.new-copies.ensures.items

pub texts-preserved : goal.texts-preserved
texts-preserved c = one_more string_bytes (λ (t : Bor (List ℕ)). t.now) c.texts.copies.items
    c.push.new.self.items _ c.args.texts.now c.texts.text-index (record { ref_ptr = (0, 0); now = [] })
    c.texts-test.true c.in_ok-from_str.ensures.ok c.in_ok-push.ensures.items c.texts.invariant

pub returns : goal.returns
returns c =
    subst (λ (xs : List (Bor (List ℕ))).
    map string_bytes c.texts.copies.items ≡ map (λ (t : Bor (List ℕ)). t.now) xs)
    (take_all c.texts.text-index c.args.texts.now (omega (arith, c.texts-test.false))) c.texts.invariant
