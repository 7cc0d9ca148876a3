use Rattle.std.proofs.Common.{◌≡◌, Bor, List, ℕ, map, take}
use Rattle.std.specs.Prelude.{string_bytes}
use Rattle.edit_program.proofs.lookups.copied_texts.Given as goal

abbrev pub invariant-texts : goal.invariant-texts
invariant-texts l = map string_bytes l.copies.items ≡ map (λ (t : Bor (List ℕ)). t.now) (take l.text-index l.texts)
