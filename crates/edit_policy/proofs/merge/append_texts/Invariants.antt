use Rattle.std.proofs.Common.{◌≡◌, ◌++◌, map, string_bytes, take}
use Rattle.edit_policy.proofs.merge.append_texts.Given as goal

abbrev pub invariant-texts : goal.invariant-texts
invariant-texts l = map string_bytes l.all.items
    ≡ map string_bytes l.initial.all.items ++ map string_bytes (take l.text-index l.texts)
