use Rattle.std.proofs.Common.{◌≡◌, drop, map}
use Rattle.edit_lock_bounds.specs.Changes.{is_text_of}
use Rattle.edit_lock_bounds.proofs.facts.is_one_of.Given as goal

abbrev pub invariant-texts : goal.invariant-texts
invariant-texts l = is_text_of (map (λ t. t.now) l.texts) l.text
    ≡ is_text_of (map (λ t. t.now) (drop l.other-index l.texts)) l.text
