use Rattle.std.proofs.Common.{◌≡◌, ℕ, List, take}
use Rattle.std.specs.BTreeSet.{contains_text}
use Rattle.edit_lock_bounds.specs.Changes.{is_text_of}
use Rattle.edit_lock_bounds.specs.Views.{texts_view}
use Rattle.edit_lock_bounds.proofs.changes.set_of.Given as goal

abbrev pub invariant-texts : goal.invariant-texts
invariant-texts l = (q : List ℕ) → contains_text l.set q ≡ is_text_of (texts_view (take l.text-index l.texts)) q
