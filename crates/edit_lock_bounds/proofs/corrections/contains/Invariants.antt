use Rattle.std.proofs.Common.{◌≡◌, drop}
use Rattle.edit_lock_bounds.specs.Changes.{is_text_of}
use Rattle.edit_lock_bounds.specs.Views.{texts_view}
use Rattle.edit_lock_bounds.proofs.corrections.contains.Given as goal

abbrev pub invariant-texts : goal.invariant-texts
invariant-texts l = is_text_of (texts_view l.texts) l.text ≡ is_text_of (texts_view (drop l.other-index l.texts)) l.text
