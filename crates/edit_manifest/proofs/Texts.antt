-- Equal texts, and tests of which one holds.
use Rattle.std.proofs.Common.{◌≡◌, ℕ, List, Bool, true, false, refl, sym, ◌∙◌, inl, inr, ◌⊎◌}
use Rattle.std.specs.Prelude.{◌||◌}
use Rattle.std.specs.Str.{bytes_eq}
use Rattle.edit_document.proofs.EntryPartViews.{same_texts}
use Rattle.edit_tree.proofs.SamePlace.{same_bytes_is}

pub or-cases : (a b : Bool) → (a || b) ≡ true → (a ≡ true) ⊎ (b ≡ true)
or-cases true b h = inl refl
or-cases false b h = inr h

pub bytes-is : (a b : List ℕ) → bytes_eq a b ≡ true → a ≡ b
bytes-is a b h = same_bytes_is a b (sym (same_texts a b) ∙ h)
