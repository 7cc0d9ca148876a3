use Rattle.std.proofs.Common.{◌≡◌, ℕ, ◌<◌, None, take}
use Rattle.std.specs.List.{Contains}
use Rattle.edit_syntax.specs.Grammar.{Text}
use Rattle.edit_tree.specs.EditBytes.{part_to}
use Rattle.edit_document.specs.Items.{place_view}
use Rattle.edit_tree.specs.Assertions.{IsDocument}
use Rattle.edit_tree.specs.Statements.{PlacedPair, inner_pairs}
use Rattle.edit_rewrite.proofs.replace_entry.inline_offsets.Given as goal

-- no pair in the inline tables at the fronts so far names the place
abbrev pub invariant-ends : goal.invariant-ends
invariant-ends l = (form : Text) → IsDocument l.document.bytes form → (p : PlacedPair) → Contains (inner_pairs form) p
    → (n : ℕ) → n < l.end → p.table ≡ take n (place_view l.place) → part_to (place_view l.place) p ≡ None
