-- A string stays at its place when an item is removed that neither contains it nor moves it.
use Rattle.std.proofs.Common.{◌≡◌, ℕ, List, Option, Some, sym, ap, ◌∙◌}
use Rattle.edit_syntax.specs.Grammar.{Text}
use Rattle.edit_tree.specs.Assertions.{Place}
use Rattle.edit_tree.specs.IntendedTrees.{Tree, Removed, SameButOrder, same, tables, inline_tables, place_after_removal}
use Rattle.edit_tree.specs.Tree.{View, string}
use Rattle.edit_update.specs.Removals.{HasString, IsUnmovedBy}

same_string : (o w : Option View) (text : List ℕ) → o ≡ Some (string text) → SameButOrder o w
    → w ≡ Some (string text)
same_string _ _ text e (same v) = e
same_string _ _ text e (tables ms ns h) = absurd cc
same_string _ _ text e (inline_tables ms ns h) = absurd cc

pub string_stays : (form : Text) (gone q : Place) (old new : Tree) → Removed form gone old new
    → IsUnmovedBy gone q → HasString old q → HasString new q
string_stays form gone q old new removed out h = (
  h.0,
  ap new (sym out.2) ∙ same_string (old q) (new (place_after_removal gone q)) h.0 h.1 (removed.beside q out.0 out.1),
)
