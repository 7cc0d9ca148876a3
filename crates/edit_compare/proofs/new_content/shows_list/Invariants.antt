use Rattle.std.proofs.Common.{◌≡◌, ℕ, ◌<◌, List, Some, map}
use Rattle.std.specs.Prelude.{slice_get, string_bytes}
use Rattle.edit_tree.specs.Assertions.{index, at}
use Rattle.edit_document.specs.Items.{node_place}
use Rattle.edit_tree.specs.NewItems.{a_string}
use Rattle.edit_document.specs.Compared.{ShowsValue}
use Rattle.edit_compare.proofs.new_content.shows_list.Given as goal

-- the elements so far show their strings
abbrev pub invariant-texts : goal.invariant-texts
invariant-texts l =
    (i : ℕ) (s : List ℕ) → i < l.index → slice_get (map string_bytes l.list) i ≡ Some s
    → ShowsValue l.document (at (node_place l.document l.number) (index i)) (a_string s)
