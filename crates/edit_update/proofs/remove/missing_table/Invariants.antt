use Rattle.std.proofs.Common.{◌≡◌, [], drop, map}
use Rattle.std.specs.Prelude.{string_bytes}
use Rattle.edit_tree.specs.Assertions.{Place as PlaceSeen}
use Rattle.edit_document.specs.ItemViews.{Finds}
use Rattle.edit_tree.specs.DocumentViews.{tree_of}
use Rattle.edit_update.specs.RemovedEntries.{missing_below}
use Rattle.edit_update.proofs.remove.missing_table.Given as goal

abbrev pub invariant-steps : goal.invariant-steps
invariant-steps l = record {
  place : PlaceSeen;
  found : Finds l.document place l.item;
  rest : missing_below (tree_of l.document) [] (map string_bytes l.table_path)
      ≡ missing_below (tree_of l.document) place (map string_bytes (drop l.step-index l.table_path));
}
