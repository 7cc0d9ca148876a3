use Rattle.std.proofs.Common.{◌∷◌, drop, map, Some, ap, sym, ◌+◌, ◌∙◌}
use Rattle.std.specs.Prelude.{string_bytes}
use Rattle.edit_tree.specs.Assertions.{at, key}
use Rattle.edit_tree.specs.DocumentViews.{tree_of}
use Rattle.edit_update.proofs.ItemSteps.{left_map}
use Rattle.edit_update.proofs.MissingTables.{missing_next, missing_here}
use Rattle.edit_update.proofs.remove.missing_table.Goals as goal

pub steps-preserved : goal.steps-preserved
steps-preserved c =
    let inv = c.steps.invariant in
    let name = c.as_str.result.now in
    let rest = map string_bytes (drop (c.steps.step-index + 1) c.args.table_path.now) in
    let found = c.item_below-item.ensures inv.place inv.found in
    let is = c.is_table.ensures c.args.document.now (at inv.place (key name)) found in
    record {
      place = at inv.place (key name);
      found = found;
      rest = inv.rest ∙ missing_next (tree_of c.args.document.now) inv.place _ name rest
          (left_map string_bytes c.args.table_path.now c.steps.step-index c.step-item.result c.steps-test.true
          c.step-item.is ∙ ap (λ n. n ∷ rest) (sym c.as_str.ensures.value))
          (sym is ∙ c.if-not-is_table.false);
    }

pub returns-then-not-is_table : goal.returns-then-not-is_table
returns-then-not-is_table c =
    let inv = c.steps.invariant in
    let name = c.as_str.result.now in
    let rest = map string_bytes (drop (c.steps.step-index + 1) c.args.table_path.now) in
    let found = c.item_below-item.ensures inv.place inv.found in
    let is = c.is_table.ensures c.args.document.now (at inv.place (key name)) found in
    ap Some (c.as_str-then-not-is_table.ensures.value ∙ sym c.as_str.ensures.value)
    ∙ sym (inv.rest ∙ missing_here (tree_of c.args.document.now) inv.place _ name rest
    (left_map string_bytes c.args.table_path.now c.steps.step-index c.step-item.result c.steps-test.true
    c.step-item.is ∙ ap (λ n. n ∷ rest) (sym c.as_str.ensures.value))
    (sym is ∙ c.if-not-is_table.true))
