use Rattle.std.proofs.Common.{[]}
use Rattle.edit_manifest.proofs.key_places.item_at.Goals as goal

pub returns : goal.returns
returns c = c.item_below.ensures _ (c.item_below-table.ensures _
    (c.item_below-upper.ensures [] c.item-root.ensures))
