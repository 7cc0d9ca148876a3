use Rattle.edit_document.specs.Items.{place_view}
use Rattle.edit_document.specs.NewItemViews.{new_item_view}
use Rattle.edit_compare.proofs.ReplacedEntries.{replaced_there, replaced_nowhere}
use Rattle.edit_compare.proofs.changed.has_replaced.Goals as goal

pub returns-in-Some : goal.returns-in-Some
returns-in-Some c =
    replaced_there c.args.document.now c.args.other.now (place_view c.args.place.now) (new_item_view c.args.item.now)
    c.in-Some._number c.in-Some.there c.is_inline_above-inside.result c.shows_item.result
    c.is_inline_above-inside.ensures (c.in-Some.ensures {u = tt}) c.shows_item.ensures

pub returns-in-None : goal.returns-in-None
returns-in-None c = (
  λ e. absurd cc,
  λ h. absurd (replaced_nowhere c.args.document.now c.args.other.now (place_view c.args.place.now)
      (new_item_view c.args.item.now) (c.in-None.ensures {u = tt}) h),
)
