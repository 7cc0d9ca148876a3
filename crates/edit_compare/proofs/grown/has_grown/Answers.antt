use Rattle.edit_document.specs.Items.{place_view}
use Rattle.edit_document.specs.NewItemViews.{new_value_view}
use Rattle.edit_compare.proofs.GrownTrees.{grown_there, grown_nowhere}
use Rattle.edit_compare.proofs.grown.has_grown.Goals as goal

pub returns-in-Some : goal.returns-in-Some
returns-in-Some c =
    grown_there c.args.document.now c.args.other.now (place_view c.args.place.now) c.args.key.now
    (new_value_view c.args.value.now) c.in-Some.number c.in-Some.there c.grown_here.result
    (c.in-Some.ensures {u = tt})
    c.grown_here.ensures

pub returns-in-None : goal.returns-in-None
returns-in-None c = (
  λ e. absurd cc,
  λ h. absurd (grown_nowhere c.args.document.now c.args.other.now (place_view c.args.place.now) c.args.key.now
      (new_value_view c.args.value.now) (c.in-None.ensures {u = tt}) h),
)
