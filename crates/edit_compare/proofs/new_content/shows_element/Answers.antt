use Rattle.edit_tree.specs.Assertions.{index, at}
use Rattle.edit_document.specs.Items.{node_place}
use Rattle.edit_tree.specs.NewItems.{a_string}
use Rattle.edit_document.proofs.ShownValues.{shown_at, unshown_at}
use Rattle.edit_compare.proofs.new_content.shows_element.Goals as goal

pub returns-in-Some : goal.returns-in-Some
returns-in-Some c =
    shown_at c.args.document.now (at (node_place c.args.document.now c.args.number) (index c.args.index))
    c.in-Some.element
    (a_string c.args.said.now) c.shows_string.result (c.in-Some.ensures {u = tt}) c.shows_string.ensures

pub returns-in-None : goal.returns-in-None
returns-in-None c = (
  λ e. absurd cc,
  λ h. absurd (unshown_at c.args.document.now
      (at (node_place c.args.document.now c.args.number) (index c.args.index))
      (a_string c.args.said.now) (c.in-None.ensures {u = tt}) h),
)
