use Rattle.std.proofs.Common.{ℕ, List, sym, ap, ◌∙◌}
use Rattle.std.specs.Prelude.{slice_get}
use Rattle.edit_tree.specs.Assertions.{key, at}
use Rattle.edit_tree.specs.DocumentViews.{tree_of}
use Rattle.edit_document.specs.Items.{node_place, node_view, names_in}
use Rattle.edit_document.specs.NewItemViews.{new_pair_view}
use Rattle.edit_document.proofs.ShownItems.{pair_missed}
use Rattle.edit_compare.proofs.changed.shows_member.Goals as goal

pub returns-in-None : goal.returns-in-None
returns-in-None c =
    let p = node_place c.args.document.now c.args.number in
    let none = ap (λ (n : List ℕ). tree_of c.args.document.now (at p (key n))) (sym c.as_str-name.ensures.value)
    ∙ c.in-None.ensures {u = tt} in (
      λ e. absurd cc,
      λ h. absurd (pair_missed c.args.document.now p
          (slice_get (names_in (node_view c.args.document.now c.args.number)) c.args.index)
          (new_pair_view c.args.member.now) none h),
    )
