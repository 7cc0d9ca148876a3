use Rattle.std.proofs.Common.{subst}
use Rattle.edit_tree.specs.Assertions.{Place}
use Rattle.edit_document.specs.Compared.{ShowsValue}
use Rattle.edit_document.specs.NewItemViews.{new_value_view}
use Rattle.edit_compare.proofs.GrownTrees.{inserted_here, inserted_parts}
use Rattle.edit_compare.proofs.grown.grown_here.Goals as goal

pub returns : goal.returns
returns c =
    let v = new_value_view c.args.value.now in
    let shows = subst (λ (p : Place). ShowsValue c.args.other.now p v) (c.in-Some.ensures {u = tt}).1
    (c.shows_value.ensures.0 c.if-not-shows_value.false) in (
      λ e. inserted_here c.args.document.now c.args.number c.args.other.now c.args.there c.args.key.now v
          c.lemma_exists.ensures
          c.lemma_exists-2.ensures c.lemma_tree.ensures.below c.lemma_tree-2.ensures.below c.lemma_children.ensures.parts
          c.lemma_children-2.ensures.parts shows (c.grown_names.ensures.0 c.if-not-grown_names.false)
          (c.same_parts.ensures.0 e),
      λ h. c.same_parts.ensures.1 (inserted_parts c.args.document.now c.args.number c.args.other.now c.args.there
          c.args.key.now v c.lemma_exists.ensures c.lemma_exists-2.ensures c.lemma_children.ensures.stands c.requires.absent h),
    )
