use Rattle.std.proofs.Common.{Bool, true, false, eqb, sym, subst}
use Rattle.std.specs.Bool.{Decides}
use Rattle.edit_document.specs.Items.{node_place}
use Rattle.edit_tree.specs.NewItems.{a_truth}
use Rattle.edit_document.specs.Compared.{ShowsValue}
use Rattle.edit_document.proofs.ShownValues.{truth_decides}
use Rattle.edit_compare.proofs.new_content.shows_truth.Goals as goal

pub returns-then-truth : goal.returns-then-truth
returns-then-truth c =
    subst (λ (b : Bool). Decides (eqb c.kind-kind.result 2)
    (ShowsValue c.args.document.now (node_place c.args.document.now c.args.number) (a_truth b)))
    (sym c.if-truth.true)
    (truth_decides c.args.document.now c.args.number c.lemma_exists.ensures c.lemma_tree.ensures.below
    c.lemma_children.ensures.parts true
    c.kind-kind.result c.kind-kind.ensures)

pub returns-else-truth : goal.returns-else-truth
returns-else-truth c =
    subst (λ (b : Bool). Decides (eqb c.kind-kind.result 1)
    (ShowsValue c.args.document.now (node_place c.args.document.now c.args.number) (a_truth b)))
    (sym c.if-truth.false)
    (truth_decides c.args.document.now c.args.number c.lemma_exists.ensures c.lemma_tree.ensures.below
    c.lemma_children.ensures.parts false
    c.kind-kind.result c.kind-kind.ensures)
