use Rattle.std.proofs.Common.{◌≡◌, ℕ, List, Option, Some, sym, subst, ◌∙◌}
use Rattle.std.specs.Bool.{Decides}
use Rattle.edit_document.proofs.ShownValues.{string_decides, string_kind}
use Rattle.edit_compare.proofs.new_content.shows_string.Goals as goal

pub returns-then-kind-ne0 : goal.returns-then-kind-ne0
returns-then-kind-ne0 c = (
  λ e. absurd cc,
  λ h. absurd (c.if-kind-ne0.true
      (c.kind.ensures ∙ string_kind c.args.document.now c.args.number c.lemma_exists.ensures c.args.said.now h)),
)

pub returns : goal.returns
returns c =
    string_decides c.args.document.now c.args.number c.lemma_exists.ensures c.lemma_tree.ensures.below
    c.lemma_children.ensures.parts
    c.args.said.now c.is_same_text.result (sym c.kind.ensures ∙ c.if-kind-ne0.false)
    (subst (λ (o : Option (List ℕ)). Decides c.is_same_text.result (o ≡ Some c.args.said.now)) c.scalar_text.ensures
    c.is_same_text.ensures)
