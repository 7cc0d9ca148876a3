use Rattle.std.proofs.Common.{sym, ◌∙◌}
use Rattle.edit_document.specs.Items.{node_place}
use Rattle.edit_compare.proofs.RemainingParts.{named_remains}
use Rattle.edit_compare.proofs.RemainingSteps.{parts_remain}
use Rattle.edit_compare.proofs.remaining_parts.is_remaining.Goals as goal

pub returns-then-is_named : goal.returns-then-is_named
returns-then-is_named c form t manifest stands =
    named_remains form (node_place c.args.document.now c.args.number) c.requires.inner t
    (sym (c.is_named.ensures form manifest) ∙ c.if-is_named.true)

pub returns : goal.returns
returns c form t manifest stands =
    parts_remain c.args.document.now c.args.number form (c.lemma_form.ensures.shows form manifest) c.requires.inner
    c.lemma_children.ensures.parts c.lemma_children.ensures.stands c.lemma_children.ensures.steps c.lemma_unique_names.ensures
    (sym (c.is_named.ensures form manifest) ∙ c.if-is_named.false) t stands c.member_count.result
    c.member_count.ensures
