use Rattle.std.proofs.Common.{◌∙◌, ap, sym}
use Rattle.edit_policy.specs.Holds.{has_hold}
use Rattle.edit_restricted_index.proofs.HoldLemmas.{hold_at}
use Rattle.edit_restricted_index.proofs.holds_by_name.is_hold_among.Goals as goal

pub returns-then-has_hold : goal.returns-then-has_hold
returns-then-has_hold c =
    sym (hold_at c.args.name.now c.args.said.now c.said.held-index c.held-item.result _ c.said-test.true
    c.held-item.is (ap (λ cs. has_hold cs c.args.name.now) (sym c.from_ref.ensures.value)
    ∙ sym c.has_hold.ensures ∙ c.if-has_hold.true))
