use Rattle.std.proofs.Common.{◌≡◌, ◌∙◌, ap, false, rules, sym}
use Rattle.edit_policy.specs.Holds.{passes_holds}
use Rattle.edit_restricted_index.proofs.HoldLemmas.{excluded_at}
use Rattle.edit_restricted_index.proofs.holds_by_name.admit_all.Goals as goal

pub returns-then-not-branch-clause-ok : goal.returns-then-not-branch-clause-ok
returns-then-not-branch-clause-ok c =
    let excluded : c.in_ok-passes_holds.field-0 ≡ false = search rules in
    sym (excluded_at c.args.name.now c.args.version.now c.args.said.now c.said.held-index c.held-item.result _
    c.said-test.true c.held-item.is
    (ap (λ cs. passes_holds cs c.args.name.now c.args.version.now) (sym c.from_ref.ensures.value)
    ∙ sym c.in_ok-passes_holds.ensures.ok ∙ excluded))
