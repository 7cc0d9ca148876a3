use Rattle.std.proofs.Common.{List, sym, subst, ℕ}
use Rattle.edit_version.proofs.Cuts.{cut-plain}
use Rattle.edit_version.specs.Laws.{IsPlainRequirement}
use Rattle.edit_version.proofs.requirement.cut.Goals as goal

pub returns-clause-plain : goal.returns-clause-plain
returns-clause-plain c = λ v h.
    subst (λ (x : List ℕ). IsPlainRequirement x v) (sym c.before_plus.ensures) (cut-plain c.args.text.now v h)
