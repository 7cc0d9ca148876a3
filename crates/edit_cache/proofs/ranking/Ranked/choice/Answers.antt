use Rattle.std.proofs.Common.{List, ℕ, subst}
use Rattle.edit_cache.specs.Choices.{IsChoice}
use Rattle.edit_cache.specs.Ranking.{ranks_of}
use Rattle.edit_cache.proofs.ranking.Ranked.choice.Goals as goal

pub returns-in-Some-clause-is : goal.returns-in-Some-clause-is
returns-in-Some-clause-is c =
    let ranks = ranks_of c.args.self.now in
    subst (λ (t : List ℕ). IsChoice ranks t c.in-Some.choice) c.text.ensures
    (c.in-Some.ensures.known ranks c.args.self.now.known)
