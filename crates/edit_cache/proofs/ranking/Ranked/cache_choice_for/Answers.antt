use Rattle.std.proofs.Common.{List, ℕ, map, subst, sym}
use Rattle.edit_version.specs.ReadRequirement.{text_in}
use Rattle.edit_cache.specs.Choices.{IsChoice}
use Rattle.edit_cache.specs.Ranks.{rank_of}
use Rattle.edit_cache.specs.declared.rank.Rank.{Rank}
use Rattle.edit_cache.proofs.ranking.Ranked.cache_choice_for.Goals as goal

pub invariant_of-self : goal.invariant_of-self
invariant_of-self c =
    let choice = c.choose-choice.result in
    let ranks = c.args.self.now.ranks.items in
    let is = subst (λ (t : List ℕ). IsChoice (map rank_of ranks) t choice) (sym c.text-2.ensures)
    (subst (λ (rs : List Rank). IsChoice (map rank_of rs) (text_in c.args.old.now) choice) c.deref.ensures.value
    c.choose-choice.ensures.is) in
    record { known = c.cache_choice.ensures (map rank_of ranks) is c.args.self.now.known }
