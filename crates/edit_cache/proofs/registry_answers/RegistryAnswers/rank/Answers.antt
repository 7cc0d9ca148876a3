use Rattle.std.proofs.Common.{◌≡◌, ◌∙◌, None, Some, ap, arith, subst, sym}
use Rattle.std.specs.BTreeMap.{get_by_text}
use Rattle.std.proofs.lemmas.Map.Text.{text_keys}
use Rattle.std.proofs.lemmas.Result.{on_ok_weaker}
use Rattle.edit_cache.specs.RegistryAnswers.{first_for, result_in}
use Rattle.edit_cache.proofs.LastLemmas.{AreRanked, last-named, last-same, other-same, ranked-last, ranked-other, result}
use Rattle.edit_cache.proofs.registry_answers.RegistryAnswers.rank.Goals as goal

pub returns-then-has_last-clause-preserved : goal.returns-then-has_last-clause-preserved
unfolding result_in
returns-then-has_last-clause-preserved c = λ other.
    let old = c.args.self.now in
    let new = c.rank_last.new.self in
    last-same new.last old.last (get_by_text new.others other) other c.rank_last.ensures.same
    ∙ ap (λ m. result (first_for old.last (get_by_text m other) other)) c.rank_last.ensures.map

pub returns-then-has_last-clause-ranked : goal.returns-then-has_last-clause-ranked
unfolding result_in
returns-then-has_last-clause-ranked c =
    let old = c.args.self.now in
    let new = c.rank_last.new.self in
    let name = c.args.name.now in
    on_ok_weaker c.rank_last.result (ranked-last new.last (get_by_text new.others name) name
    (last-named new.last old.last name c.rank_last.ensures.same ∙ sym c.has_last.ensures
    ∙ c.if-has_last.true))
    c.rank_last.ensures.ranked

pub returns-in-Some-clause-preserved : goal.returns-in-Some-clause-preserved
unfolding result_in
returns-in-Some-clause-preserved c = λ other.
    let old = get_by_text c.args.self.now.others other in
    let new = get_by_text (c.get_mut.follows.lender c.rank.new.self) other in
    let same : result new ≡ result old = grind (arith, text_keys) in
    other-same c.args.self.now.last new old other same

pub returns-in-Some-clause-ranked : goal.returns-in-Some-clause-ranked
unfolding result_in
returns-in-Some-clause-ranked c =
    let name = c.args.name.now in
    let new = get_by_text (c.get_mut.follows.lender c.rank.new.self) name in
    let there : new ≡ Some c.rank.new.self = grind (arith, text_keys) in
    on_ok_weaker c.rank.result (λ (h : AreRanked (Some c.rank.new.self)).
    ranked-other c.args.self.now.last new name (sym c.has_last.ensures ∙ c.if-has_last.false)
    (subst AreRanked (sym there) h)) c.rank.ensures.ranked

pub returns-in-None-clause-ranked : goal.returns-in-None-clause-ranked
unfolding result_in
returns-in-None-clause-ranked c =
    let name = c.args.name.now in
    let new = get_by_text c.get_mut.follows.lender-at-none name in
    let none : new ≡ None = grind (arith, text_keys) in
    ranked-other c.args.self.now.last new name (sym c.has_last.ensures ∙ c.if-has_last.false)
    (subst AreRanked (sym none) tt)
