use Rattle.std.proofs.Common.{◌≡◌, ◌∙◌, None, ap, arith, sym}
use Rattle.std.specs.BTreeMap.{get_by_text}
use Rattle.std.proofs.lemmas.Map.Text.{text_keys}
use Rattle.edit_cache.specs.RegistryAnswers.{first_for, result_in}
use Rattle.edit_cache.proofs.LastLemmas.{apart-first, other-first}
use Rattle.edit_cache.proofs.registry_answers.RegistryAnswers.remove.Goals as goal

pub returns-then-has_last-clause-removed : goal.returns-then-has_last-clause-removed
unfolding result_in
returns-then-has_last-clause-removed c =
    let gone : get_by_text c.remove.new.self c.args.name.now ≡ None = grind (arith, text_keys) in
    gone

pub returns-then-has_last-clause-others : goal.returns-then-has_last-clause-others
unfolding result_in
returns-then-has_last-clause-others c = λ other ne.
    let same : get_by_text c.remove.new.self other ≡ get_by_text c.args.self.now.others other =
    grind (arith, text_keys) in
    same ∙ apart-first c.args.self.now.last (get_by_text c.args.self.now.others other) c.args.name.now other
    (sym c.has_last.ensures ∙ c.if-has_last.true) ne

pub returns-else-has_last-clause-removed : goal.returns-else-has_last-clause-removed
unfolding result_in
returns-else-has_last-clause-removed c =
    let name = c.args.name.now in
    let gone : get_by_text c.remove.new.self name ≡ None = grind (arith, text_keys) in
    sym (other-first c.args.self.now.last (get_by_text c.remove.new.self name) name
    (sym c.has_last.ensures ∙ c.if-has_last.false)) ∙ gone

pub returns-else-has_last-clause-others : goal.returns-else-has_last-clause-others
unfolding result_in
returns-else-has_last-clause-others c = λ other ne.
    let same : get_by_text c.remove.new.self other ≡ get_by_text c.args.self.now.others other =
    grind (arith, text_keys) in
    ap (λ cached. first_for c.args.self.now.last cached other) same
