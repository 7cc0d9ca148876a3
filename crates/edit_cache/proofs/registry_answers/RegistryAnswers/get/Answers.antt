use Rattle.std.proofs.Common.{◌∙◌, sym}
use Rattle.std.specs.BTreeMap.{get_by_text}
use Rattle.edit_cache.specs.RegistryAnswers.{result_in}
use Rattle.edit_cache.proofs.LastLemmas.{last-first, other-first}
use Rattle.edit_cache.proofs.registry_answers.RegistryAnswers.get.Goals as goal

pub returns-then-has_last : goal.returns-then-has_last
unfolding result_in
returns-then-has_last c =
    let name = c.args.name.now in
    c.last_answer.ensures ∙ last-first c.args.self.now.last (get_by_text c.args.self.now.others name) name
    (sym c.has_last.ensures ∙ c.if-has_last.true)

pub returns : goal.returns
unfolding result_in
returns c =
    let name = c.args.name.now in
    c.get.ensures.value ∙ other-first c.args.self.now.last (get_by_text c.args.self.now.others name) name
    (sym c.has_last.ensures ∙ c.if-has_last.false)
