use Rattle.std.proofs.Common.{◌∙◌, Option, ap, sym}
use Rattle.std.specs.Prelude.{string_bytes}
use Rattle.std.specs.BTreeMap.{get_by_text}
use Rattle.edit_cache.specs.RegistryAnswers.{first_for, result_in}
use Rattle.edit_cache.specs.declared.registry_answers.NamedAnswer.{NamedAnswer}
use Rattle.edit_cache.proofs.LastLemmas.{added, not-added}
use Rattle.edit_cache.proofs.registry_answers.RegistryAnswers.insert.Goals as goal

pub returns-clause-added : goal.returns-clause-added
unfolding result_in
returns-clause-added c =
    added (string_bytes c.in_ok-name.name) c.args.name.now c.args.cached
    (get_by_text c.store_last.new.self.others c.args.name.now) c.in_ok-name.ensures.ok

pub returns-clause-others : goal.returns-clause-others
unfolding result_in
returns-clause-others c = λ other ne.
    let mid = c.store_last.new.self in
    not-added (string_bytes c.in_ok-name.name) c.args.name.now other c.args.cached
    (get_by_text mid.others other) c.in_ok-name.ensures.ok ne
    ∙ sym (ap (λ (x : Option NamedAnswer). first_for x (get_by_text mid.others other) other)
    c.in_ok-store_last.ensures.ok)
    ∙ c.in_ok-store_last.ensures.same other
