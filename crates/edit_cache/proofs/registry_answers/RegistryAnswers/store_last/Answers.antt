use Rattle.std.proofs.Common.{◌≡◌, ◌∙◌, Option, Some, ap, arith, subst, sym}
use Rattle.std.specs.Prelude.{if◌then◌else◌, string_bytes}
use Rattle.std.specs.BTreeMap.{get_by_text}
use Rattle.std.specs.Str.{bytes_eq}
use Rattle.std.proofs.lemmas.Map.Text.{text_keys}
use Rattle.edit_cache.specs.RegistryAnswers.{first_for, result_in}
use Rattle.edit_cache.specs.declared.registry_answers.NamedAnswer.{NamedAnswer}
use Rattle.edit_cache.proofs.LastLemmas.{moved}
use Rattle.edit_cache.proofs.registry_answers.RegistryAnswers.store_last.Goals as goal

pub returns-in-Ok-clause-same : goal.returns-in-Ok-clause-same
unfolding result_in
returns-in-Ok-clause-same c = λ name.
    let old = get_by_text c.args.self.now.others name in
    let new = get_by_text c.insert.new.self name in
    let l = c.in-Some.field-0 in
    let stored : new ≡ (if bytes_eq (string_bytes l.name) name then Some l.cached else old) =
    grind (arith, text_keys) in
    subst (λ (x : Option NamedAnswer). first_for x new name ≡ first_for c.args.self.now.last old name)
    (sym c.take.ensures.after)
    (moved c.args.self.now.last l old new name (sym c.take.ensures.value ∙ c.in-Some.is) stored)

pub returns-clause-same : goal.returns-clause-same
unfolding result_in
returns-clause-same c = λ name.
    let old = get_by_text c.args.self.now.others name in
    let new = get_by_text c.insert.new.self name in
    let back : NamedAnswer = record { name = c.in-Err.failed.value.0; cached = c.in-Err.failed.value.1 } in
    let same : new ≡ old = grind (arith, text_keys) in
    let is : back ≡ c.in-Some.field-0 =
    ap (λ p. record { name = p.0; cached = p.1 }) c.in-Err.ensures.value_returned in
    let was : c.args.self.now.last ≡ Some c.in-Some.field-0 = sym c.take.ensures.value ∙ c.in-Some.is in
    ap (λ o. first_for (Some back) o name) same
    ∙ ap (λ (x : Option NamedAnswer). first_for x old name) (ap (λ x. Some x) is ∙ sym was)
