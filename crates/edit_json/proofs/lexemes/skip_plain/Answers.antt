use Rattle.std.proofs.Common.{drop, subst, sym, ap, ◌∙◌}
use Rattle.std.proofs.lemmas.List.{take_rest}
use Rattle.edit_json.specs.Passed.{Passed}
use Rattle.edit_json.specs.Taken.{Takes}
use Rattle.edit_json.proofs.PassedLemmas.{plain_taken}
use Rattle.edit_json.proofs.lexemes.skip_plain.Goals as goal

pub returns-clause-passed : goal.returns-clause-passed
returns-clause-passed c =
    let t = c.args.text.now in
    let n = c.plain_len.result in
    subst (Takes Passed t) (ap (λ k. drop k t) (sym c.plain_len.ensures.value) ∙ sym (take_rest t n)) (plain_taken t)
