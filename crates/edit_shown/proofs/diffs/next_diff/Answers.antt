use Rattle.std.proofs.Common.{◌≡◌, ◌∙◌, rules, sym, true}
use Rattle.std.proofs.lemmas.Result.{IfOk-weaker}
use Rattle.edit_shown.specs.Diffs.{is_of}
use Rattle.edit_shown.proofs.DiffLemmas.{next_is}
use Rattle.edit_shown.proofs.diffs.next_diff.Goals as goal

pub returns-clause-text : goal.returns-clause-text
returns-clause-text c =
    let own : is_of c.args.input.now c.output-item.result ≡ true = search rules in
    IfOk-weaker c.diff_of.result _ _
    (λ v h. h ∙ sym (next_is c.args.root.now c.args.input.now c.args.outputs.now c.output-item.result
    c.in-len1-up.len_at_least c.output-item.is own))
    c.diff_of.ensures.text
