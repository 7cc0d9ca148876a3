use Rattle.std.proofs.Common.{◌∙◌, ap, cond, map, sym, take, true}
use Rattle.std.specs.Prelude.{◌&&◌}
use Rattle.std.specs.Str.{bytes_eq}
use Rattle.edit_answers.specs.Aging.{aged_text, is_recent, is_used, owner_of}
use Rattle.edit_answers.proofs.PruneLemmas.{mapped-more, used-more}
use Rattle.edit_answers.proofs.pruning.used_owners.Goals as goal

pub files-preserved : goal.files-preserved
files-preserved c = λ q.
    let i = c.files.aged-index in
    let all = c.args.files.now in
    let a = aged_text c.aged-item.result in
    c.in_ok-add_used.ensures q
    ∙ ap (cond (is_recent a && bytes_eq (owner_of a) q) true) (c.files.invariant q)
    ∙ sym (used-more (map aged_text (take i all)) a q)
    ∙ ap (λ fs. is_used fs q)
    (sym (mapped-more aged_text all i c.aged-item.result c.files-test.true c.aged-item.is))
