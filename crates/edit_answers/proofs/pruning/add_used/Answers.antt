use Rattle.std.proofs.Common.{◌∙◌, ap, cond, string_bytes, sym, true}
use Rattle.std.specs.Prelude.{◌&&◌}
use Rattle.std.specs.BTreeSet.{contains_text}
use Rattle.std.specs.Str.{bytes_eq}
use Rattle.std.proofs.lemmas.Map.Text.{btree_set_updates_text}
use Rattle.edit_answers.specs.Aging.{aged_text, owner_of}
use Rattle.edit_answers.proofs.pruning.add_used.Goals as goal

pub returns-in_ok-insert : goal.returns-in_ok-insert
returns-in_ok-insert c = λ q.
    let a = aged_text c.args.aged.now in
    btree_set_updates_text (string_bytes c.in_ok-owner_of.field-0) c.args.used.now c.insert.new.self true
    c.in_ok-insert.ensures.updates q
    ∙ ap (λ o. cond (bytes_eq o q) true (contains_text c.args.used.now q)) c.in_ok-owner_of.ensures
    ∙ ap (λ r. cond (r && bytes_eq (owner_of a) q) true (contains_text c.args.used.now q))
    (sym c.if-is_recent.true ∙ c.is_recent.ensures)
