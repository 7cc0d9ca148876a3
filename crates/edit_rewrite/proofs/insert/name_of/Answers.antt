use Rattle.std.proofs.Common.{ℕ, List, Option, length, option_map, ap, ◌∙◌}
use Rattle.std.specs.Prelude.{unwrap_or}
use Rattle.edit_rewrite.specs.declared.locate.Entry.{Entry}
use Rattle.edit_rewrite.proofs.SuffixTexts.{cut_suffixes}
use Rattle.edit_rewrite.proofs.insert.name_of.Goals as goal

pub returns : goal.returns
returns c place s suffix h e f =
    let front = ap (λ (x : Entry). x.front) e ∙ ap (λ (o : Option (List ℕ)). option_map length o) f in
    let k = h.front place suffix f in
    c.between.ensures
    ∙ cut_suffixes c.args.text.now _ suffix c.args.entry.key c.unwrap_or.result h.key k.cut (k.head, k.ends)
    (ap (λ (x : Entry). x.key) e) (c.unwrap_or.ensures ∙ ap (λ (o : Option ℕ). unwrap_or o 0) front)
