use Rattle.std.proofs.Common.{◌≡◌, ℕ, List, ◌++◌, length, refl, ap, ap₂, ◌∙◌, append_assoc}
use Rattle.edit_tree.specs.EditBytes.{before}
use Rattle.edit_rewrite.proofs.SuffixTexts.{cut_suffixes, cut_rest, whole_suffix}
use Rattle.edit_rewrite.proofs.replace_entry.splice_text.Goals as goal

pub returns-clause-text : goal.returns-clause-text
returns-clause-text c s from to is_from is_to now =
    let text = c.args.text.now in
    let head : c.between.result.now ≡ before text s.from =
    c.between.ensures ∙ cut_suffixes text text s.from (length text) c.args.from (whole_suffix text c.utf8.text)
    from
    (from.front, from.seam) refl is_from in
    let tail : c.between-2.result.now ≡ s.to = c.between-2.ensures ∙ cut_rest text s.to c.args.to to is_to in
    let first = (c.in_ok-push_str.ensures {u = tt}).bytes
    ∙ ap (λ (l : List ℕ). l ++ c.between.result.now) c.new-out.ensures.bytes ∙ head in
    let second = (c.in_ok-push_str-2.ensures {u = tt}).bytes ∙ ap₂ (λ (x y : List ℕ). x ++ y) first now in
    (c.in_ok-push_str-3.ensures {u = tt}).bytes ∙ ap₂ (λ (x y : List ℕ). x ++ y) second tail
    ∙ append_assoc (before text s.from) s.now s.to
