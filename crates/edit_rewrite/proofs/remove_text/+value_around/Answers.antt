use Rattle.std.proofs.Common.{ℕ, List, ◌-◌, length, refl, ap, subst, ◌∙◌}
use Rattle.std.specs.Prelude.{IsUtf8}
use Rattle.edit_rewrite.proofs.AroundValues.{none_around_root, some_around, around_above}
use Rattle.edit_rewrite.proofs.remove_text.+value_around.Goals as goal

pub returns-in_default : goal.returns-in_default
returns-in_default t c form m = none_around_root form c.args.place.now c.in_default.len_below

pub returns-in-Some : goal.returns-in-Some
returns-in-Some t c form m =
    let start = c.in-Some.start in
    let end = c.in-Some.end in
    some_around c.args.document.now.bytes form c.args.place.now start end _ m
    (subst IsUtf8 c.as_str.ensures c.as_str.utf8)
    c.in-len1-up.len_at_least (c.in-Some.ensures {u = tt} form m) refl
    (c.saturating_sub.ensures ∙ ap (λ (b : List ℕ). length b - start) c.as_str.ensures)
    (c.saturating_sub-in-Some.ensures ∙ ap (λ (b : List ℕ). length b - end) c.as_str-in-Some.ensures)

pub returns-in-None : goal.returns-in-None
returns-in-None t c form m =
    around_above form c.args.place.now c.value_around.result c.in-len1-up.len_at_least
    (c.in-None.ensures {u = tt} form m) (c.value_around.ensures form m)
