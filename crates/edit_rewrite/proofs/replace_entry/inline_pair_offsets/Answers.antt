use Rattle.std.proofs.Common.{◌≡◌, ℕ, ◌-◌, List, length, drop, sym, ap, ap₂, subst, ◌∙◌, arith}
use Rattle.std.proofs.lemmas.List.{take_rest, take-map, length-map}
use Rattle.std.proofs.lemmas.Result.{IfOk-weaker}
use Rattle.std.specs.Prelude.{take}
use Rattle.edit_syntax.specs.Grammar.{value}
use Rattle.edit_syntax.proofs.Members.{contained_among}
use Rattle.edit_rewrite.specs.Entries.{path_match}
use Rattle.edit_document.specs.Items.{step_view, place_view}
use Rattle.edit_tree.specs.Assertions.{IsDocument}
use Rattle.edit_tree.specs.Tree.{is_value_at}
use Rattle.edit_tree.specs.Written.{values}
use Rattle.edit_tree.proofs.Ends.{suffix_is}
use Rattle.edit_rewrite.proofs.InnerPairs.{front_way, inner_offsets, no_inner_offsets}
use Rattle.edit_rewrite.proofs.ValueSuffixes.{values_stand}
use Rattle.edit_rewrite.proofs.replace_entry.inline_pair_offsets.Goals as goal

pub returns-in-Some-clause-outcome : goal.returns-in-Some-clause-outcome
returns-in-Some-clause-outcome c form m =
    let text = c.as_str-text.result.now in
    let place = place_view c.args.place.now in
    let end = c.args.end in
    let here : IsDocument text form =
    subst (λ (b : List ℕ). IsDocument b form) (sym c.as_str-text.ensures) m in
    let range = c.in-Some.ensures form m in
    let w = range.placed_value in
    let among = contained_among w (values form) range.listed in
    let stands = values_stand text form here c.as_str-text.utf8 w among in
    let from =
    take_rest c.as_bytes.result.now c.in-Some.start
    ∙ ap₂ (λ (n : ℕ) (xs : List ℕ). drop n xs)
    (range.starts ∙ ap (λ (b : List ℕ). length b - length (value w.value w.after))
    (sym here.grammar.spelled))
    c.as_bytes.ensures.value
    ∙ suffix_is text (value w.value w.after) stands.ends in
    let there : w.place ≡ take end place = range.there ∙ sym (take-map step_view end c.args.place.now) in
    let size = length-map c.args.place.now step_view in
    IfOk-weaker c.table_offsets.result _ _ (λ o t. inner_offsets form place end w o m.no_clash among
    there t)
    (c.table_offsets.ensures.outcome w stands from
    (front_way end place (omega (arith, c.requires, size)) ∙ ap (path_match place) (sym there)))

pub returns-in-None-clause-outcome : goal.returns-in-None-clause-outcome
returns-in-None-clause-outcome c form m =
    no_inner_offsets form (place_view c.args.place.now) c.args.end
    (ap (is_value_at form) (take-map step_view c.args.end c.args.place.now) ∙ c.in-None.ensures form m)
