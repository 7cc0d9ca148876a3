use Rattle.std.proofs.Common.{◌++◌, [], ℕ, List, refl, sym, ap, ◌∙◌, subst, take, drop}
use Rattle.std.proofs.lemmas.Result.{IfOk-weaker}
use Rattle.edit_syntax.specs.Grammar.{value}
use Rattle.edit_document.specs.Items.{place_view}
use Rattle.edit_tree.specs.NewItems.{new_value}
use Rattle.edit_document.specs.NewItemViews.{new_value_view}
use Rattle.edit_tree.specs.Assertions.{IsDocument}
use Rattle.edit_document.proofs.ReplacementLaws.{one_rewrite}
use Rattle.edit_rewrite.proofs.SetBytes.{set_at}
use Rattle.edit_changes.proofs.set_value.with_value.Goals as goal

pub with_range-requires : goal.with_range-requires
with_range-requires c =
    let f = c.lemma_form.ensures.some in
    let manifest = subst (λ (b : List ℕ). IsDocument b f.0) (sym c.as_str.ensures) f.1 in
    (one_rewrite c.as_str.result.now f.0 (place_view c.args.place.now) []
    (c.in-Some.start, c.in-Some.end, []) manifest c.as_str.utf8 (c.requires f.0 f.1)
    (c.in-Some.ensures {u = tt} f.0 f.1, refl)).order

pub returns-clause-bytes : goal.returns-clause-bytes
returns-clause-bytes c =
    let p = place_view c.args.place.now in
    let v = new_value_view c.args.value.now in
    IfOk-weaker c.with_range.result _ _
    (λ s e form manifest.
    let set = set_at form p v c.in-Some.start c.in-Some.end c.args.document.now.bytes manifest
    (c.requires form manifest) (c.in-Some.ensures {u = tt} form manifest) in
    e ∙ ap (λ (b : List ℕ). take c.in-Some.start b ++ (value (new_value v) [] ++ drop c.in-Some.end b))
    (c.as_str.ensures ∙ manifest.grammar.spelled)
    ∙ set.written ∙ sym set.meant)
    c.with_range.ensures.text
