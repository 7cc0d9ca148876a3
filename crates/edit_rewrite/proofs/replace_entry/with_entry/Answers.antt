use Rattle.std.proofs.Common.{ℕ, List, [], ◌++◌, Option, sym, ap, subst, ◌∙◌}
use Rattle.std.proofs.lemmas.Result.{IfOk-weaker}
use Rattle.edit_syntax.specs.Grammar.{text as text_of}
use Rattle.edit_syntax.proofs.Members.{contained_among}
use Rattle.edit_tree.specs.EditBytes.{Splice, with_splice, with_any}
use Rattle.edit_document.specs.Items.{place_view}
use Rattle.edit_tree.specs.NewItems.{new_entry}
use Rattle.edit_document.specs.NewItemViews.{new_item_view}
use Rattle.edit_tree.specs.Assertions.{IsDocument}
use Rattle.edit_tree.specs.Statements.{line_pairs, inner_pairs}
use Rattle.edit_rewrite.proofs.EntryCuts.{pairs_fit}
use Rattle.edit_rewrite.proofs.InsertedLines.{each_ok}
use Rattle.edit_tree.proofs.LonePairs.{entry_is}
use Rattle.edit_rewrite.proofs.replace_entry.with_entry.Goals as goal

pub returns-clause-text : goal.returns-clause-text
returns-clause-text c =
    let text = c.as_str.result.now in
    let place = place_view c.args.place.now in
    let item = new_item_view c.args.item.now in
    let now = c.as_str-2.ensures.value ∙ c.in_ok-push_entry.ensures {u = tt}
    ∙ ap (λ (l : List ℕ). l ++ new_entry item []) c.new-now.ensures.bytes in
    each_ok c.splice_text.result _ (λ form. each_ok c.splice_text.result _ (λ m.
    let here : IsDocument text form = subst (λ (b : List ℕ). IsDocument b form) (sym c.as_str.ensures) m in
    let around = (c.in_ok-from.ensures {u = tt}).around form m in
    let among = contained_among around.pair (line_pairs form ++ inner_pairs form) around.among in
    let fits = pairs_fit text form here c.as_str.utf8 around.pair among in
    let s : Splice = record { from = around.part; to = around.pair.behind; now = new_entry item [] } in
    let is = entry_is form place item around.pair around.part (c.requires.one form m) among around.named in
    IfOk-weaker c.splice_text.result _ _
    (λ t e. e ∙ ap (λ (b : List ℕ). with_splice b s) (here.grammar.spelled)
    ∙ sym (ap (λ (o : Option Splice). with_any (text_of form) o) is))
    (c.splice_text.ensures.text s (fits.part place around.part around.named) fits.behind around.from around.to
    now)))
