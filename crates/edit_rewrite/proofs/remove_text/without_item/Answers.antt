use Rattle.std.proofs.Common.{◌≡◌, ℕ, List, [], ◌++◌, ◌-◌, length, take, drop, sym, ap, subst, ◌∙◌}
use Rattle.std.specs.Prelude.{string_bytes}
use Rattle.std.proofs.lemmas.Result.{IfOk-weaker}
use Rattle.edit_syntax.specs.Grammar.{value, text}
use Rattle.edit_tree.specs.Assertions.{IsDocument, Place}
use Rattle.edit_tree.specs.EditBytes.{with_splice}
use Rattle.edit_document.specs.Items.{place_view}
use Rattle.edit_tree.specs.RemovedBytes.{value_left, removed_text}
use Rattle.edit_rewrite.proofs.AroundValues.{stands_between, steps_below, removed_inside, each_form}
use Rattle.edit_rewrite.proofs.remove_text.without_item.Goals as goal

pub without_members-requires : goal.without_members-requires
without_members-requires c =
    let f = c.lemma_form.ensures.some in
    let m = subst (λ (b : List ℕ). IsDocument b f.0) (sym c.as_str.ensures) f.1 in
    let h = c.in-Some.ensures {u = tt} f.0 f.1 in
    let stands = stands_between c.as_str.result.now f.0 h.placed_value c.in-Some.around m c.as_str.utf8 h.found in
    record { stands = (h.placed_value, stands) }

pub returns-in-Some-clause-text : goal.returns-in-Some-clause-text
returns-in-Some-clause-text c =
    let gone = place_view c.args.place.now in
    each_form c.args.document.now.bytes c.without_members.result
    (λ form t. string_bytes t ≡ removed_text gone form)
    (λ form manifest.
    let m = subst (λ (b : List ℕ). IsDocument b form) (sym c.as_str.ensures) manifest in
    let h = c.in-Some.ensures {u = tt} form manifest in
    let w = h.placed_value in
    let all = m.grammar.spelled in
    let steps = c.in-Some.around.steps in
    let below = place_view (take (length c.args.place.now - steps) (drop steps c.args.place.now)) in
    IfOk-weaker c.without_members.result _ _
    (λ t e. e
    ∙ ap (λ (b : List ℕ). with_splice b (record {
      from = value w.value w.after;
      to = w.after;
      now = value_left (w.place ++ below) w.place w.value [];
    })) all
    ∙ ap (λ (p : Place). with_splice (text form) (record {
      from = value w.value w.after;
      to = w.after;
      now = value_left p w.place w.value [];
    }))
    (steps_below c.args.place.now steps w.place h.below h.parted h.found.steps)
    ∙ sym (removed_inside form gone w h.innermost_is))
    (c.without_members.ensures.text w
    (stands_between c.as_str.result.now form w c.in-Some.around m c.as_str.utf8 h.found)))
