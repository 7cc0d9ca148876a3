use Rattle.std.proofs.Common.{◌++◌, ◌∙◌, List, ℕ, string_bytes, ap, arith}
use Rattle.edit_tree.specs.Literals.{literal_bytes}
use Rattle.edit_tree.proofs.NewItemTexts.{joined_more, list_done, on_appended}
use Rattle.edit_document.proofs.new_item.push_list.Goals as goal

pub others-preserved : goal.others-preserved
others-preserved c =
    let before = string_bytes c.push_str-in-others.new.self in
    joined_more (λ s. literal_bytes (string_bytes s)) _ c.others.text-index c.text-item.result _ _ _ _
    c.others-test.true c.text-item.is c.others.invariant c.in_ok-push_str-2.ensures.bytes
    (c.in_ok-push_literal-2.ensures {u = tt}
    ∙ ap (λ (t : List ℕ). before ++ literal_bytes t) c.as_str-in-others.ensures.value)

pub returns : goal.returns
returns c =
    let start = string_bytes c.args.out.now in
    let before = string_bytes c.push_str-2.new.self in
    on_appended c.push_str-3.result _ _ _ c.push_str-3.ensures.bytes
    (λ last. last
    ∙ list_done string_bytes c.args.list.now c.first-item.result c.others.text-index start _ _ _ (omega arith)
    c.first-item.is c.others-test.false c.in_ok-push_str.ensures.bytes
    (c.in_ok-push_literal.ensures {u = tt}
    ∙ ap (λ (t : List ℕ). before ++ literal_bytes t) c.as_str.ensures.value)
    c.others.invariant)
