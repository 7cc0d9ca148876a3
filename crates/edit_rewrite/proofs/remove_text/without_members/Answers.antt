use Rattle.std.proofs.Common.{rules, ◌≡◌, ℕ, List, [], ◌++◌, sym, ap, subst, true≢false, ◌∙◌}
use Rattle.std.specs.Prelude.{IsUtf8}
use Rattle.std.specs.Global.{Vec}
use Rattle.std.proofs.lemmas.Result.{IfOk-weaker}
use Rattle.edit_base.specs.Errors.{IsMemory}
use Rattle.edit_syntax.specs.Grammar.{value}
use Rattle.edit_tree.specs.EditBytes.{with_splice}
use Rattle.edit_document.specs.Items.{place_view}
use Rattle.edit_rewrite.proofs.AroundValues.{value_between, plain_left}
use Rattle.edit_rewrite.proofs.LeftTexts.{left_text}
use Rattle.edit_rewrite.proofs.remove_text.without_members.Goals as goal

pub returns-then-not-is_container-clause-text : goal.returns-then-not-is_container-clause-text
returns-then-not-is_container-clause-text c w s =
    let text = c.args.text.now in
    let gone = w.place ++ place_view c.args.below.now in
    let old : c.between-old.result.now ≡ value w.value [] =
    c.between-old.ensures ∙ value_between text w c.args.from c.args.to s in
    let tells = c.is_container.ensures w.value s.valid (c.as_bytes.ensures.value ∙ old) in
    IfOk-weaker c.with_part.result _ _
    (λ t e. e ∙ ap (λ (l : List ℕ). with_splice text
    (record { from = value w.value w.after; to = w.after; now = l }))
    (old ∙ sym (plain_left gone w.place w.value
    (λ is. true≢false (sym (tells.1 is) ∙ c.if-not-is_container.true)))))
    (c.with_part.ensures.text w s)

pub returns-in_err-value_without-clause-error : goal.returns-in_err-value_without-clause-error
returns-in_err-value_without-clause-error c =
    let w = c.requires.stands.0 in
    let s = c.requires.stands.1 in
    let old : c.between-old.result.now ≡ value w.value [] =
    c.between-old.ensures ∙ value_between c.args.text.now w c.args.from c.args.to s in
    let tells = c.is_container.ensures w.value s.valid (c.as_bytes.ensures.value ∙ old) in
    let is = tells.0 c.if-not-is_container.false in
    let memory : IsMemory c.in_err-value_without.field-0.0 =
    c.in_err-value_without.ensures {u = tt} w.place w.value is s.valid s.shallow old in
    search rules

pub unreachable-requires : goal.unreachable-requires
unreachable-requires c =
    let w = c.requires.stands.0 in
    let s = c.requires.stands.1 in
    let old : c.between-old.result.now ≡ value w.value [] =
    c.between-old.ensures ∙ value_between c.args.text.now w c.args.from c.args.to s in
    let tells = c.is_container.ensures w.value s.valid (c.as_bytes.ensures.value ∙ old) in
    let is = tells.0 c.if-not-is_container.false in
    let new = c.in_ok-value_without.ensures {u = tt} w.place w.value is s.valid s.shallow old in
    let ok = (c.in-Err.ensures {u = tt}).succeeds
    (subst IsUtf8 (sym new)
    (left_text w.place (place_view c.args.below.now) w.value is s.valid s.shallow
    (subst IsUtf8 old c.between-old.utf8))) in
    true≢false (sym ok)

pub returns-clause-text : goal.returns-clause-text
returns-clause-text c w s =
    let old : c.between-old.result.now ≡ value w.value [] =
    c.between-old.ensures ∙ value_between c.args.text.now w c.args.from c.args.to s in
    let tells = c.is_container.ensures w.value s.valid (c.as_bytes.ensures.value ∙ old) in
    let is = tells.0 c.if-not-is_container.false in
    let new = c.in_ok-value_without.ensures {u = tt} w.place w.value is s.valid s.shallow old in
    IfOk-weaker c.with_part-in-Ok.result _ _
    (λ t e. e ∙ ap (λ (l : List ℕ). with_splice c.args.text.now
    (record { from = value w.value w.after; to = w.after; now = l }))
    (c.as_str.ensures.value ∙ ap (λ (v : Vec ℕ). v.items) (c.in-Ok.ensures {u = tt}).ok ∙ new))
    (c.with_part-in-Ok.ensures.text w s)
