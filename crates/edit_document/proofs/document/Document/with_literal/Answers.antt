use Rattle.std.proofs.Common.{◌≡◌, ℕ, ◌-◌, List, length, refl, ap, ap₂, sym, ◌∙◌, subst}
use Rattle.std.specs.Str.{IsUtf8}
use Rattle.std.specs.Prelude.{string_bytes}
use Rattle.edit_document.specs.Items.{place_view}
use Rattle.edit_tree.specs.Assertions.{IsDocument}
use Rattle.edit_tree.specs.Literals.{literal_bytes}
use Rattle.edit_tree.specs.Pieces.{IsSwapped}
use Rattle.edit_tree.proofs.PieceLaws.{swaps}
use Rattle.edit_document.proofs.ReplacementLaws.{one_rewrite, replaces_one}
use Rattle.edit_document.proofs.document.Document.with_literal.Goals as goal

pub splice-requires : goal.splice-requires
splice-requires c =
    let f = c.lemma_form.ensures.some in
    let manifest = subst (λ (b : List ℕ). IsDocument b f.0) (sym c.as_str.ensures) f.1 in
    (one_rewrite c.as_str.result.now f.0 (place_view c.args.place.now) c.args.text.now
    (c.in-Some.start, c.in-Some.end, c.args.text.now) manifest c.as_str.utf8 (c.requires.is_value f.0 f.1)
    (c.in-Some.ensures {u = tt} f.0 f.1, refl)).order

pub returns-clause-replaces : goal.returns-clause-replaces
returns-clause-replaces c =
    let f = c.lemma_form.ensures.some in
    let m = subst (λ (b : List ℕ). IsDocument b f.0) (sym c.as_str.ensures) f.1 in
    let value_there = c.requires.is_value f.0 f.1 in
    replaces_one c.args.self.now.bytes (string_bytes c.in_ok-new-in-Some.new) f.0
    (place_view c.args.place.now) c.args.text.now f.1 value_there
    ((c.in_ok-new-in-Some.ensures {u = tt}).text ∙
    (one_rewrite c.as_str.result.now f.0 (place_view c.args.place.now) c.args.text.now
    (c.in-Some.start, c.in-Some.end, c.args.text.now) m c.as_str.utf8 value_there
    (c.in-Some.ensures {u = tt} f.0 f.1, refl)).bytes)

pub returns-clause-swapped : goal.returns-clause-swapped
returns-clause-swapped c =
    let f = c.lemma_form.ensures.some in
    let old = c.as_str.result.now in
    let new = string_bytes c.in_ok-new-in-Some.new in
    let m = subst (λ (b : List ℕ). IsDocument b f.0) (sym c.as_str.ensures) f.1 in
    let order = (one_rewrite old f.0 (place_view c.args.place.now) c.args.text.now
    (c.in-Some.start, c.in-Some.end, c.args.text.now) m c.as_str.utf8 (c.requires.is_value f.0 f.1)
    (c.in-Some.ensures {u = tt} f.0 f.1, refl)).order in
    let same : length c.as_str-in-Some.result.now ≡ length old =
    ap length (c.as_str-in-Some.ensures ∙ sym c.as_str.ensures) in
    let size : length c.as_str-in-Some-2.result.now ≡ length new =
    ap length c.as_str-in-Some-2.ensures.value in
    let last : length c.as_str-in-Some-2.result.now - (length c.as_str-in-Some.result.now - c.in-Some.end)
    ≡ length new - (length old - c.in-Some.end) =
    ap₂ (λ (a b : ℕ). a - (b - c.in-Some.end)) size same in
    subst (λ (b : List ℕ). IsSwapped b (literal_bytes c.args.text.now) new (
      c.in-Some.start,
      length c.as_str-in-Some-2.result.now -
          (length c.as_str-in-Some.result.now - c.in-Some.end),
    )) c.as_str.ensures
    (swaps old (literal_bytes c.args.text.now) new c.in-Some.start c.in-Some.end
    (length c.as_str-in-Some-2.result.now - (length c.as_str-in-Some.result.now - c.in-Some.end))
    c.as_str.utf8 (subst IsUtf8 c.as_str-in-Some-2.ensures.value c.as_str-in-Some-2.utf8) order.1 order.2
    order.3
    (c.in_ok-new-in-Some.ensures {u = tt}).text last)
