use Rattle.std.proofs.Common.{ℕ, Option, ap₂, sym, ◌∙◌, subst}
use Rattle.edit_document.specs.Items.{place_view}
use Rattle.edit_document.specs.Ranges.{HasRange}
use Rattle.edit_tree.specs.Written.{IsWrittenAt}
use Rattle.edit_document.proofs.Views.{opened, within}
use Rattle.edit_document.proofs.ValueRanges.{none_value, spanless_value, spanned_value}
use Rattle.edit_document.proofs.document.Document.value_range.Goals as goal

pub index-requires : goal.index-requires
index-requires c =
    within c.args.self.now c.self.inside.nodes.items c.self.inside.nodes.len c.in_ok-number.number
    (opened c.self.inside c.args.self.now c.self.invariant c.self.view_is) c.self.inside.nodes.ok.0
    (c.in_ok-number.ensures {u = tt}).2

pub returns-in_err-number : goal.returns-in_err-number
returns-in_err-number c form manifest =
    subst (λ (r : Option (ℕ × ℕ)). HasRange form (place_view c.args.place.now) r)
    (sym c.from_residual.ensures)
    (none_value c.self.inside c.args.self.now form
    (place_view c.args.place.now) c.self.invariant c.self.view_is manifest (c.in_err-number.ensures {u = tt}))

pub returns-in_err-span : goal.returns-in_err-span
returns-in_err-span c form manifest =
    let number_facts = c.in_ok-number.ensures {u = tt} in
    subst (λ (r : Option (ℕ × ℕ)). HasRange form (place_view c.args.place.now) r)
    (sym c.from_residual-in_err-span.ensures)
    (spanless_value c.self.inside c.args.self.now form
    (place_view c.args.place.now) c.in_ok-number.number c.index.result.now c.self.invariant c.self.view_is
    manifest number_facts.1 number_facts.2 c.index.ensures (c.in_err-span.was {u = tt}))

pub returns : goal.returns
returns c form manifest =
    let number_facts = c.in_ok-number.ensures {u = tt} in
    subst (λ (p : ℕ × ℕ). IsWrittenAt form (place_view c.args.place.now) p.0 p.1)
    (ap₂ (λ (m : ℕ) (n : ℕ). pair m n) (sym c.saturating_sub.ensures) (sym c.saturating_sub-2.ensures))
    (spanned_value c.self.inside c.args.self.now form
    (place_view c.args.place.now) c.in_ok-number.number c.index.result.now c.in_ok-span.span c.len-len.result
    c.self.invariant c.self.view_is manifest number_facts.1 number_facts.2 c.index.ensures
    (c.in_ok-span.was {u = tt}) (c.len-len.ensures ∙ c.self.inside.text.bytes.ok.0))
  where
    pair : ℕ → ℕ → ℕ × ℕ
    pair m n = (m, n)
