use Rattle.std.proofs.Common.{ℕ, List, Some, ap, ◌∙◌, inl, inr}
use Rattle.edit_syntax.specs.Spans.{bytes_at}
use Rattle.edit_tree.specs.Nodes.{bytes_of}
use Rattle.edit_document.proofs.ContentViews.{value_text_shown}
use Rattle.edit_document.proofs.ShownForms.{shown_bytes}
use Rattle.edit_document.proofs.Views.{opened, within, found}
use Rattle.edit_document.proofs.document.Document.scalar_text.Goals as goal

pub index-node-requires : goal.index-node-requires
index-node-requires c =
    within c.args.self.now c.self.inside.nodes.items c.self.inside.nodes.len c.args.number
    (opened c.self.inside c.args.self.now c.self.invariant c.self.view_is) c.self.inside.nodes.ok.0 c.requires

pub returns-in-Text : goal.returns-in-Text
returns-in-Text c =
    let opens = opened c.self.inside c.args.self.now c.self.invariant c.self.view_is in
    let node = c.index-node.result.now in
    let f = found c.args.self.now c.self.inside.nodes.items c.args.number node opens c.requires
    c.index-node.ensures in
    let here = c.as_str.ensures.value ∙ shown_bytes c.self.inside c.args.self.now c.self.view_is in
    ap Some (c.decoded_str.ensures ∙ ap (λ (b : List ℕ). bytes_of b c.in-Text.decoded) here)
    ∙ value_text_shown c.args.self.now c.self.inside.nodes.items opens.models c.args.number node _ f c.in-Text.is

pub returns-in-Integer : goal.returns-in-Integer
returns-in-Integer c =
    let opens = opened c.self.inside c.args.self.now c.self.invariant c.self.view_is in
    let node = c.index-node.result.now in
    let f = found c.args.self.now c.self.inside.nodes.items c.args.number node opens c.requires
    c.index-node.ensures in
    let here = c.as_str-in-Integer.ensures.value ∙ shown_bytes c.self.inside c.args.self.now c.self.view_is in
    ap Some (c.span_text.ensures ∙ ap (λ (b : List ℕ). bytes_at b c.in-Integer.span) here)
    ∙ value_text_shown c.args.self.now c.self.inside.nodes.items opens.models c.args.number node _ f c.in-Integer.is

pub returns-in-Float : goal.returns-in-Float
returns-in-Float c =
    let opens = opened c.self.inside c.args.self.now c.self.invariant c.self.view_is in
    let node = c.index-node.result.now in
    let f = found c.args.self.now c.self.inside.nodes.items c.args.number node opens c.requires
    c.index-node.ensures in
    let here = c.as_str-in-Float.ensures.value ∙ shown_bytes c.self.inside c.args.self.now c.self.view_is in
    ap Some (c.span_text-in-Float.ensures ∙ ap (λ (b : List ℕ). bytes_at b c.in-Float.span) here)
    ∙ value_text_shown c.args.self.now c.self.inside.nodes.items opens.models c.args.number node _ f c.in-Float.is

pub returns-in-DateTime : goal.returns-in-DateTime
returns-in-DateTime c =
    let opens = opened c.self.inside c.args.self.now c.self.invariant c.self.view_is in
    let node = c.index-node.result.now in
    let f = found c.args.self.now c.self.inside.nodes.items c.args.number node opens c.requires
    c.index-node.ensures in
    let here = c.as_str-in-DateTime.ensures.value ∙
    shown_bytes c.self.inside c.args.self.now c.self.view_is in
    ap Some (c.span_text-in-DateTime.ensures ∙ ap (λ (b : List ℕ). bytes_at b c.in-DateTime.span) here)
    ∙ value_text_shown c.args.self.now c.self.inside.nodes.items opens.models c.args.number node _ f c.in-DateTime.is

pub returns-in-Truth : goal.returns-in-Truth
returns-in-Truth c =
    let opens = opened c.self.inside c.args.self.now c.self.invariant c.self.view_is in
    let node = c.index-node.result.now in
    let f = found c.args.self.now c.self.inside.nodes.items c.args.number node opens c.requires
    c.index-node.ensures in
    elim c.in-Truth.is [
      | inl e ↦ value_text_shown c.args.self.now c.self.inside.nodes.items opens.models c.args.number node _ f e.1
      | inr (inl e) ↦ value_text_shown c.args.self.now c.self.inside.nodes.items opens.models c.args.number node _ f
          e
      | inr (inr (inl e)) ↦ value_text_shown c.args.self.now c.self.inside.nodes.items opens.models c.args.number
          node _ f e
      | inr (inr (inr (inl e))) ↦ value_text_shown c.args.self.now c.self.inside.nodes.items opens.models
          c.args.number node _ f e
      | inr (inr (inr (inr e))) ↦ value_text_shown c.args.self.now c.self.inside.nodes.items opens.models
          c.args.number node _ f e
    ]
