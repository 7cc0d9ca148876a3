use Rattle.std.proofs.Common.{ℕ, List, refl, ap, ◌∙◌}
use Rattle.edit_tree.specs.declared.nodes.Content.TheVariants as content
use Rattle.edit_document.specs.declared.document.Datum.TheVariants as seen
use Rattle.edit_syntax.specs.Spans.{bytes_at}
use Rattle.edit_tree.specs.Nodes.{bytes_of}
use Rattle.edit_document.proofs.ShownForms.{shown_bytes}
use Rattle.edit_document.proofs.Views.{opened, within, found}
use Rattle.edit_document.proofs.MemberViews.{shows}
use Rattle.edit_document.proofs.document.Document.datum.Goals as goal

pub index-node-requires : goal.index-node-requires
index-node-requires c = within c.args.self.now c.self.inside.nodes.items c.self.inside.nodes.len c.args.number
    (opened c.self.inside c.args.self.now c.self.invariant c.self.view_is) c.self.inside.nodes.ok.0 c.requires

pub returns-in-Text : goal.returns-in-Text
returns-in-Text c =
    let f = found c.args.self.now c.self.inside.nodes.items c.args.number c.index-node.result.now
    (opened c.self.inside c.args.self.now c.self.invariant c.self.view_is) c.requires c.index-node.ensures in
    shows c.args.self.now c.self.inside.nodes.items
    (opened c.self.inside c.args.self.now c.self.invariant c.self.view_is).models c.args.number
    c.index-node.result.now (content.Text c.in-Text.decoded) (seen.Text c.decoded_str.result) f c.in-Text.is
    (c.decoded_str.ensures ∙ ap (λ (b : List ℕ). bytes_of b c.in-Text.decoded)
    (c.as_str.ensures.value ∙ shown_bytes c.self.inside c.args.self.now c.self.view_is))

pub returns-in-Truth : goal.returns-in-Truth
returns-in-Truth c =
    let f = found c.args.self.now c.self.inside.nodes.items c.args.number c.index-node.result.now
    (opened c.self.inside c.args.self.now c.self.invariant c.self.view_is) c.requires c.index-node.ensures in
    shows c.args.self.now c.self.inside.nodes.items
    (opened c.self.inside c.args.self.now c.self.invariant c.self.view_is).models c.args.number
    c.index-node.result.now (content.Truth c.in-Truth.truth)
    (seen.Truth c.in-Truth.truth) f c.in-Truth.is refl

pub returns-in-Inline : goal.returns-in-Inline
returns-in-Inline c =
    let f = found c.args.self.now c.self.inside.nodes.items c.args.number c.index-node.result.now
    (opened c.self.inside c.args.self.now c.self.invariant c.self.view_is) c.requires c.index-node.ensures in
    shows c.args.self.now c.self.inside.nodes.items
    (opened c.self.inside c.args.self.now c.self.invariant c.self.view_is).models c.args.number
    c.index-node.result.now content.Inline seen.Inline f c.in-Inline.is tt

pub returns-in-Table : goal.returns-in-Table
returns-in-Table c =
    let f = found c.args.self.now c.self.inside.nodes.items c.args.number c.index-node.result.now
    (opened c.self.inside c.args.self.now c.self.invariant c.self.view_is) c.requires c.index-node.ensures in
    shows c.args.self.now c.self.inside.nodes.items
    (opened c.self.inside c.args.self.now c.self.invariant c.self.view_is).models c.args.number
    c.index-node.result.now content.Table seen.Table f c.in-Table.is tt

pub returns-in-Integer : goal.returns-in-Integer
returns-in-Integer c =
    let f = found c.args.self.now c.self.inside.nodes.items c.args.number c.index-node.result.now
    (opened c.self.inside c.args.self.now c.self.invariant c.self.view_is) c.requires c.index-node.ensures in
    shows c.args.self.now c.self.inside.nodes.items
    (opened c.self.inside c.args.self.now c.self.invariant c.self.view_is).models c.args.number
    c.index-node.result.now (content.Integer c.in-Integer.span) (seen.Integer c.span_text.result) f c.in-Integer.is
    (c.span_text.ensures ∙ ap (λ (b : List ℕ). bytes_at b c.in-Integer.span)
    (c.as_str-in-Integer.ensures.value ∙ shown_bytes c.self.inside c.args.self.now c.self.view_is))

pub returns-in-Float : goal.returns-in-Float
returns-in-Float c =
    let f = found c.args.self.now c.self.inside.nodes.items c.args.number c.index-node.result.now
    (opened c.self.inside c.args.self.now c.self.invariant c.self.view_is) c.requires c.index-node.ensures in
    shows c.args.self.now c.self.inside.nodes.items
    (opened c.self.inside c.args.self.now c.self.invariant c.self.view_is).models c.args.number
    c.index-node.result.now (content.Float c.in-Float.field-0) seen.Float f c.in-Float.is tt

pub returns-in-DateTime : goal.returns-in-DateTime
returns-in-DateTime c =
    let f = found c.args.self.now c.self.inside.nodes.items c.args.number c.index-node.result.now
    (opened c.self.inside c.args.self.now c.self.invariant c.self.view_is) c.requires c.index-node.ensures in
    shows c.args.self.now c.self.inside.nodes.items
    (opened c.self.inside c.args.self.now c.self.invariant c.self.view_is).models c.args.number
    c.index-node.result.now (content.DateTime c.in-DateTime.field-0) seen.DateTime f c.in-DateTime.is tt

pub returns-in-Tables : goal.returns-in-Tables
returns-in-Tables c =
    let f = found c.args.self.now c.self.inside.nodes.items c.args.number c.index-node.result.now
    (opened c.self.inside c.args.self.now c.self.invariant c.self.view_is) c.requires c.index-node.ensures in
    shows c.args.self.now c.self.inside.nodes.items
    (opened c.self.inside c.args.self.now c.self.invariant c.self.view_is).models c.args.number
    c.index-node.result.now content.Tables seen.Tables f c.in-Tables.is tt

pub returns-in-Array : goal.returns-in-Array
returns-in-Array c =
    let f = found c.args.self.now c.self.inside.nodes.items c.args.number c.index-node.result.now
    (opened c.self.inside c.args.self.now c.self.invariant c.self.view_is) c.requires c.index-node.ensures in
    shows c.args.self.now c.self.inside.nodes.items
    (opened c.self.inside c.args.self.now c.self.invariant c.self.view_is).models c.args.number
    c.index-node.result.now content.Array seen.Array f c.in-Array.is tt
