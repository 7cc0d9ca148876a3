use Rattle.std.proofs.Common.{ℕ, List, ap, length, sym, ◌∙◌}
use Rattle.std.specs.List.{concat}
use Rattle.edit_tree.specs.Pieces.{pieces_of}
use Rattle.edit_tree.proofs.PieceLaws.{pieces_count, joined}
use Rattle.edit_document.proofs.ShownForms.{pieces_written, range_written, shown_bytes}
use Rattle.edit_document.proofs.document.Document.pieces.Goals as goal

pub returns-clause-count : goal.returns-clause-count
returns-clause-count c =
    let written_pieces = pieces_written c.self.inside c.args.self.now c.self.view_is ∙
    ap (λ (b : List ℕ). pieces_of b c.self.inside.written)
    (sym (c.as_str-text.ensures.value ∙ shown_bytes c.self.inside c.args.self.now c.self.view_is)) in
    pieces_count c.as_str-text.result.now c.self.inside.written c.range.result.now c.range-2.result.now
    c.range_from.result.now
    c.count_of.result c.count_of-2.result c.count_of-3.result c.range.ensures.value c.range-2.ensures.value
    c.range_from.ensures.value
    c.count_of.ensures c.count_of-2.ensures c.count_of-3.ensures
    ∙ ap (λ (ps : List (List ℕ)). length ps) (sym written_pieces)

pub returns-clause-joined : goal.returns-clause-joined
returns-clause-joined c =
    ap concat (pieces_written c.self.inside c.args.self.now c.self.view_is)
    ∙ joined c.args.self.now.bytes c.self.inside.written
    (range_written c.self.inside c.args.self.now c.self.invariant c.self.view_is).ordered
