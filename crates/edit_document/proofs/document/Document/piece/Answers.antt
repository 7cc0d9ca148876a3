use Rattle.std.proofs.Common.{ℕ, ◌+◌, ◌-◌, List, ap, sym, ◌∙◌}
use Rattle.std.specs.Prelude.{slice_get}
use Rattle.edit_tree.specs.Pieces.{pieces_of, some_text}
use Rattle.edit_tree.proofs.PieceLaws.{piece_before, piece_inside, piece_last}
use Rattle.edit_document.proofs.ShownForms.{pieces_written, shown_bytes}
use Rattle.edit_document.proofs.document.Document.piece.Goals as goal

pub returns-then-number-before : goal.returns-then-number-before
returns-then-number-before c =
    let written_pieces = pieces_written c.self.inside c.args.self.now c.self.view_is ∙
    ap (λ (b : List ℕ). pieces_of b c.self.inside.written)
    (sym (c.as_str-text.ensures.value ∙ shown_bytes c.self.inside c.args.self.now c.self.view_is)) in
    sym (ap (λ (ps : List (List ℕ)). slice_get ps c.args.number) written_pieces
    ∙ piece_before c.as_str-text.result.now c.self.inside.written c.range-front.result.now
    c.count_of-before.result c.args.number
    c.range-front.ensures.value c.count_of-before.ensures c.if-number-before.true)

pub returns-then-number-behind : goal.returns-then-number-behind
returns-then-number-behind c =
    let written_pieces = pieces_written c.self.inside c.args.self.now c.self.view_is ∙
    ap (λ (b : List ℕ). pieces_of b c.self.inside.written)
    (sym (c.as_str-text.ensures.value ∙ shown_bytes c.self.inside c.args.self.now c.self.view_is)) in
    sym (ap (λ (ps : List (List ℕ)). slice_get ps c.args.number) written_pieces
    ∙ piece_inside c.as_str-text.result.now c.self.inside.written c.range-front.result.now
    c.range-middle.result.now
    c.count_of-before.result c.count_of.result c.args.number c.range-front.ensures.value
    c.range-middle.ensures.value
    c.count_of-before.ensures c.count_of.ensures c.if-number-before.false c.if-number-behind.true)

pub returns : goal.returns
returns c =
    let written_pieces = pieces_written c.self.inside c.args.self.now c.self.view_is ∙
    ap (λ (b : List ℕ). pieces_of b c.self.inside.written)
    (sym (c.as_str-text.ensures.value ∙ shown_bytes c.self.inside c.args.self.now c.self.view_is)) in
    c.only_piece.ensures
    ∙ ap (λ (l : List ℕ). slice_get (some_text l)
    (c.args.number - (c.count_of-before.result + c.count_of.result))) c.range_from.ensures.value
    ∙ sym (ap (λ (ps : List (List ℕ)). slice_get ps c.args.number) written_pieces
    ∙ piece_last c.as_str-text.result.now c.self.inside.written c.range-front.result.now
    c.range-middle.result.now
    c.count_of-before.result c.count_of.result c.args.number c.range-front.ensures.value
    c.range-middle.ensures.value
    c.count_of-before.ensures c.count_of.ensures c.if-number-behind.false)
