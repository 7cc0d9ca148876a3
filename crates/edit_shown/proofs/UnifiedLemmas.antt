-- The hunks of a diff, over the program's lines.
use Rattle.std.proofs.Common.{◌≡◌, ℕ, List, ap, ◌∙◌}
use Rattle.edit_shown.specs.Hunks.{parts_text}
use Rattle.edit_shown.specs.Lines.{lines_of}
use Rattle.edit_shown.specs.LineKinds.{lines_in, compare_lines, line_kinds}
use Rattle.edit_shown.specs.Unified.{parts_of}
use Rattle.edit_shown.specs.declared.diff.line_diff.LineKind.{LineKind}

-- the parts of a diff of two texts
pub parts_from : (kinds : List LineKind) (lines olds news : List (List ℕ)) (old new : List ℕ)
    → kinds ≡ line_kinds (compare_lines olds news) → lines ≡ lines_in (compare_lines olds news)
    → olds ≡ lines_of old → news ≡ lines_of new
    → parts_text kinds lines ≡ parts_of (compare_lines (lines_of old) (lines_of new))
parts_from kinds lines olds news old new a b c d =
    ap (λ m. parts_text m lines) a
    ∙ ap (λ l. parts_text (line_kinds (compare_lines olds news)) l) b
    ∙ ap (λ o. parts_of (compare_lines o news)) c
    ∙ ap (λ n. parts_of (compare_lines (lines_of old) n)) d
