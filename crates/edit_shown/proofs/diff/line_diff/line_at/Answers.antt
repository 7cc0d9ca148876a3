use Rattle.std.proofs.Common.{◌∙◌, Bor, List, ap, option_map, sym, ℕ}
use Rattle.std.proofs.lemmas.Option.{slice_get-map}
use Rattle.edit_shown.proofs.diff.line_diff.line_at.Goals as goal

pub returns : goal.returns
returns c =
    ap (option_map (λ (l : Bor (List ℕ)). l.now)) (c.copied.ensures ∙ c.entry_at.ensures)
    ∙ sym (slice_get-map (λ (l : Bor (List ℕ)). l.now) c.args.lines.now c.args.i)
