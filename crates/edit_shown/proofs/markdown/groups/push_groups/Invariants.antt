use Rattle.std.proofs.Common.{◌≡◌, ◌++◌, ℕ, List, None, map, take}
use Rattle.std.specs.Prelude.{if◌then◌else◌, string_bytes}
use Rattle.std.specs.BTreeMap.{get_by_text}
use Rattle.edit_shown.specs.Markdown.{line_view}
use Rattle.edit_shown.proofs.MarkdownLemmas.{has_text, rows_of, texts_of}
use Rattle.edit_shown.proofs.markdown.groups.push_groups.Given as goal

-- the text has the rows of the lines so far, and their cells are removed
abbrev pub invariant-loop-line : goal.invariant-loop-line
invariant-loop-line l = record {
  left : (q : List ℕ) → get_by_text l.groups q
      ≡ (if has_text q (texts_of (take l.line-index l.lines)) then None else get_by_text l.initial.groups q);
  rows : string_bytes l.text ≡ string_bytes l.initial.text
      ++ rows_of l.inputs (map line_view l.lines) (texts_of (take l.line-index l.lines));
}
