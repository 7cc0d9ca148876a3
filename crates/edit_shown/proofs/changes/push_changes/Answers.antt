use Rattle.std.proofs.Common.{◌≡◌, ◌∙◌, ℕ, ◌<◌, ◌+◌, List, [], ◌++◌, ap, append_assoc, get_or, length, map, sym, take}
use Rattle.std.specs.Prelude.{String, string_bytes}
use Rattle.std.specs.declared.alloc.Global.{Global}
use Rattle.std.proofs.lemmas.List.{flat_map_more, map_more}
use Rattle.edit_shown.specs.Messages.{change_message, changes, line_texts}
use Rattle.edit_shown.proofs.changes.push_changes.Goals as goal

-- the messages of so many lines, and that of a line more
more : (lines : List (String Global × String Global)) (i : ℕ) (line : String Global × String Global)
    → i < length lines → line ≡ get_or lines i line
    → changes (map line_texts (take i lines)) ++ change_message (line_texts line)
    ≡ changes (map line_texts (take (i + 1) lines))
more lines i line within is =
    ap (λ l. changes (map line_texts (take i lines)) ++ change_message (line_texts l)) is
    ∙ flat_map_more change_message [] (map line_texts (take i lines)) (line_texts (get_or lines i line))
    ∙ sym (ap changes (map_more line_texts lines i line within))

pub loop-line-preserved : goal.loop-line-preserved
loop-line-preserved c =
    let lines = c.args.lines.now in
    let before = changes (map line_texts (take c.loop-line.line-index lines)) in
    let message = change_message (line_texts c.line-item.result) in
    let text = string_bytes c.args.text.now in
    c.in_ok-push_change.ensures.text
    ∙ ap (λ t. t ++ message) c.loop-line.invariant
    ∙ append_assoc text before message
    ∙ ap (λ t. text ++ t)
    (more lines c.loop-line.line-index c.line-item.result c.loop-line-test.true c.line-item.is)
