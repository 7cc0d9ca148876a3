use Rattle.std.proofs.Common.{◌≡◌, List, ◌++◌, ap, ◌∙◌}
use Rattle.std.specs.Prelude.{unwrap_or}
use Rattle.edit_syntax.specs.declared.read.syntax_tokens.SyntaxToken.{SyntaxToken}
use Rattle.edit_syntax.specs.FirstLine.{tokens_of_first_line}
use Rattle.edit_syntax.specs.Grammar.{lines}
use Rattle.edit_syntax.specs.SyntaxTokens.{tokens_of_statement}
use Rattle.edit_syntax.proofs.Members.{contained_among}
use Rattle.edit_rewrite.specs.declared.locate.Entry.{Entry}
use Rattle.edit_tree.specs.Statements.{placed_statements, line_pairs}
use Rattle.edit_rewrite.proofs.EntryCuts.{statements_stand}
use Rattle.edit_rewrite.proofs.LineEntries.{line_around, around_as}
use Rattle.edit_rewrite.proofs.SuffixTexts.{cut_rest}
use Rattle.edit_rewrite.proofs.StatementSuffixes.{stated_offsets}
use Rattle.edit_rewrite.proofs.replace_entry.pair_offsets.Goals as goal

pub returns-clause-around : goal.returns-clause-around
returns-clause-around c form place s m one listed is kind =
    let text = c.args.text.now in
    let seen = c.as_slice-seen.result.now in
    let among = contained_among s (placed_statements form) listed in
    let st = statements_stand text form m c.utf8.text s among in
    let offsets = stated_offsets text form m c.utf8.text s among in
    let here : c.as_bytes.result.now ≡ lines st.left =
    c.as_bytes.ensures.value ∙ c.between.ensures
    ∙ cut_rest text s.line c.args.entry.line offsets.line (ap (λ (x : Entry). x.line) is) ∙ st.spelled in
    let f = c.in-Ok.ensures.only st.left here st.well st.shallow in
    let tokens : seen ≡ tokens_of_statement s.statement s.behind =
    c.as_slice-seen.ensures.value ∙ f.1
    ∙ ap (λ (xs : List SyntaxToken). xs ++ tokens_of_first_line st.left) c.new-tokens.ensures.items ∙ st.tokens_are in
    around_as place (line_pairs form) _ (c.unwrap_or.result, c.last_to.result)
    (line_around text form place s seen c.args.entry one c.utf8.text st among is kind tokens)
    (c.unwrap_or.ensures ∙ ap (unwrap_or c.args.entry.front) c.key_end.ensures) c.last_to.ensures
