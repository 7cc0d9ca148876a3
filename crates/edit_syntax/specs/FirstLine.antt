-- The first of several lines: its tokens, and the text after it.
use Rattle.std.specs.Prelude.{ℕ, List, []}
use Rattle.edit_syntax.specs.declared.read.syntax_tokens.SyntaxToken.{SyntaxToken}
use Rattle.edit_syntax.specs.Strings.{line_end}
use Rattle.edit_syntax.specs.Grammar.{Lines, one_line, more_lines, lines}
use Rattle.edit_syntax.specs.SyntaxTokens.{tokens_of_line}

-- the text after the first line: empty, or the line's newline and the other lines
abbrev pub after_first : Lines → List ℕ
after_first (one_line l) = []
after_first (more_lines l e ls) = line_end e (lines ls)

-- the tokens of the first line
abbrev pub tokens_of_first_line : Lines → List SyntaxToken
tokens_of_first_line (one_line l) = tokens_of_line l []
tokens_of_first_line (more_lines l e ls) = tokens_of_line l (line_end e (lines ls))
