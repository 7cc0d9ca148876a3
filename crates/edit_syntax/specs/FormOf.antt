-- The syntax tree that a text is parsed to.
use Rattle.std.specs.Prelude.{ℕ, List, Option}
use Rattle.edit_syntax.specs.Grammar.{Text}
use Rattle.edit_syntax.specs.Reading.{read_text}

-- the syntax tree of a text whose arrays and inline tables nest at most 80 deep
abbrev pub form_of : List ℕ → Option Text
form_of bytes = read_text 80 bytes
