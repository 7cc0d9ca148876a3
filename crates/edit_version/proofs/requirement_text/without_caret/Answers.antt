use Rattle.std.proofs.Common.{lit<}
use Rattle.std.proofs.lemmas.Str.Pattern.{strip_prefix_char}
use Rattle.edit_version.proofs.Texts.{caret_absent, caret_stripped}
use Rattle.edit_version.proofs.requirement_text.without_caret.Goals as goal
use Rattle.std.specs.Prelude.{Some, None}

pub returns-in-Some : goal.returns-in-Some
returns-in-Some c =
    caret_stripped _ _ (strip_prefix_char 94 c.args.text.now (Some c.in-Some.rest) c.in-Some.ensures.cases
    (lit< tt))

pub returns-in-None : goal.returns-in-None
returns-in-None c =
    caret_absent _ (strip_prefix_char 94 c.args.text.now None c.in-None.ensures.cases (lit< tt))
