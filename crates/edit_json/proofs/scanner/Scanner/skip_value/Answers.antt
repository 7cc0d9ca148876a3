use Rattle.std.proofs.Common.{length, ◌<◌, subst}
use Rattle.json.specs.Lex.{tokens}
use Rattle.edit_json.specs.Reads.{ReadsValue}
use Rattle.edit_json.specs.Taken.{BeginsWithValue}
use Rattle.edit_json.proofs.TakenValueLemmas.{value_taken-shorter}
use Rattle.edit_json.proofs.TakenLemmas.{takes_here}
use Rattle.edit_json.proofs.scanner.Scanner.skip_value.Goals as goal

pub returns-clause-shorter : goal.returns-clause-shorter
returns-clause-shorter c =
    let r = c.in_ok-self-inside.field-0.now in
    let less = value_taken-shorter c.args.depth c.self.inside.rest.now r c.in_ok-self-inside.ensures.value in
    subst (λ s. length (tokens r) < length s) c.self.view_is less

pub returns-clause-value : goal.returns-clause-value
returns-clause-value c =
    let r = c.in_ok-self-inside.field-0.now in
    let read = takes_here (BeginsWithValue c.args.depth) c.self.inside.rest.now r c.in_ok-self-inside.ensures.value in
    (read.0, subst (λ s. ReadsValue c.args.depth s read.0 (tokens r)) c.self.view_is read.1)
