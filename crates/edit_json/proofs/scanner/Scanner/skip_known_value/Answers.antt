use Rattle.std.proofs.Common.{length, ◌<◌, subst}
use Rattle.json.specs.Lex.{tokens}
use Rattle.edit_json.proofs.TakenValueLemmas.{value_shorter}
use Rattle.edit_json.proofs.scanner.Scanner.skip_known_value.Goals as goal

pub returns-in-Some-skip-clause-shorter : goal.returns-in-Some-skip-clause-shorter
returns-in-Some-skip-clause-shorter c =
    let r = c.in-Some-skip.rest.now in
    let read = c.in-Some-skip.ensures.value in
    let less = value_shorter c.args.depth (tokens c.self.inside.rest.now) (tokens r) read.0 read.1 in
    subst (λ s. length (tokens r) < length s) c.self.view_is less

pub returns-clause-shorter : goal.returns-clause-shorter
returns-clause-shorter c =
    let r = c.in_ok-rest.rest.now in
    let read = c.in_ok-rest.ensures.value in
    let less = value_shorter c.args.depth (tokens c.self.inside.rest.now) (tokens r) read.0 read.1 in
    subst (λ s. length (tokens r) < length s) c.self.view_is less
