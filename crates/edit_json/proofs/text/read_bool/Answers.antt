use Rattle.std.proofs.Common.{◌≡◌, ◌∷◌, ap, ◌∙◌, arith}
use Rattle.json.specs.Token.{Token}
use Rattle.json.specs.Json.{value}
use Rattle.json.proofs.Grammar.{value_is}
use Rattle.serde_json.specs.Read.{of_json, converted}
use Rattle.edit_json.proofs.text.read_bool.Goals as goal

pub returns-in-Some-Bool-clause-value : goal.returns-in-Some-Bool-clause-value
returns-in-Some-Bool-clause-value c = λ depth.
    let is : c.args.reader.now ≡ Token.boolean c.in-Some-Bool.truth ∷ c.next.new.self = grind arith in
    ap (converted of_json) (ap (value depth) is ∙ value_is depth _)
