use Rattle.std.proofs.Common.{◌≡◌, ◌∷◌, arith}
use Rattle.json.specs.Token.{boolean}
use Rattle.edit_json.proofs.ValueLemmas.{reads_boolean}
use Rattle.edit_json.proofs.scanner.Scanner.read_bool.Goals as goal

pub returns-in-Some-Bool-clause-value : goal.returns-in-Some-Bool-clause-value
returns-in-Some-Bool-clause-value c = λ depth.
    let is : c.args.self.now ≡ boolean c.in-Some-Bool.truth ∷ c.literal.new.self = grind arith in
    reads_boolean depth c.args.self.now c.literal.new.self c.in-Some-Bool.truth is
