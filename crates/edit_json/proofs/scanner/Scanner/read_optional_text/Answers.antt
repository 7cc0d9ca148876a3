use Rattle.std.proofs.Common.{◌≡◌, ◌∷◌, arith}
use Rattle.json.specs.Token.{null}
use Rattle.edit_json.proofs.ValueLemmas.{reads_null}
use Rattle.edit_json.proofs.scanner.Scanner.read_optional_text.Goals as goal

pub returns-in-Some-Null-clause-value : goal.returns-in-Some-Null-clause-value
returns-in-Some-Null-clause-value c = λ depth.
    let is : c.args.self.now ≡ null ∷ c.literal.new.self = grind arith in
    reads_null depth c.args.self.now c.literal.new.self is
