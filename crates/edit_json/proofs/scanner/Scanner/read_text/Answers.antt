use Rattle.std.proofs.Common.{◌≡◌, ◌∷◌, sym, ap, ◌∙◌}
use Rattle.json.specs.Token.{string}
use Rattle.edit_json.proofs.ValueLemmas.{reads_string}
use Rattle.edit_json.proofs.scanner.Scanner.read_text.Goals as goal

pub returns-in-Ok-clause-value : goal.returns-in-Ok-clause-value
returns-in-Ok-clause-value c = λ depth.
    let r = c.text.new.self in
    let is : c.args.self.now ≡ string c.in-Ok.text.now ∷ r = c.in_ok-text.ensures.token ∙ ap (λ s. string s ∷ r) (sym c.in-Ok.ensures.cases.0) in
    reads_string depth c.args.self.now r c.in-Ok.text.now is
