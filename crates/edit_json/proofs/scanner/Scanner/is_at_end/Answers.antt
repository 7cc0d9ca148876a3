use Rattle.std.proofs.Common.{◌≡◌, ℕ, ◌==◌, Bool, true, false, List, [], length, sym, ◌∙◌}
use Rattle.std.proofs.lemmas.Bool.{eqb-true}
use Rattle.std.specs.Bool.{OnTrue}
use Rattle.json.specs.Lex.{tokens}
use Rattle.json.specs.Token.{Token}
use Rattle.edit_json.proofs.LexemeLemmas.{tokens_empty}
use Rattle.edit_json.proofs.scanner.Scanner.is_at_end.Goals as goal

none_left : (b : Bool) (t : List ℕ) (ts : List Token) → b ≡ (length t == 0) → tokens t ≡ ts → OnTrue b (ts ≡ [])
none_left true t ts e view = sym view ∙ tokens_empty t (eqb-true (length t) 0 (sym e))
none_left false t ts e view = tt

pub returns : goal.returns
returns c = record { end = none_left c.is_empty.result c.self.inside.rest.now c.args.self.now c.is_empty.ensures c.self.view_is }
