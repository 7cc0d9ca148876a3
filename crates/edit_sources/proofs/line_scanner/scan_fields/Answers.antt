use Rattle.std.proofs.Common.{◌≡◌, [], ◌∷◌, length, Some, ap, ◌∙◌, arith}
use Rattle.json.specs.Token.{Token}
use Rattle.json.specs.Lex.{tokens}
use Rattle.json.specs.Json.{members, value, parse_map}
use Rattle.json.proofs.Grammar.{value-begin_object}
use Rattle.serde_json.specs.Data.{object}
use Rattle.serde_json.specs.Read.{of_json, converted}
use Rattle.edit_json.proofs.GrammarLemmas.{converted-object, whole_read}
use Rattle.edit_sources.proofs.line_scanner.scan_fields.Goals as goal

pub returns-then-is_at_end : goal.returns-then-is_at_end
returns-then-is_at_end c =
    let found = c.in_ok-fields.ensures.value in
    let r = c.begin_object.new.self in
    let opened : tokens c.args.text.now ≡ Token.begin_object ∷ r = grind arith in
    let ended : c.scan_members.new.scanner ≡ [] = grind arith in
    record {
      value = (
        found.0,
        whole_read (value 127 (tokens c.args.text.now)) (object found.0)
            (ap (converted of_json) (ap (value 127) opened ∙ value-begin_object 127 r (omega arith))
            ∙ converted-object (members (value 126) (length r) r) ∙ ap (parse_map object) found.1 ∙ ap (λ s. Some (object found.0, s)) ended),
        found.2,
      );
    }
