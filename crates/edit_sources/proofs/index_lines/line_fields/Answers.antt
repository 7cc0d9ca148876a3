use Rattle.std.proofs.Common.{rules, ◌≡◌, ap, sym, ◌∙◌, arith}
use Rattle.std.specs.Str.{IsUtf8}
use Rattle.serde_json.specs.Read.{read}
use Rattle.std.proofs.lemmas.Option.{IfSome_then}
use Rattle.edit_sources.proofs.index_lines.line_fields.Goals as goal

pub returns : goal.returns
returns c =
    let same : c.in-Ok.text.now ≡ c.args.bytes.now = grind arith in
    let utf8 : IsUtf8 c.args.bytes.now = search rules in
    IfSome_then c.read_fields.result c.read_fields.ensures.value
    (λ f found. (found.0, utf8, ap read (sym same) ∙ found.1, found.2))
