use Rattle.std.proofs.lemmas.Option.{IfSome_then}
use Rattle.std.proofs.lemmas.Result.{IfOk-weaker}
use Rattle.serde_json.specs.Data.{object}
use Rattle.edit_sources.proofs.index_lines.entry_from_tokens.Goals as goal

pub returns-in-Some-clause-ok : goal.returns-in-Some-clause-ok
returns-in-Some-clause-ok c =
    let found = c.in-Some.ensures in
    IfOk-weaker c.fields_entry.result _ _
    (λ o h. IfSome_then o h (λ v says. record {
      value = object found.0;
      utf8 = found.1;
      reads = found.2;
      says = says found.0 found.3;
    })) c.fields_entry.ensures.ok
