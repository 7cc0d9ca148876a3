use Rattle.std.proofs.Common.{◌∙◌, ap, subst, sym}
use Rattle.std.specs.Prelude.{IfSome, option_and_then}
use Rattle.serde_json.specs.Data.{Members, object}
use Rattle.edit_version.specs.IndexEntry.{entry_of}
use Rattle.edit_sources.specs.IndexLines.{IsEntryValue}
use Rattle.edit_sources.specs.LineFields.{HasFields}
use Rattle.edit_sources.specs.Published.{instant_of}
use Rattle.edit_sources.proofs.published_lines.dated_from_tokens.Goals as goal

pub returns-clause-ok : goal.returns-clause-ok
returns-clause-ok c =
    let found = c.in-Some.ensures in
    let says = subst (λ o. IfSome o (λ v. (ms : Members) → HasFields c.in-Some.fields ms
    → IsEntryValue (object ms) (entry_of v))) c.in-Some-2.is c.in_ok-entry.ensures.ok in
    record {
      entry = record {
        value = object found.0;
        utf8 = found.1;
        reads = found.2;
        says = says found.0 found.3;
      };
      published = c.optional_instant-published.ensures ∙ ap (option_and_then instant_of) (sym found.3.published);
    }
