use Rattle.std.proofs.Common.{◌≡◌, None, Some, rules}
use Rattle.std.specs.Str.{IsUtf8}
use Rattle.toml.specs.View.{table_view}
use Rattle.toml.specs.Parse.{parse_document}
use Rattle.edit_fetch.specs.Settings.IsNoDocument.{not_utf8, not_toml}
use Rattle.edit_fetch.specs.Settings.HasValues.{document, nothing}
use Rattle.edit_fetch.proofs.settings.file.values_of_bytes.Goals as goal

pub returns-in_default-clause-says : goal.returns-in_default-clause-says
returns-in_default-clause-says c =
    let none : IsUtf8 c.args.bytes.now → ⊥ = search rules in
    nothing (not_utf8 none) c.no_values.ensures

pub returns-in-Ok-values_in-clause-says : goal.returns-in-Ok-values_in-clause-says
returns-in-Ok-values_in-clause-says c =
    let utf8 : IsUtf8 c.args.bytes.now = search rules in
    let reads : parse_document c.args.bytes.now ≡ Some (table_view c.in-Ok-table_from_str.document) =
    search rules in
    document _ utf8 reads c.in-Ok-values_in.ensures.values

pub returns-clause-says : goal.returns-clause-says
returns-clause-says c =
    let none : parse_document c.args.bytes.now ≡ None = search rules in
    nothing (not_toml none) c.no_values-in-Err-2.ensures
