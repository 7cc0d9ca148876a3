use Rattle.std.proofs.Common.{rules, ◌≡◌, Some, option_map, string_bytes, sym, ap, ◌∙◌}
use Rattle.edit_sources.proofs.index_lines.fields_entry.Goals as goal

pub returns-clause-ok : goal.returns-clause-ok
returns-clause-ok c =
    let name : string_bytes c.in_ok-from_str.field-0 ≡ c.in-Some.name.now = search rules in
    let version : string_bytes c.in_ok-from_str-2.field-0 ≡ c.in-Some-version.version.now = search rules in
    λ ms says. record {
      name = says.name ∙ ap (option_map (λ s. s.now)) c.in-Some.is ∙ ap Some (sym name);
      version = says.version ∙ ap (option_map (λ s. s.now)) c.in-Some-version.is ∙ ap Some (sym version);
      yanked = says.yanked;
      rust_version = says.rust_version ∙ ap Some (sym c.in_ok-clone_optional_str.ensures);
    }
