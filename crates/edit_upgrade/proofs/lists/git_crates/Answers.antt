use Rattle.std.proofs.Common.{◌≡◌, ◌∙◌, ap, map, rules}
use Rattle.std.specs.Prelude.{string_bytes}
use Rattle.std.specs.List.{list_any}
use Rattle.std.specs.Str.{bytes_eq}
use Rattle.edit_upgrade.proofs.ListLemmas.{text-any}
use Rattle.edit_upgrade.proofs.lists.git_crates.Goals as goal

pub returns : goal.returns
returns c = record {
  ok = record {
    ordered = search rules;
    each = λ name.
        let same : c.in_ok-names.names.items ≡ c.in_ok-set.set.keys = search rules in
        ap (λ ks. list_any (bytes_eq name) (map string_bytes ks)) same ∙ text-any name c.in_ok-set.set.keys
        ∙ c.in_ok-set.ensures.names name;
  };
}
