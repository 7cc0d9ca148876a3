use Rattle.std.proofs.Common.{◌≡◌, ℕ, cond, Option, Some, ap, ◌∙◌, String, Global}
use Rattle.std.specs.Prelude.{string_bytes}
use Rattle.std.specs.BTreeMap.{BTreeMap, get_by_text}
use Rattle.std.specs.Str.{bytes_eq}
use Rattle.std.proofs.lemmas.Map.Text.{btree_map_updates_text}
use Rattle.edit_tree.specs.Nodes.{number_of}
use Rattle.edit_tree.proofs.nodes.Lookup.insert.Goals as goal

pub returns : goal.returns
returns c = record {
  added = λ other.
      let name = string_bytes c.args.name in
      let old = c.deref_mut.result.now in
      let seen : get_by_text old other ≡ number_of c.args.self.now other =
      ap (λ (m : BTreeMap (String Global) ℕ). get_by_text m other) c.deref_mut.ensures.value ∙
      (c.in_ok-table.ensures {u = tt}).same other in
      btree_map_updates_text name old c.insert.new.self (Some c.args.number)
      (c.in_ok-insert.ensures {u = tt}).updates other ∙
      ap (λ (o : Option ℕ). cond (bytes_eq name other) (Some c.args.number) o) seen;
}
