use Rattle.std.proofs.Common.{arith, ◌≡◌, ◌+◌, List, map, subst, take}
use Rattle.std.specs.Prelude.{String, string_bytes}
use Rattle.std.specs.BTreeSet.{contains_text}
use Rattle.std.specs.List.{list_any}
use Rattle.std.specs.Str.{bytes_eq}
use Rattle.std.specs.declared.alloc.Global.{Global}
use Rattle.std.proofs.lemmas.List.{take_all}
use Rattle.edit_upgrade.proofs.Steps.{names-more}
use Rattle.edit_upgrade.proofs.PackageArgLemmas.{set-more}
use Rattle.edit_upgrade.proofs.package_selection.name_set.Goals as goal

pub names-preserved : goal.names-preserved
names-preserved c = λ name.
    let i = c.names.name-index in
    set-more name (map string_bytes (take i c.args.names.now))
    (map string_bytes (take (i + 1) c.args.names.now))
    c.as_str.result.now (string_bytes c.name-item.result) (contains_text c.names.set name)
    (contains_text c.add_name.new.names name)
    (names-more string_bytes c.args.names.now i c.name-item.result c.names-test.true c.name-item.is)
    c.as_str.ensures.value (c.names.invariant name) (c.in_ok-add_name.ensures.ok name)

pub returns-clause-ok : goal.returns-clause-ok
returns-clause-ok c = λ name.
    subst (λ (xs : List (String Global)). contains_text c.names.set name
    ≡ list_any (bytes_eq name) (map string_bytes xs))
    (take_all c.names.name-index c.args.names.now (omega (arith, c.names-test.false)))
    (c.names.invariant name)
