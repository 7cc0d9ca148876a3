use Rattle.std.proofs.Common.{arith, ◌≡◌, ◌+◌, List, ap, map, not, subst, take}
use Rattle.std.specs.Prelude.{String, filter, string_bytes}
use Rattle.std.specs.BTreeSet.{contains_text}
use Rattle.std.specs.declared.alloc.Global.{Global}
use Rattle.std.proofs.lemmas.List.{take_all}
use Rattle.edit_upgrade.proofs.MissingLemmas.{unknown-more}
use Rattle.edit_upgrade.proofs.Steps.{names-more}
use Rattle.edit_upgrade.proofs.missing.unknown_names.Goals as goal

pub names-init : goal.names-init
names-init c = ap (map string_bytes) c.new-missing.ensures.items

pub names-preserved : goal.names-preserved
names-preserved c =
    let i = c.names.name-index in
    unknown-more (contains_text c.args.known.now) (map string_bytes (take i c.args.names.now))
    (map string_bytes (take (i + 1) c.args.names.now)) c.as_str.result.now (string_bytes c.name-item.result)
    (map string_bytes c.names.missing.items) (map string_bytes c.push_unknown.new.missing.items)
    (names-more string_bytes c.args.names.now i c.name-item.result c.names-test.true c.name-item.is)
    c.as_str.ensures.value c.names.invariant c.in_ok-push_unknown.ensures.ok

pub returns-clause-ok : goal.returns-clause-ok
returns-clause-ok c =
    subst (λ (xs : List (String Global)). map string_bytes c.names.missing.items
    ≡ filter (λ name. not (contains_text c.args.known.now name)) (map string_bytes xs))
    (take_all c.names.name-index c.args.names.now (omega (arith, c.names-test.false))) c.names.invariant
