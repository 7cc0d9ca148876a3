use Rattle.std.proofs.Common.{List, ap, subst}
use Rattle.edit_metadata.specs.Reading.{holds}
use Rattle.edit_upgrade.specs.Names.{HasNames}
use Rattle.edit_shown.specs.HeldBack.{dated_addresses}
use Rattle.std.proofs.lemmas.List.{take_all}
use Rattle.edit_upgrade.specs.declared.upgrade.Look.{Look}
use Rattle.edit_shown.proofs.HeldBackLemmas.{addresses_more}
use Rattle.edit_shown.proofs.held_back.dated_addresses.Goals as goal

pub lookups-preserved : goal.lookups-preserved
lookups-preserved c =
    addresses_more c.args.lookups.now c.lookups.lookup-index c.lookup-item.result
    c.withheld_at-dated.result.dated c.address_of.result.now (holds c.lookups.set)
    (holds c.add_address.new.set) c.lookups-test.true
    c.lookup-item.is (ap (λ w. w.dated) c.withheld_at-dated.ensures) c.address_of.ensures c.lookups.invariant
    c.in_ok-add_address.ensures

pub returns : goal.returns
returns c =
    subst (λ (lookups : List Look). HasNames c.lookups.set (dated_addresses lookups))
    (take_all c.lookups.lookup-index c.args.lookups.now c.lookups-test.false) c.lookups.invariant
