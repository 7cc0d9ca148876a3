use Rattle.edit_restricted_index.proofs.HoldLemmas.{has_element, map_test}
use Rattle.edit_restricted_index.proofs.version_tests.given_holds.Goals as goal

pub returns : goal.returns
returns c =
    map_test c.args.crates.now c.in_ok-holds.holds
    (has_element c.args.crates.now c.is_empty.result c.is_empty.ensures c.if-is_empty.false)
    c.in_ok-holds.ensures
