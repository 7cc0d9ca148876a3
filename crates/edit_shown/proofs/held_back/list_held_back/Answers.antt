use Rattle.edit_metadata.specs.Reading.{holds}
use Rattle.edit_shown.proofs.HeldBackLemmas.{held_is}
use Rattle.edit_shown.proofs.held_back.list_held_back.Goals as goal

pub returns : goal.returns
returns c =
    held_is c.args.plan.now c.args.options.now (holds c.in_ok-excluded.excluded) c.as_slice.result.now
    c.as_slice-lookups.result.now c.in_ok-younger.younger.items c.in_ok-undated.undated.items
    c.in_ok-registries.registries.items c.in_ok-excluded.ensures c.as_slice.ensures.value
    c.as_slice-lookups.ensures.value c.in_ok-younger.ensures c.in_ok-undated.ensures c.in_ok-registries.ensures
