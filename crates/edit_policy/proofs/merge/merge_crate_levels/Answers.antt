use Rattle.std.proofs.Common.{◌++◌, ◌∙◌, ap}
use Rattle.std.specs.Option.{option_to_list}
use Rattle.edit_policy.specs.Merged.{crate_level}
use Rattle.edit_policy.specs.declared.policy.CratePolicy.{CratePolicy}
use Rattle.edit_version.specs.Levels.{crate_levels}
use Rattle.edit_policy.proofs.LevelLemmas.{found_more}
use Rattle.edit_policy.proofs.merge.merge_crate_levels.Goals as goal

pub crates-preserved : goal.crates-preserved
crates-preserved c =
    let before = crate_levels c.crates.levels.items in
    found_more crate_level c.deref-krate-items.result.now c.crates.krate-index c.krate-item.result before
    (crate_levels c.append_level.new.levels.items) c.crates-test.true c.crates.invariant
    (c.in_ok-append_level.ensures
    ∙ ap (λ (one : CratePolicy). before ++ option_to_list (crate_level one)) c.krate-item.is)
