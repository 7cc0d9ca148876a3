use Rattle.std.proofs.Common.{rules, ◌≡◌, option_copied}
use Rattle.std.specs.declared.cmp.Ordering.TheVariants.{Greater}
use Rattle.semver.specs.Identifiers.{parts_of}
use Rattle.edit_version.specs.VersionOrder.{full_order}
use Rattle.edit_set_version.proofs.Greater.{greater_taken}
use Rattle.edit_set_version.proofs.bump.bump_to_version.Goals as goal

pub returns-in_ok-fill_requested-in-Greater-clause-greater :
    goal.returns-in_ok-fill_requested-in-Greater-clause-greater
returns-in_ok-fill_requested-in-Greater-clause-greater c =
    let above : full_order (parts_of c.args.requested.now) (parts_of c.args.current.now) ≡ Greater =
    search rules in
    greater_taken (option_copied c.args.metadata) (parts_of c.args.current.now)
    (parts_of c.args.requested.now) (parts_of c.in_ok-fill_requested-in-Greater.field-0) above
    c.in_ok-fill_requested-in-Greater.ensures.made
