use Rattle.std.proofs.Common.{◌≡◌, Some, None, inr, refl, rules}
use Rattle.toml.specs.View.{table_view}
use Rattle.toml.specs.Parse.{parse_document}
use Rattle.edit_lock_bounds.specs.LockPackages.{packages_in}
use Rattle.edit_lock_bounds.specs.LockPackages.IsNoLock.{misshapen}
use Rattle.edit_lock_bounds.proofs.packages.read_packages.Goals as goal

pub returns-clause-error : goal.returns-clause-error
returns-clause-error c =
    let document : parse_document c.args.bytes.now ≡ Some (table_view c.in-Ok-table_from_str.table) =
    search rules in
    let none : packages_in (table_view c.in-Ok-table_from_str.table) ≡ None = search rules in
    inr (refl, misshapen _ document none)
