use Rattle.std.proofs.Common.{◌≡◌, Bor, List, Option, Some, ap, map, option_map, subst, sym}
use Rattle.edit_lock.specs.Views.{locked_package_view}
use Rattle.edit_lock.specs.declared.lock.LockedPackage.{LockedPackage}
use Rattle.edit_restricted_index.specs.Restrictions.{has_version}
use Rattle.edit_restricted_index.specs.VersionTests.{spec_test}
use Rattle.edit_restricted_index.proofs.EntryLemmas.{same_versions}
use Rattle.edit_restricted_index.proofs.version_tests.given_specs.Goals as goal

pub returns : goal.returns
returns c =
    subst (λ (p : Option (Bor (List LockedPackage))). option_map spec_test (Some c.in_ok-specs.specs)
    ≡ option_map has_version (option_map (λ ps. map locked_package_view ps.now) p)) (sym c.in-Some.is)
    (ap (λ t. Some t) (same_versions c.in_ok-specs.specs (map locked_package_view c.in-Some.packages.now)
    c.in_ok-specs.ensures))
