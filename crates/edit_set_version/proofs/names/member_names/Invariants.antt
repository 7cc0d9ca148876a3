use Rattle.std.proofs.Common.{◌≡◌, List, ℕ, take}
use Rattle.std.specs.BTreeSet.{contains_text}
use Rattle.edit_metadata.specs.Workspaces.{packages_view}
use Rattle.edit_set_version.specs.Chosen.{is_among}
use Rattle.edit_set_version.specs.Missing.{names_of}
use Rattle.edit_set_version.proofs.names.member_names.Given as goal

abbrev pub invariant-packages : goal.invariant-packages
invariant-packages l = (q : List ℕ) → contains_text l.names q
    ≡ is_among (names_of (packages_view (take l.package_info-index l.packages))) q
