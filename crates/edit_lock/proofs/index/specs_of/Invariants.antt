use Rattle.std.proofs.Common.{◌≡◌, List, ℕ, map, take}
use Rattle.std.specs.BTreeSet.{contains_text}
use Rattle.edit_lock.specs.AdaptedCalls.{locks}
use Rattle.edit_lock.specs.Views.{locked_package_view}
use Rattle.edit_lock.proofs.index.specs_of.Given as goal

abbrev pub invariant-packages : goal.invariant-packages
invariant-packages l = (q : List ℕ) → contains_text l.specs q
    ≡ locks (map locked_package_view (take l.package-index l.packages)) q
