-- Worked decisions, one for each outcome.
use Rattle.std.proofs.Common.{◌≡◌, ℕ, List, [], Option, Some, None, true, false, refl}
use Rattle.std.specs.Prelude.{codes}
use Rattle.std.specs.Fmt.{digits}
use Rattle.semver.specs.Parse.{Parts}
use Rattle.semver.proofs.OnLiterals.{semver_on_literals}
use Rattle.edit_upgrade.specs.Decision.{Case, decision}
use Rattle.edit_report.specs.declared.row.Change.TheVariants as change
use Rattle.edit_upgrade.specs.declared.decision.options.Options.{Options}
use Rattle.edit_report.specs.declared.row.Reason.TheVariants as reason

-- a version of three numbers
abbrev version : ℕ → ℕ → ℕ → Parts
version major minor patch = (major, minor, patch, [], [])

-- an entry with this requirement, its compatible version and its latest one
abbrev entry : List ℕ → Option Parts → Option Parts → Case
entry old near far =
    record {
      excluded = false;
      renamed = false;
      never_lower = false;
      selected = None;
      old = old;
      compatible = near;
      latest = far;
    }

-- the compatible version is taken
pub compatible_taken : (o : Options) → o.pinned ≡ false → o.incompatible ≡ false → o.compatible ≡ true
    → decision o (entry (codes "1.0") (Some (version 1 2 3)) (Some (version 1 2 3)))
    ≡ record { new = codes "1.2"; change = Some change.Compatible; reason = None }
unfolding semver_on_literals digits
compatible_taken o p i c = rw (p, i, c) refl

-- the latest version is taken, where that is allowed
pub latest_taken : (o : Options) → o.pinned ≡ false → o.incompatible ≡ true → o.compatible ≡ true
    → decision o (entry (codes "2.0") None (Some (version 1 9 0)))
    ≡ record { new = codes "1.9"; change = Some change.Latest; reason = None }
unfolding semver_on_literals digits
latest_taken o p i c = rw i refl

-- a pinned requirement stays
pub pinned_stays : (o : Options) → o.pinned ≡ false → o.incompatible ≡ true → o.compatible ≡ true
    → decision o (entry (codes "=3") None (Some (version 4 0 0)))
    ≡ record { new = codes "=3"; change = None; reason = Some reason.Pinned }
unfolding semver_on_literals digits
pinned_stays o p i c = rw (p, i, c) refl

-- an incompatible version is left where it is not requested
pub incompatible_left : (o : Options) → o.pinned ≡ false → o.incompatible ≡ false → o.compatible ≡ true
    → decision o (entry (codes "0.2") (Some (version 0 2 5)) (Some (version 0 3 0)))
    ≡ record { new = codes "0.2"; change = None; reason = Some reason.Incompatible }
unfolding semver_on_literals digits
incompatible_left o p i c = rw (p, i, c) refl

-- an unreadable requirement stays
pub unreadable_stays : (o : Options)
    → decision o (entry (codes "one") None (Some (version 1 0 0)))
    ≡ record { new = codes "one"; change = None; reason = Some reason.Latest }
unfolding semver_on_literals digits
unreadable_stays o = refl

-- the same entry, where requirements are never to be lowered
abbrev floored : Case → Case
floored e = record e { never_lower = true }

-- a pre-release of a version of three numbers
abbrev pre_release : ℕ → ℕ → ℕ → List ℕ → Parts
pre_release major minor patch pre = (major, minor, patch, pre, [])

-- a latest version below the floor is not taken
pub lower_left : (o : Options) → o.pinned ≡ false → o.incompatible ≡ true → o.compatible ≡ true
    → decision o (floored (entry (codes "2.0") None (Some (version 1 9 0))))
    ≡ record { new = codes "2.0"; change = None; reason = Some reason.Latest }
unfolding semver_on_literals digits
lower_left o p i c = rw (i, c) refl

-- nor is a lower pre-release
pub lower_pre_left : (o : Options) → o.pinned ≡ false → o.incompatible ≡ true → o.compatible ≡ true
    → decision o (floored (entry (codes "2.0.0-rc.2") None (Some (pre_release 2 0 0 (codes "rc.1")))))
    ≡ record { new = codes "2.0.0-rc.2"; change = None; reason = Some reason.Latest }
unfolding semver_on_literals digits
lower_pre_left o p i c = rw (i, c) refl

-- without the option it is
pub lower_pre_taken : (o : Options) → o.pinned ≡ false → o.incompatible ≡ true → o.compatible ≡ true
    → decision o (entry (codes "2.0.0-rc.2") None (Some (pre_release 2 0 0 (codes "rc.1"))))
    ≡ record { new = codes "2.0.0-rc.1"; change = Some change.Latest; reason = None }
unfolding semver_on_literals digits
lower_pre_taken o p i c = rw i refl

-- the floor of `>1.5, <2` is 1.5.0
pub lower_pinned_left : (o : Options) → o.pinned ≡ true → o.compatible ≡ true
    → decision o (floored (entry (codes ">1.5, <2") None (Some (version 1 4 0))))
    ≡ record { new = codes ">1.5, <2"; change = None; reason = Some reason.Latest }
unfolding semver_on_literals digits
lower_pinned_left o p c = rw (p, c) refl

-- without the option the version is taken
pub lower_pinned_taken : (o : Options) → o.pinned ≡ true → o.compatible ≡ true
    → decision o (entry (codes ">1.5, <2") None (Some (version 1 4 0)))
    ≡ record { new = codes "1.4.0"; change = Some change.Latest; reason = None }
unfolding semver_on_literals digits
lower_pinned_taken o p c = rw p refl

-- `<2` has no floor
pub endless_taken : (o : Options) → o.pinned ≡ true → o.compatible ≡ true
    → decision o (floored (entry (codes "<2") (Some (version 1 5 0)) (Some (version 3 0 0))))
    ≡ record { new = codes "3.0.0"; change = Some change.Latest; reason = None }
unfolding semver_on_literals digits
endless_taken o p c = rw p refl

-- what was written then stays
pub endless_again : (o : Options) → o.pinned ≡ true → o.incompatible ≡ true → o.compatible ≡ true
    → decision o (floored (entry (codes "3.0.0") (Some (version 3 0 0)) (Some (version 3 0 0))))
    ≡ record { new = codes "3.0.0"; change = None; reason = Some reason.Latest }
unfolding semver_on_literals digits
endless_again o p i c = rw (i, c) refl

-- an entry for which a package argument gives this requirement
abbrev given : List ℕ → Case → Case
given req e = record e { selected = Some req }

-- the requirement that a package argument gives is taken
pub explicit_taken : (o : Options)
    → decision o (given (codes "1.1") (entry (codes "1.0") (Some (version 1 2 3)) (Some (version 1 2 3))))
    ≡ record { new = codes "1.1"; change = Some change.Explicit; reason = None }
unfolding semver_on_literals digits
explicit_taken o = refl

-- a pinned requirement stays also then
pub explicit_pinned : (o : Options) → o.pinned ≡ false → o.incompatible ≡ false → o.compatible ≡ true
    → decision o (given (codes "1.1")
    (entry (codes "=1.0.0") (Some (version 1 0 0)) (Some (version 1 2 3))))
    ≡ record { new = codes "=1.0.0"; change = None; reason = Some reason.Pinned }
unfolding semver_on_literals digits
explicit_pinned o p i c = rw (p, i, c) refl

-- an entry that is left out stays
pub excluded_stays : (o : Options)
    → decision o
    (record (entry (codes "1.0") (Some (version 1 2 3)) (Some (version 1 2 3))) { excluded = true })
    ≡ record { new = codes "1.0"; change = None; reason = Some reason.Excluded }
unfolding semver_on_literals digits
excluded_stays o = refl
