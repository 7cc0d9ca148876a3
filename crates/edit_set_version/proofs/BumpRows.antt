-- Worked examples of bumps, over the parts of versions (the digits of a number do not compute, so they are
-- given as `decimal`).
use Rattle.std.proofs.Common.{◌≡◌, ℕ, Bool, true, false, List, [], ◌++◌, Some, None, refl}
use Rattle.std.specs.Prelude.{codes}
use Rattle.std.specs.Fmt.{decimal}
use Rattle.semver.specs.Parse.{Parts}
use Rattle.edit_version.specs.Increments.{AtEnd, Metadata, Scheme, To}
use Rattle.edit_set_version.specs.Bumps.{Bumped, becomes, by_level, bump, exactly, lower, raised_by, refused, stays}
use Rattle.edit_set_version.specs.declared.set_version.BumpLevel.{BumpLevel}
use Rattle.edit_set_version.specs.declared.set_version.BumpLevel.TheVariants as level

-- a pre-release of 1.0.1
abbrev pre : List ℕ → Parts
pre text = (1, 0, 1, text, [])

-- a version with neither pre-release nor build metadata
abbrev plain : ℕ → ℕ → ℕ → Parts
plain a b c = (a, b, c, [], [])

-- raised by a level, with no build metadata given
abbrev raised : BumpLevel → Parts → Bumped
raised l v = bump (by_level l) None v

-- the first pre-release of a name, or a later one
abbrev at : List ℕ → ℕ → Parts
at front n = pre (front ++ decimal n)

-- a change that is refused
abbrev is_refused : Bumped → Bool
is_refused (refused r) = true
is_refused _ = false

-- patch of a pre-release only empties it
patch_of_rc : raised level.Patch (pre (codes "rc.1")) ≡ becomes (plain 1 0 1)
patch_of_rc = refl

patch_of_plain : raised level.Patch (plain 1 0 1) ≡ becomes (plain 1 0 2)
patch_of_plain = refl

-- build metadata that is given
minor_with_build : bump (by_level level.Minor) (Some (codes "lib.9")) (plain 1 2 3)
    ≡ becomes (1, 3, 0, [], codes "lib.9")
minor_with_build = refl

release_with_build : bump (by_level level.Release) (Some (codes "git.123456")) (plain 1 0 0)
    ≡ becomes (1, 0, 0, [], codes "git.123456")
release_with_build = refl

bad_build : bump (by_level level.Release) (Some (codes "a b")) (plain 1 0 0)
    ≡ refused (Metadata (codes "a b"))
bad_build = refl

-- a release of a version that is one
release_of_release : raised level.Release (plain 1 0 0) ≡ stays
release_of_release = refl

-- a minor version, and the least of its kind
minor : raised level.Minor (plain 0 1 0) ≡ becomes (plain 0 2 0)
minor = refl

-- phases: the first of a later one, or the next number
dev_alpha : raised level.Alpha (pre (codes "dev")) ≡ becomes (at (codes "alpha.") 1)
dev_alpha = refl

dev_beta : raised level.Beta (pre (codes "dev")) ≡ becomes (at (codes "beta.") 1)
dev_beta = refl

dev_rc : raised level.Rc (pre (codes "dev")) ≡ becomes (at (codes "rc.") 1)
dev_rc = refl

alpha_alpha : raised_by level.Alpha (pre (codes "alpha.1")) ≡ To (at (codes "alpha.") 2)
alpha_alpha = refl

alpha_beta : raised level.Beta (pre (codes "alpha.1")) ≡ becomes (at (codes "beta.") 1)
alpha_beta = refl

beta_beta : raised_by level.Beta (pre (codes "beta.1")) ≡ To (at (codes "beta.") 2)
beta_beta = refl

rc_rc : raised_by level.Rc (pre (codes "rc.1")) ≡ To (at (codes "rc.") 2)
rc_rc = refl

plain_beta : raised level.Beta (plain 1 0 0) ≡ becomes (at (codes "beta.") 1)
plain_beta = refl

plain_rc : raised level.Rc (plain 1 0 0) ≡ becomes (at (codes "rc.") 1)
plain_rc = refl

-- backwards it goes nowhere
beta_alpha : is_refused (raised level.Alpha (pre (codes "beta.1"))) ≡ true
beta_alpha = refl

rc_beta : is_refused (raised level.Beta (pre (codes "rc.1"))) ≡ true
rc_beta = refl

no_scheme : raised level.Alpha (pre (codes "alpha.x")) ≡ refused Scheme
no_scheme = refl

at_end : raised level.Major (plain 18446744073709551615 0 0) ≡ refused AtEnd
at_end = refl

-- a given version: only upwards
downgrade : bump (exactly (plain 1 0 0)) None (plain 2 0 0) ≡ lower (plain 1 0 0)
downgrade = refl

from_dev : bump (exactly (plain 2022 3 0)) None (2022, 3, 0, codes "dev-12345", [])
    ≡ becomes (plain 2022 3 0)
from_dev = refl

-- without build metadata of its own it keeps the current one
keeps_build : bump (exactly (plain 2 0 0)) None (1, 0, 0, [], codes "git.1")
    ≡ becomes (2, 0, 0, [], codes "git.1")
keeps_build = refl

-- odd: the order is decided before build metadata is filled in, so the same version without it is a downgrade
lower_by_build : bump (exactly (plain 1 0 0)) None (1, 0, 0, [], codes "git.1") ≡ lower (plain 1 0 0)
lower_by_build = refl
