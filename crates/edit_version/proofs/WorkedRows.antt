-- Examples: requirements that cannot be upgraded, pre-releases and carets; increments and build metadata.
use Rattle.std.proofs.Common.{◌≡◌, ◌-◌, ◌^◌, [], None, Some, refl}
use Rattle.std.specs.Prelude.{codes}
use Rattle.std.specs.Fmt.{digits}
use Rattle.semver.specs.Parse.{Parts}
use Rattle.semver.specs.declared.Op.TheVariants as op
use Rattle.semver.proofs.OnLiterals.{semver_on_literals}
use Rattle.edit_version.specs.declared.version.Phase.TheVariants as phase
use Rattle.edit_version.specs.Requirement.{upgrade_of, Unsupported, Text}
use Rattle.edit_version.specs.Increments.{Major, Minor, Patch, Pre, Behind, Scheme, AtEnd, Metadata, Refused, To, step, with_build}

-- 2.0.0
abbrev two : Parts
two = (2, 0, 0, [], [])

-- 2.0.0-rc.1
abbrev two_rc : Parts
two_rc = (2, 0, 0, codes "rc.1", [])

-- ---- raising

-- an inequality is an error, which has it as it was read
pub above_refused : upgrade_of (codes ">=1.2") two ≡ Unsupported (op.GreaterEq, 1, Some 2, None, [])
unfolding semver_on_literals digits
above_refused = refl

-- the error has the first inequality, also after another comparator
pub below_refused : upgrade_of (codes "1, <2, >0") two ≡ Unsupported (op.Less, 2, None, None, [])
unfolding semver_on_literals digits
below_refused = refl

-- the version's pre-release is taken
pub pre_release_taken : upgrade_of (codes "1.0.0") two_rc ≡ Text (codes "2.0.0-rc.1")
unfolding semver_on_literals digits
pre_release_taken = refl

-- the requirement's own pre-release goes
pub pre_release_dropped : upgrade_of (codes "1.0.0-beta.2") two ≡ Text (codes "2.0.0")
unfolding semver_on_literals digits
pre_release_dropped = refl

-- a caret at the start of the text is preserved
pub caret_remains : upgrade_of (codes "^1.2") two ≡ Text (codes "^2.0")
unfolding semver_on_literals digits
caret_remains = refl

-- none is added
pub caret_not_added : upgrade_of (codes "1.2") two ≡ Text (codes "2.0")
unfolding semver_on_literals digits
caret_not_added = refl

-- ---- increments

-- 1.2.3-beta.4+a
abbrev beta : Parts
beta = (1, 2, 3, codes "beta.4", codes "a")

-- lower numbers, the pre-release and the build metadata go
pub major_next : step Major beta ≡ To (2, 0, 0, [], [])
major_next = refl

pub minor_next : step Minor beta ≡ To (1, 3, 0, [], [])
minor_next = refl

-- the patch number rises also where a pre-release goes
pub patch_next : step Patch beta ≡ To (1, 2, 4, [], [])
patch_next = refl

-- the greatest number of 64 bits rises no further
pub major_at_end : step Major (2 ^ 64 - 1, 0, 0, [], []) ≡ Refused AtEnd
major_at_end = refl

-- the first pre-release of the next patch version
pub first_alpha : step (Pre phase.Alpha) (1, 2, 3, [], codes "a") ≡ To (1, 2, 4, codes "alpha.1", [])
unfolding digits
first_alpha = refl

-- the next number of the same phase; the build metadata stays
pub next_beta : step (Pre phase.Beta) beta ≡ To (1, 2, 3, codes "beta.5", codes "a")
unfolding digits
next_beta = refl

-- the first of a later phase
pub rc_after_beta : step (Pre phase.Rc) beta ≡ To (1, 2, 3, codes "rc.1", codes "a")
unfolding digits
rc_after_beta = refl

-- no way back
pub alpha_after_beta : step (Pre phase.Alpha) beta ≡ Refused (Behind phase.Alpha)
unfolding digits
alpha_after_beta = refl

-- a name without a number counts as its number 0
pub alpha_without_number : step (Pre phase.Alpha) (1, 2, 3, codes "alpha", [])
    ≡ To (1, 2, 3, codes "alpha.1", [])
unfolding digits
alpha_without_number = refl

-- more than a name and a number
pub two_dots_refused : step (Pre phase.Alpha) (1, 2, 3, codes "alpha.1.2", []) ≡ Refused Scheme
unfolding digits
two_dots_refused = refl

-- ---- build metadata

-- the new metadata in the place of the old
pub build_set : with_build (codes "b.7") beta ≡ To (1, 2, 3, codes "beta.4", codes "b.7")
build_set = refl

-- an empty part is none
pub build_refused : with_build (codes "b..7") beta ≡ Refused (Metadata (codes "b..7"))
build_refused = refl
