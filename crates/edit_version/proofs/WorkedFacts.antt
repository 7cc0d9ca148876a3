-- Examples of upgraded requirements, computed by the definition.
use Rattle.std.proofs.Common.{◌≡◌, [], refl}
use Rattle.std.specs.Prelude.{codes}
use Rattle.std.specs.Fmt.{digits}
use Rattle.semver.specs.Parse.{Parts}
use Rattle.semver.proofs.OnLiterals.{semver_on_literals}
use Rattle.edit_version.specs.Requirement.{upgrade_of, Unread, Nothing, Text}

-- 2.0.0
abbrev two : Parts
two = (2, 0, 0, [], [])

-- both comparators are raised
pub both_raised : upgrade_of (codes "1, 1") two ≡ Text (codes "2, ^2")
unfolding semver_on_literals digits
both_raised = refl

-- raised again they stay
pub both_stay : upgrade_of (codes "2, ^2") two ≡ Nothing
unfolding semver_on_literals digits
both_stay = refl

-- a number that is left out stays out
pub partial_raised : upgrade_of (codes "~1.0") two ≡ Text (codes "~2.0")
unfolding semver_on_literals digits
partial_raised = refl

-- a wildcard keeps its star
pub wildcard_raised : upgrade_of (codes "1.*") two ≡ Text (codes "2.*")
unfolding semver_on_literals digits
wildcard_raised = refl

-- no comparator, no other text
pub star_stays : upgrade_of (codes "*") two ≡ Nothing
unfolding semver_on_literals digits
star_stays = refl

-- no requirement
pub letters_unread : upgrade_of (codes "one") two ≡ Unread
unfolding semver_on_literals digits
letters_unread = refl
