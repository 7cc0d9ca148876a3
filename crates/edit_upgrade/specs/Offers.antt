-- The versions that may be taken, as the program has them with their texts.
use Rattle.std.specs.Prelude.{Option, option_map}
use Rattle.semver.specs.Identifiers.{parts_of}
use Rattle.semver.specs.Parse.{Parts}
use Rattle.edit_upgrade.specs.declared.decision.offers.Offer.{Offer}

-- the version that is offered, where one is (own)
abbrev pub offered_version : Option Offer → Option Parts
offered_version o = option_map (λ f. parts_of f.version.now) o
