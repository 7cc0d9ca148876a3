-- What a call that changes a version answers.
use Rattle.std.specs.Prelude.{◌≡◌, false, List, ℕ, Result, Ok, Err, string_bytes}
use Rattle.semver.specs.Grammar.{is_build}
use Rattle.semver.specs.Identifiers.{parts_of, parts_text}
use Rattle.semver.specs.Parse.{Parts}
use Rattle.semver.specs.declared.Version.{Version}
use Rattle.edit_base.specs.declared.errors.Error.{Error}
use Rattle.edit_base.specs.declared.errors.Error.TheVariants as error
use Rattle.edit_version.specs.Increments.{AtEnd, Behind, Change, Metadata, Refused, Scheme, To, phase_name}
use Rattle.edit_version.specs.declared.version.Phase.{Phase}

-- the error of a change, with what it says about the version as it was (own)
abbrev pub IsCause : Change → Parts → Error → Type 0
IsCause c old (error.ReleaseLevel level version) =
    (p : Phase) × (c ≡ Refused (Behind p)) × (string_bytes level ≡ phase_name p)
    × (string_bytes version ≡ parts_text old)
IsCause c old error.PrereleaseScheme = c ≡ Refused Scheme
IsCause c old (error.NumberAtEnd major minor patch) =
    (c ≡ Refused AtEnd) × (major ≡ old.0) × (minor ≡ old.1) × (patch ≡ old.2)
IsCause c old (error.InvalidMetadata text) = c ≡ Refused (Metadata (string_bytes text))
IsCause c old error.Memory = Unit {0}
IsCause c old _ = ⊥

-- the version was changed so, or is as it was and the error has its cause (own)
abbrev pub IsChanged : Change → Version → Version → Result (Unit {0}) Error → Type 0
IsChanged c old new (Ok u) = c ≡ To (parts_of new)
IsChanged c old new (Err e) = (new ≡ old) × IsCause c (parts_of old) e

-- a change that takes no memory: it fails only where a number cannot rise any further (own)
abbrev pub IsRaisedOrAtEnd : Change → Version → Version → Result (Unit {0}) Error → Type 0
IsRaisedOrAtEnd c old new (Ok u) = c ≡ To (parts_of new)
IsRaisedOrAtEnd c old new (Err (error.NumberAtEnd major minor patch)) =
    (new ≡ old) × (c ≡ Refused AtEnd) × (major ≡ old.major) × (minor ≡ old.minor) × (patch ≡ old.patch)
IsRaisedOrAtEnd c old new (Err _) = ⊥

-- the error for build metadata outside its grammar, where memory lasts (own)
abbrev pub IsInvalidBuild : List ℕ → Error → Type 0
IsInvalidBuild text (error.InvalidMetadata s) = (is_build text ≡ false) × (string_bytes s ≡ text)
IsInvalidBuild text error.Memory = Unit {0}
IsInvalidBuild text _ = ⊥
