-- The errors of a bump (own, after cargo-edit).
use Rattle.std.specs.Prelude.{◌≡◌, Result, Ok, Err, string_bytes}
use Rattle.semver.specs.Identifiers.{parts_of, parts_text}
use Rattle.semver.specs.Parse.{Parts}
use Rattle.semver.specs.declared.Version.{Version}
use Rattle.edit_base.specs.declared.errors.Error.{Error}
use Rattle.edit_base.specs.declared.errors.Error.TheVariants as error
use Rattle.edit_version.specs.Changed.{IsCause}
use Rattle.edit_version.specs.Increments.{Change, Refused, To}
use Rattle.edit_set_version.specs.Bumps.{Bumped, becomes, lower, refused, stays}

-- the version can be bumped: it is unchanged or becomes another
abbrev pub IsBumpable : Bumped → Type 0
IsBumpable stays = Unit {0}
IsBumpable (becomes v) = Unit {0}
IsBumpable _ = ⊥

-- the result of an increment or of setting build metadata on the current version
abbrev pub change_of : Parts → Bumped → Change
change_of current (refused r) = Refused r
change_of current (becomes v) = To v
change_of current _ = To current

-- the error of a bump: `Error::Downgrade` with both versions for a lower one; or that of an increment or of
-- build metadata, or out of memory
abbrev pub IsUnbumped : Bumped → Parts → Error → Type 0
IsUnbumped b current (error.Downgrade from to) =
    (next : Parts) × (b ≡ lower next)
    × (string_bytes from ≡ parts_text current) × (string_bytes to ≡ parts_text next)
IsUnbumped b current e = IsCause (change_of current b) current e

-- the version that a change results in, or an error with its cause
abbrev pub IsMade : Change → Parts → Result Version Error → Type 0
IsMade c current (Ok v) = c ≡ To (parts_of v)
IsMade c current (Err e) = IsCause c current e
