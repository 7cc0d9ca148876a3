-- The errors of making a version before its build metadata is set.
use Rattle.std.proofs.Common.{List, ℕ, Bool, true, false, Option, Some, None}
use Rattle.std.specs.Prelude.{if◌then◌else◌}
use Rattle.semver.specs.Grammar.{is_build}
use Rattle.semver.specs.Parse.{Parts}
use Rattle.edit_base.specs.declared.errors.Error.{Error}
use Rattle.edit_base.specs.declared.errors.Error.TheVariants as error
use Rattle.edit_version.specs.Changed.{IsCause}
use Rattle.edit_version.specs.Increments.{Change, Metadata, Refused, To}
use Rattle.edit_set_version.specs.Bumps.{with_given}

-- a change that was made has no cause, but that memory ran out
none_made : (v : Parts) (d : Change) (old new : Parts) (e : Error) → IsCause (To v) old e → IsCause d new e
none_made v d old new (error.ReleaseLevel _ _) h = absurd (cc h.1)
none_made v d old new error.PrereleaseScheme h = absurd (cc h)
none_made v d old new (error.NumberAtEnd _ _ _) h = absurd (cc h.0)
none_made v d old new (error.InvalidMetadata _) h = absurd (cc h)
none_made v d old new error.Memory h = tt
none_made v d old new _ h = absurd h

-- refused build metadata show nothing of the version
any_version : (m : List ℕ) (old new : Parts) (e : Error) → IsCause (Refused (Metadata m)) old e
    → IsCause (Refused (Metadata m)) new e
any_version m old new (error.ReleaseLevel _ _) h = absurd (cc h.1)
any_version m old new error.PrereleaseScheme h = absurd (cc h)
any_version m old new (error.NumberAtEnd _ _ _) h = absurd (cc h.0)
any_version m old new (error.InvalidMetadata _) h = h
any_version m old new error.Memory h = tt
any_version m old new _ h = absurd h

-- a cause stays one where build metadata are to be set then
pub cause_stays : (given : Option (List ℕ)) (d : Change) (old : Parts) (e : Error) → IsCause d old e
    → IsCause (with_given given d) old e
cause_stays None d old e h = h
cause_stays (Some m) (Refused r) old e h = h
cause_stays (Some m) (To v) old e h = none_made v (with_given (Some m) (To v)) old old e h

-- and build metadata are refused for any version
pub build_refused : (given : Option (List ℕ)) (v old new : Parts) (e : Error)
    → IsCause (with_given given (To v)) old e → IsCause (with_given given (To v)) new e
build_refused None v old new e h = none_made v (To v) old new e h
build_refused (Some m) v old new e h = by_test (is_build m) h
  where
    by_test : (b : Bool) → IsCause (if b then To (v.0, v.1, v.2, v.3, m) else Refused (Metadata m)) old e
        → IsCause (if b then To (v.0, v.1, v.2, v.3, m) else Refused (Metadata m)) new e
    by_test true h = none_made (v.0, v.1, v.2, v.3, m) (To (v.0, v.1, v.2, v.3, m)) old new e h
    by_test false h = any_version m old new e h
