-- The bound on the time of publication that the arguments of `upgrade` give.
use Rattle.std.specs.Prelude.{◌≡◌, ◌⊎◌, ◌<◌, ◌^◌, ℕ, List, Option, Some, None, codes, option_map}
use Rattle.std.specs.Str.Parse.{IsNumeral, digits_value, without_leading_plus}
use Rattle.clap.specs.Words.{Row, Text, first_of}
use Rattle.edit_sources.specs.Published.{days_before, instant_of}
use Rattle.edit_sources.specs.declared.published.PublishedBefore.{PublishedBefore}

-- a text is a whole number of days of at most 32 bits; a plus sign may stand before its digits
abbrev pub IsDays : Text → Type 0
IsDays text =
    IsNumeral 10 (without_leading_plus text) × (digits_value 10 (without_leading_plus text) < 2 ^ 32)

-- the number that such a text has
abbrev pub days_of : Text → ℕ
days_of text = digits_value 10 (without_leading_plus text)

-- the bound is the instant of `--published-before`
abbrev pub IsTime : Text → Option PublishedBefore → Type 0
IsTime time None = ⊥
IsTime time (Some bound) = instant_of time ≡ Some bound.nanosecond

-- the bound lies the days of `--min-age` before the instant of `--now`
abbrev pub IsAge : Text → Option Text → Option PublishedBefore → Type 0
IsAge days (Some now) (Some bound) =
    IsDays days × (option_map (days_before (days_of days)) (instant_of now) ≡ Some bound.nanosecond)
IsAge days _ _ = ⊥

-- the bound that the values of `--published-before`, `--min-age` and `--now` give, which is none without the
-- first two
abbrev pub IsBound : Option Text → Option Text → Option Text → Option PublishedBefore → Type 0
IsBound None None now bound = bound ≡ None
IsBound (Some time) None now bound = IsTime time bound
IsBound None (Some days) now bound = IsAge days now bound
IsBound (Some time) (Some days) now bound = ⊥

-- the value of `--min-age` gives no bound: `--now` is not given, the value is no number of days, or that of
-- `--now` is no time
abbrev pub HasNoAge : Text → Option Text → Type 0
HasNoAge days None = Unit {0}
HasNoAge days (Some now) = (IsDays days → ⊥) ⊎ (instant_of now ≡ None)

-- the values give no bound: `--published-before` is no time, `--min-age` gives none, or both are given
abbrev pub HasNoBound : Option Text → Option Text → Option Text → Type 0
HasNoBound None None now = ⊥
HasNoBound (Some time) None now = instant_of time ≡ None
HasNoBound None (Some days) now = HasNoAge days now
HasNoBound (Some time) (Some days) now = Unit {0}

-- the bound that parsed arguments give
abbrev pub IsGivenBound : List Row → Option PublishedBefore → Type 0
IsGivenBound rows bound =
    IsBound (first_of (codes "published-before") rows) (first_of (codes "min-age") rows)
    (first_of (codes "now") rows) bound

-- parsed arguments whose values give no bound
abbrev pub HasBoundFault : List Row → Type 0
HasBoundFault rows =
    HasNoBound (first_of (codes "published-before") rows) (first_of (codes "min-age") rows)
    (first_of (codes "now") rows)
