-- Which transfers of a round are tried again, and how long is waited before that.
use Rattle.std.specs.Prelude.{ℕ, ◌+◌, ◌*◌, ◌/◌, ◌%◌, max, List, [], ◌∷◌, ◌++◌, Option, Bool, ◌==◌, ◌&&◌, ◌||◌, not, nat_le, nat_lt, codes, decimal, map, position, if◌then◌else◌}
use Rattle.std.specs.List.{fold, list_any}
use Rattle.edit_fetch.specs.declared.retries.Attempt.{Attempt}
use Rattle.edit_fetch.specs.declared.retries.Retrying.{Retrying}
use Rattle.edit_fetch.specs.declared.retries.Verdict.{Verdict}
use Rattle.edit_fetch.specs.declared.retries.Verdict.TheVariants.{Again, Final, Late, LongWait}

-- the statuses of answers that may be others at the next try: a time-out (RFC 9110, 15.5.9), too many
-- requests (RFC 6585, 4), and errors of the server (RFC 9110, 15.6)
abbrev pub is_passing_status : ℕ → Bool
is_passing_status status = (status == 408) || ((status == 429) || (nat_le 500 status && nat_le status 599))

-- the exit codes of curl that may be others at the next try: no host or connection, a time-out, a cut,
-- reset or empty answer (curl's manual, "Exit codes")
abbrev pub passing_codes : List ℕ
passing_codes = 5 ∷ 6 ∷ 7 ∷ 16 ∷ 18 ∷ 28 ∷ 35 ∷ 52 ∷ 55 ∷ 56 ∷ 92 ∷ []

abbrev pub is_passing_code : ℕ → Bool
is_passing_code code = list_any (λ passing. passing == code) passing_codes

-- whether a transfer may have another outcome if it is tried again
abbrev pub may_pass : Attempt → Bool
may_pass attempt =
    if attempt.code == 0 then is_passing_status attempt.status
    else is_passing_code attempt.code

-- the seconds to wait before a transfer is tried again: the usual ones, or those of Retry-After if they are
-- more (RFC 9110, 10.2.3)
abbrev pub wait_of : ℕ → Attempt → ℕ
wait_of usual attempt = max usual attempt.retry_after

-- whether a transfer takes at most 60 s with a wait of so many seconds
abbrev pub is_in_time : Attempt → ℕ → Bool
is_in_time attempt wait = nat_le (attempt.spent + wait * 1000) 60000

-- whether a transfer is tried again if there is time: its outcome may pass, and a try is left
abbrev pub may_retry : Retrying → Attempt → Bool
may_retry retrying attempt = not (retrying.tries == 0) && may_pass attempt

-- the pause that a transfer wants, in seconds; 0 where it is not tried again
abbrev pub wanted_pause : Retrying → Attempt → ℕ
wanted_pause retrying attempt =
    if may_retry retrying attempt && is_in_time attempt (wait_of retrying.usual attempt)
    then wait_of retrying.usual attempt else 0

-- the pause before the next round: the longest that a transfer wants
abbrev pub pause_of : Retrying → List Attempt → ℕ
pause_of retrying attempts = fold max 0 (map (wanted_pause retrying) attempts)

-- the position of the first transfer that wants this pause
abbrev pub first_waiting : Retrying → ℕ → List Attempt → Option ℕ
first_waiting retrying pause attempts = position (λ a. wanted_pause retrying a == pause) attempts

-- what becomes of a transfer where the round is followed by this pause: it is tried again only if it takes
-- at most 60 s with that
abbrev pub verdict_of : Retrying → ℕ → Attempt → Verdict
verdict_of retrying pause attempt =
    if not (may_retry retrying attempt) then Final
    else if nat_lt 60 (wait_of retrying.usual attempt) then LongWait
    else if is_in_time attempt (max (wait_of retrying.usual attempt) pause) then Again
    else Late

-- why a transfer failed: the status of its answer, or what curl says
abbrev pub fault_text : Attempt → List ℕ → List ℕ
fault_text attempt message =
    if attempt.code == 0 then codes "status " ++ decimal attempt.status else message

-- milliseconds as seconds, rounded
abbrev pub rounded_seconds : ℕ → ℕ
rounded_seconds milliseconds = milliseconds / 1000 + milliseconds % 1000 / 500

-- what is said of a transfer with this verdict
abbrev pub outcome_text : ℕ → Attempt → Verdict → List ℕ → List ℕ
outcome_text usual attempt Final message = message
outcome_text usual attempt Again message = message
outcome_text usual attempt Late message =
    codes "gave up after " ++ (decimal (rounded_seconds attempt.spent) ++ (codes " s: "
    ++ fault_text attempt message))
outcome_text usual attempt LongWait message =
    codes "it wants a wait of " ++ (decimal (wait_of usual attempt) ++ (codes " s: "
    ++ fault_text attempt message))
