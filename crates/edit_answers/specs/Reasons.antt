-- The reasons in messages why entries could not be fetched (own).
use Rattle.std.specs.Prelude.{◌≡◌, ℕ, List, ◌++◌, ◌==◌, codes, length, if◌then◌else◌}
use Rattle.std.specs.Fmt.{decimal}
use Rattle.edit_lookups.specs.ControlEscapes.{escape_controls}
use Rattle.edit_lookups.specs.Lookups.{LookupText}
use Rattle.edit_answers.specs.declared.bodies.Damage.{Damage}
use Rattle.edit_answers.specs.declared.bodies.Damage.TheVariants as damage
use Rattle.edit_answers.specs.declared.meaning.Failure.{Failure}
use Rattle.edit_answers.specs.declared.meaning.Failure.TheVariants.{Curl, NoFolder, NotAnIndex, NotFetchable, Offline, Status, Token, Unanswered}

-- the reason for a failed transfer: curl's message, and its exit code
abbrev pub curl_text : List ℕ → List ℕ → List ℕ
curl_text exit message =
    escape_controls (if length message == 0 then codes "curl failed" else message) ++
    (codes ", curl: " ++ escape_controls exit)

-- the reason for an HTTP status
abbrev pub status_text : List ℕ → List ℕ
status_text code = codes "status " ++ escape_controls code

-- the place of a line in the entry of a crate
abbrev pub entry_line_text : ℕ → List ℕ → List ℕ
entry_line_text line name =
    codes "line " ++ (decimal line ++ (codes " of the entry of " ++ escape_controls name))

-- the reason for a malformed line in the entry of a crate
abbrev pub malformed_text : ℕ → List ℕ → List ℕ
malformed_text line name = entry_line_text line name
    ++ codes " is malformed: it has to be a JSON object with strings as `name` and `vers`"

-- the reason for an entry of a crate that is not whole
abbrev pub not_whole_text : List ℕ → List ℕ
not_whole_text name =
    codes "the entry of " ++ (escape_controls name ++ codes " is not whole, or is of another crate")

-- the reason for a body that is no index file of the crate with this name
abbrev pub body_text : List ℕ → Damage → List ℕ
body_text name (damage.BadLine line) = malformed_text line name
body_text name damage.NotWhole = not_whole_text name

-- why the entry of a lookup could not be fetched
abbrev pub IsReason : LookupText → Failure → List ℕ → Type 0
IsReason l Offline reason = reason ≡ codes "nothing is fetched offline"
IsReason l NotFetchable reason = reason ≡ codes "only sparse registries and folders can be read"
IsReason l Unanswered reason = reason ≡ codes "curl gave no answer"
IsReason l (Curl exit message) reason = reason ≡ curl_text exit.now message.now
IsReason l (Token message) reason = reason ≡ escape_controls message.now
IsReason l (Status code) reason = reason ≡ status_text code.now
IsReason l (NotAnIndex damage) reason = reason ≡ body_text l.name damage
IsReason l NoFolder reason = reason ≡ codes "there is no such folder"
