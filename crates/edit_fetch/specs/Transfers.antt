-- The options of the transfers that fetch index entries.
use Rattle.std.specs.Prelude.{ℕ, List, [], ◌∷◌, ◌++◌, Option, Some, None, option_map, Bool, ◌==◌, ◌&&◌, ◌||◌, not, nat_eq, nat_le, codes, map, string_bytes, decimal, if◌then◌else◌}
use Rattle.std.specs.List.{list_any, list_all, starts_with}
use Rattle.std.specs.Option.{option_to_list}
use Rattle.edit_fetch.specs.CurlConfig.{CurlOption, bare, config_text, valued}
use Rattle.edit_fetch.specs.declared.settings.NetSettings.{NetSettings}
use Rattle.edit_fetch.specs.declared.transfers.Request.{Request}

-- whether a URL has the scheme `https`
abbrev pub is_https : List ℕ → Bool
is_https url = starts_with nat_eq url (codes "https://")

-- whether a URL begins with one of these two texts
unfoldable pub has_either : List ℕ → List ℕ → List ℕ → Bool
has_either url first second = starts_with nat_eq url first || starts_with nat_eq url second

-- whether a URL names the loopback interface directly after its scheme
abbrev pub begins_at_loopback : List ℕ → Bool
begins_at_loopback url =
    has_either url (codes "http://localhost/") (codes "http://localhost:")
    || (has_either url (codes "http://127.0.0.1/") (codes "http://127.0.0.1:")
    || has_either url (codes "http://[::1]/") (codes "http://[::1]:"))

-- whether a URL leads to the loopback interface; one with `@` never counts, since another host might follow
abbrev pub is_loopback : List ℕ → Bool
is_loopback url = not (list_any (λ b. b == 64) url) && begins_at_loopback url

-- whether a token may be sent to a URL
abbrev pub is_secure : List ℕ → Bool
is_secure url = is_https url || is_loopback url

-- whether a text is allowed in a header: it contains no control character
abbrev pub is_header_text : List ℕ → Bool
is_header_text text = list_all (λ b. nat_le 32 b && not (b == 127)) text

-- a text, if it is allowed in a header
abbrev pub header_text : Option (List ℕ) → Option (List ℕ)
header_text None = None
header_text (Some text) = if is_header_text text then Some text else None

-- the ETag that is sent, if there is one
abbrev pub sent_etag : Request → Option (List ℕ)
sent_etag request = header_text (option_map string_bytes request.etag)

-- the token that is sent: none where the URL is not secure
abbrev pub sent_token : Request → Option (List ℕ)
sent_token request =
    if is_secure request.url.items then header_text (option_map (λ t. t.now) request.token) else None

-- the header `If-None-Match` with the ETag of the cached entry, if there is one
unfoldable pub etag_options : Option (List ℕ) → List CurlOption
etag_options etag =
    option_to_list (option_map (λ e. valued (codes "header") (codes "If-None-Match: " ++ e)) etag)

-- the options that follow redirects: without `location-trusted` curl sends the header `Authorization` on to
-- the same scheme, host and port alone (curl's manual, `--location`)
unfoldable pub redirect_options : List CurlOption
redirect_options = bare (codes "location") ∷ valued (codes "max-redirs") (codes "5") ∷ []

-- the header `Authorization` with the token, if there is one
unfoldable pub token_options : Option (List ℕ) → List CurlOption
token_options token =
    option_to_list (option_map (λ t. valued (codes "header") (codes "Authorization: " ++ t)) token)

-- the protocols that a transfer may use: from `https` no redirect leads to `http`
abbrev pub protocols : List ℕ → List ℕ
protocols url = if is_https url then codes "=https" else codes "=http,https"

-- the options for these protocols, for the first URL and for redirects
unfoldable pub protocol_options : List ℕ → List CurlOption
protocol_options url =
    valued (codes "proto") (protocols url) ∷ valued (codes "proto-redir") (protocols url) ∷ []

-- the path of a file of a transfer: its number, and a suffix
abbrev pub transfer_file : List ℕ → ℕ → List ℕ → List ℕ
transfer_file room number ending = room ++ 47 ∷ (decimal number ++ ending)

-- the URL of an entry, and the files for the body, the ETag and the outcome
unfoldable pub file_options : List ℕ → Request → List CurlOption
file_options room request =
    valued (codes "url") request.url.items
    ∷ valued (codes "output") (transfer_file room request.number [])
    ∷ valued (codes "etag-save") (transfer_file room request.number (codes ".etag"))
    ∷ valued (codes "write-out")
    (decimal request.number
    ++ codes "\t%{response_code}\t%{exitcode}\t%{num_redirects}\t%{time_total}\t%{errormsg}\n")
    ∷ []

-- the file for the headers of the answers, which may say when to try again
unfoldable pub head_options : List ℕ → Request → List CurlOption
head_options room request =
    valued (codes "dump-header") (transfer_file room request.number (codes ".head")) ∷ []

-- options of every transfer: no progress, no globbing in URLs, compression if the server supports it
unfoldable pub common_options : List CurlOption
common_options =
    bare (codes "silent") ∷ bare (codes "globoff") ∷ bare (codes "compressed")
    ∷ valued (codes "user-agent") (codes "cargo-edit/0.1.0") ∷ []

-- the timeouts of connecting and of a transfer below 10 bytes per second, and the greatest size of a body in
-- bytes
unfoldable pub time_options : NetSettings → List CurlOption
time_options settings =
    valued (codes "connect-timeout") (decimal settings.timeout)
    ∷ valued (codes "speed-limit") (codes "10")
    ∷ valued (codes "speed-time") (decimal settings.timeout)
    ∷ valued (codes "max-filesize") (codes "104857600") ∷ []

-- the proxy and the file of certificates, if the settings have them
unfoldable pub named_options : NetSettings → List CurlOption
named_options settings =
    option_to_list (option_map (λ p. valued (codes "proxy") (string_bytes p)) settings.proxy)
    ++ option_to_list (option_map (λ c. valued (codes "cacert") (string_bytes c)) settings.cainfo)

-- the options of the transfer of one entry
unfoldable pub transfer_options : NetSettings → List ℕ → Request → List CurlOption
transfer_options settings room request =
    file_options room request
    ++ (head_options room request
    ++ (etag_options (sent_etag request)
    ++ (redirect_options
    ++ (token_options (sent_token request)
    ++ (protocol_options request.url.items
    ++ (common_options ++ (time_options settings ++ named_options settings)))))))

-- the configuration of curl for these requests
abbrev pub requests_text : NetSettings → List ℕ → List Request → List ℕ
requests_text settings room requests = config_text (map (transfer_options settings room) requests)
