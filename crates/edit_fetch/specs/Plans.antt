-- The plan of the transfers for lookups, and the files that hold it.
use Rattle.std.specs.Prelude.{◌≡◌, ◌≢◌, ℕ, ◌+◌, List, [], ◌∷◌, ◌++◌, Option, Some, None, Bool, true, false, ◌&&◌, ◌||◌, not, nat_eq, codes, drop, length, MatchBool, MatchOption, option_map, string_bytes, if◌then◌else◌}
use Rattle.std.specs.List.{count_by, ends_with, list_any, starts_with}
use Rattle.std.specs.Str.{bytes_eq}
use Rattle.edit_lookups.specs.CachePaths.{cached_path}
use Rattle.edit_base.specs.declared.errors.DeviceCall.{DeviceCall}
use Rattle.edit_base.specs.declared.errors.Error.{Error}
use Rattle.edit_base.specs.declared.errors.Error.TheVariants.{Device}
use Rattle.edit_lookups.specs.Lookups.{LookupText, HasLookupLines}
use Rattle.edit_lookups.specs.CachedTexts.{IsCachedText}
use Rattle.edit_fetch.specs.Tokens.{token_of}
use Rattle.edit_fetch.specs.Transfers.{requests_text}
use Rattle.edit_fetch.specs.declared.plan.FetchPlan.{FetchPlan}
use Rattle.edit_fetch.specs.declared.transfers.Request.{Request}
use Rattle.edit_store.specs.Store.{Files, IsRaisedCount}

-- whether a registry uses the sparse protocol, so that its entries can be fetched
abbrev pub is_sparse_registry : List ℕ → Bool
is_sparse_registry address =
    starts_with nat_eq address (codes "sparse+http://")
    || starts_with nat_eq address (codes "sparse+https://")

-- whether nothing is requested of a registry: it wants a token, and none can be sent
abbrev pub is_withheld : FetchPlan → List ℕ → Bool
is_withheld plan address = list_any (λ other. bytes_eq other.now address) plan.withheld.now

-- whether the entries of a registry are requested
abbrev pub is_requested : FetchPlan → List ℕ → Bool
is_requested plan address = is_sparse_registry address && not (is_withheld plan address)

-- a text with a slash appended, unless it ends with one
abbrev pub with_slash : List ℕ → List ℕ
with_slash text = if ends_with nat_eq text (codes "/") then text else text ++ 47 ∷ []

-- the URL of an entry: its path below the address without `sparse+`
abbrev pub fetched_url : LookupText → List ℕ
fetched_url lookup = with_slash (drop 7 lookup.address) ++ lookup.path

-- the ETag of a cached entry, given its file: that of the file's text, if it is not empty
abbrev pub IsCachedEtag : Option (List ℕ) → Option (List ℕ) → Type 0
IsCachedEtag (Some text) etag =
    MatchOption etag ((e body : List ℕ) → IsCachedText text e body → e ≡ [])
    (λ e. (e ≢ []) × (body : List ℕ) × IsCachedText text e body)
IsCachedEtag None etag = etag ≡ None

-- the request for a lookup with this number
pub record IsRequest (files : Files) (plan : FetchPlan) (number : ℕ) (lookup : LookupText)
    (request : Request) : Type 0 where
  pub place : request.number ≡ number
  pub url : request.url.items ≡ fetched_url lookup
  pub etag : IsCachedEtag (files (cached_path plan.cache.now lookup)) (option_map string_bytes request.etag)
  pub token : option_map (λ t. t.now) request.token ≡ token_of plan.tokens.now lookup.address

-- the requests for lookups, in their order; each lookup is numbered by its position, from 1
pub data AreRequests (files : Files) (plan : FetchPlan) : List LookupText → List Request → Type 0 where
  none : AreRequests files plan [] []
  passed : (lookups : List LookupText) (requests : List Request) (lookup : LookupText)
      → AreRequests files plan lookups requests → is_requested plan lookup.address ≡ false
      → AreRequests files plan (lookups ++ lookup ∷ []) requests
  fetched : (lookups : List LookupText) (requests : List Request) (lookup : LookupText) (request : Request)
      → AreRequests files plan lookups requests → is_requested plan lookup.address ≡ true
      → IsRequest files plan (length lookups + 1) lookup request
      → AreRequests files plan (lookups ++ lookup ∷ []) (requests ++ request ∷ [])

-- the requests that are made: none offline
abbrev pub AreEffectiveRequests : Files → FetchPlan → List LookupText → List Request → Type 0
AreEffectiveRequests files plan lookups requests =
    MatchBool plan.settings.now.offline (requests ≡ []) (AreRequests files plan lookups requests)

-- the path of a file in the working folder
abbrev pub working_file : List ℕ → List ℕ → List ℕ
working_file room name = room ++ 47 ∷ name

-- the device failed in some call, which was counted
pub record HasFailedIn (before now : ℕ) (e : Error) : Type 0 where
  pub call : DeviceCall
  pub is : e ≡ Device call
  pub counted : IsRaisedCount before now

-- the text is not a valid file of lookups
abbrev pub IsUnreadable : List ℕ → Type 0
IsUnreadable text = (lookups : List LookupText) → HasLookupLines text lookups → ⊥

-- the number of the requests for lookups: none offline
abbrev pub request_count : FetchPlan → List LookupText → ℕ
request_count plan lookups =
    if plan.settings.now.offline then 0 else count_by (λ l. is_requested plan l.address) lookups

-- the count is the number of the requests for a text of lookups
pub record IsPlanned (plan : FetchPlan) (text : List ℕ) (count : ℕ) : Type 0 where
  pub lookups : List LookupText
  pub said : HasLookupLines text lookups
  pub counted : count ≡ request_count plan lookups

-- the configuration of curl for a text of lookups: that of the requests for them
pub record IsConfigOf (files : Files) (plan : FetchPlan) (text config : List ℕ) : Type 0 where
  pub lookups : List LookupText
  pub requests : List Request
  pub said : HasLookupLines text lookups
  pub made : AreEffectiveRequests files plan lookups requests
  pub counted : length requests ≡ request_count plan lookups
  pub is : config ≡ requests_text plan.settings.now plan.room.now requests
