-- The requests for lookups, with one lookup more.
use Rattle.std.proofs.Common.{◌≡◌, ◌<◌, ◌+◌, ℕ, List, [], ◌∷◌, ◌++◌, true, false, length, map, option_map, take, get_or, ap, sym, ◌∙◌, subst, string_bytes, arith, Bool, cond, refl, length-append}
use Rattle.std.specs.Prelude.{MatchBool}
use Rattle.std.specs.List.{count_by, sum_by}
use Rattle.std.proofs.lemmas.List.Sums.{sum_by-append}
use Rattle.std.proofs.lemmas.List.{length-map, length-take-le, map_more}
use Rattle.edit_lookups.specs.CachePaths.{cached_path}
use Rattle.edit_lookups.specs.Lookups.{LookupText, lookup_text}
use Rattle.edit_lookups.specs.declared.lookups.Lookup.{Lookup}
use Rattle.edit_store.specs.Store.{Files, SameFiles}
use Rattle.edit_fetch.specs.Plans.{AreEffectiveRequests, AreRequests, IsCachedEtag, IsRequest, is_requested, request_count}
use Rattle.edit_fetch.specs.Plans.AreRequests.{fetched, none, passed}
use Rattle.edit_fetch.specs.declared.plan.FetchPlan.{FetchPlan}
use Rattle.edit_fetch.specs.declared.transfers.Request.{Request}

-- a lookup that is not fetched
pub passed_more : (files : Files) (plan : FetchPlan) (lookups : List Lookup) (i : ℕ) (d : Lookup)
    (requests : List Request) (address : List ℕ) → i < length lookups
    → address ≡ (get_or lookups i d).address.now
    → AreRequests files plan (map lookup_text (take i lookups)) requests → is_requested plan address ≡ false
    → AreRequests files plan (map lookup_text (take (i + 1) lookups)) requests
passed_more files plan lookups i d requests address within is so_far out =
    let l = get_or lookups i d in
    let no_request : is_requested plan l.address.now ≡ false = sym (ap (is_requested plan) is) ∙ out in
    subst (λ ls. AreRequests files plan ls requests) (sym (map_more lookup_text lookups i d within))
    (passed _ _ (lookup_text l) so_far no_request)

-- a lookup that is fetched
pub fetched_more : (files : Files) (plan : FetchPlan) (lookups : List Lookup) (i : ℕ) (d : Lookup)
    (old new : List Request) (r : Request) (address : List ℕ) → i < length lookups
    → address ≡ (get_or lookups i d).address.now
    → AreRequests files plan (map lookup_text (take i lookups)) old → is_requested plan address ≡ true
    → IsRequest files plan (i + 1) (lookup_text (get_or lookups i d)) r → new ≡ old ++ r ∷ []
    → AreRequests files plan (map lookup_text (take (i + 1) lookups)) new
fetched_more files plan lookups i d old new r address within is so_far out asks items =
    let l = get_or lookups i d in
    let count : length (map lookup_text (take i lookups)) ≡ i =
    length-map (take i lookups) lookup_text ∙ length-take-le i lookups (omega arith) in
    let one_request : is_requested plan l.address.now ≡ true = sym (ap (is_requested plan) is) ∙ out in
    let more = fetched _ _ (lookup_text l) r so_far one_request
    (subst (λ n. IsRequest files plan (n + 1) (lookup_text l) r) (sym count) asks) in
    subst (λ rs. AreRequests files plan (map lookup_text (take (i + 1) lookups)) rs) (sym items)
    (subst (λ ls. AreRequests files plan ls (old ++ r ∷ []))
    (sym (map_more lookup_text lookups i d within)) more)

-- no requests so far
pub none_yet : (files : Files) (plan : FetchPlan) (requests : List Request) → requests ≡ []
    → AreRequests files plan [] requests
none_yet files plan requests empty = subst (λ rs. AreRequests files plan [] rs) (sym empty) none

-- a request by files that are the same
pub request_same : (old new : Files) (plan : FetchPlan) (number : ℕ) (l : LookupText) (r : Request)
    → SameFiles old new → IsRequest new plan number l r → IsRequest old plan number l r
request_same old new plan number l r same asks =
    record {
      place = asks.place;
      url = asks.url;
      etag = subst (λ text. IsCachedEtag text (option_map string_bytes r.etag))
          (same (cached_path plan.cache.now l)) asks.etag;
      token = asks.token;
    }

-- one lookup more in a count
count_more : (p : LookupText → Bool) (xs : List LookupText) (x : LookupText) (b : Bool) → p x ≡ b
    → count_by p (xs ++ x ∷ []) ≡ count_by p xs + cond b 1 0
count_more p xs x b e =
    let one : sum_by (λ y. cond (p y) 1 0) (x ∷ []) ≡ 0 + cond b 1 0 = ap (λ t. 0 + cond t 1 0) e in
    omega (arith, sum_by-append (λ y. cond (p y) 1 0) xs (x ∷ []), one)

-- as many requests are made as there are lookups of which entries are requested
counted : (files : Files) (plan : FetchPlan) (lookups : List LookupText) (requests : List Request)
    → AreRequests files plan lookups requests
    → length requests ≡ count_by (λ l. is_requested plan l.address) lookups
counted files plan _ _ none = refl
counted files plan _ _ (passed lookups requests l so_far out) =
    let test : LookupText → Bool = λ x. is_requested plan x.address in
    omega (arith, counted files plan lookups requests so_far, count_more test lookups l false out)
counted files plan _ _ (fetched lookups requests l r so_far out asks) =
    let test : LookupText → Bool = λ x. is_requested plan x.address in
    omega (
      arith,
      counted files plan lookups requests so_far,
      count_more test lookups l true out,
      length-append requests (r ∷ []),
    )

pub requests_counted : (files : Files) (plan : FetchPlan) (lookups : List LookupText)
    (requests : List Request) → AreEffectiveRequests files plan lookups requests
    → length requests ≡ request_count plan lookups
requests_counted files plan lookups requests made =
    by plan.settings.now.offline made
  where
    by : (b : Bool) → MatchBool b (requests ≡ []) (AreRequests files plan lookups requests)
        → length requests ≡ cond b 0 (count_by (λ l. is_requested plan l.address) lookups)
    by true empty = ap length empty
    by false made = counted files plan lookups requests made
