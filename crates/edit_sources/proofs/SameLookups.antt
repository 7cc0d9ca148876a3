-- The result of a lookup depends only on the contents of the store's files.
use Rattle.std.proofs.Common.{◌≡◌, List, ℕ, Some, None, Ok, Err, sym, ◌∙◌, inl, inr}
use Rattle.url.specs.Parts.{Parts}
use Rattle.edit_store.specs.Store.{SameFiles, StoreView}
use Rattle.edit_sources.specs.Index.{Outcome, SameOutcomes}
use Rattle.edit_sources.specs.LocalIndex.{LocalGives}

gives_along : (old new : StoreView) → new.tells ≡ old.tells → SameFiles old.file_at new.file_at
    → (address : Parts) (name : List ℕ) (outcome : Outcome) → LocalGives old address name outcome
    → LocalGives new address name outcome
gives_along old new same_tells same address name (Ok None) h =
    record { path = h.path; at = h.at; absent = λ t. same h.path ∙ h.absent (sym same_tells ∙ t) }
gives_along old new same_tells same address name (Ok (Some entries)) h = record {
  path = h.path;
  bytes = h.bytes;
  at = h.at;
  stands = λ t. same h.path ∙ h.stands (sym same_tells ∙ t);
  say = h.say;
}
gives_along old new same_tells same address name (Err e) (inl lacks) = inl lacks
gives_along old new same_tells same address name (Err e) (inr (line, is, h)) = inr (
  line,
  is,
  record {
    path = h.path;
    bytes = h.bytes;
    at = h.at;
    stands = λ t. same h.path ∙ h.stands (sym same_tells ∙ t);
    bad = h.bad;
  },
)

-- the same files give the same results
pub same_lookups : (old new : StoreView) → new.tells ≡ old.tells → SameFiles old.file_at new.file_at
    → SameOutcomes (LocalGives old) (LocalGives new)
same_lookups old new same_tells same = λ address name outcome. (
  gives_along new old (sym same_tells) (λ path. sym (same path)) address name outcome,
  gives_along old new same_tells same address name outcome,
)
