-- The ETags of responses, which curl saves in files.
use Rattle.std.specs.Prelude.{◌≡◌, ℕ, List, [], ◌∷◌, ◌++◌, Option, Some, None, Bool, true, false}
use Rattle.std.specs.Str.{IsUtf8}
use Rattle.edit_lookups.specs.CachedTexts.{cached_text}
use Rattle.edit_lookups.specs.Lookups.{HasNo}

-- the ETag in the file that curl saved: its first line; empty where the file does not exist, has no line end,
-- or is not UTF-8
pub data IsSavedEtag : Option (List ℕ) → List ℕ → Type 0 where
  first : (etag rest : List ℕ) → IsUtf8 (etag ++ 10 ∷ rest) → HasNo 10 etag
      → IsSavedEtag (Some (etag ++ 10 ∷ rest)) etag
  absent : IsSavedEtag None []
  no_line : (text : List ℕ) → HasNo 10 text → IsSavedEtag (Some text) []
  not_utf8 : (text : List ℕ) → (IsUtf8 text → ⊥) → IsSavedEtag (Some text) []

-- the ETag that is stored with a body, given the file that curl saved: empty after a redirect, since curl may
-- have saved the ETag of the redirecting response
abbrev pub IsStoredEtag : Bool → Option (List ℕ) → List ℕ → Type 0
IsStoredEtag true saved etag = IsSavedEtag saved etag
IsStoredEtag false saved etag = etag ≡ []

-- the text of the cached entry with a new body, given the file that curl saved
abbrev pub IsEntryText : Bool → Option (List ℕ) → List ℕ → List ℕ → Type 0
IsEntryText is_direct saved body text =
    (etag : List ℕ) × IsStoredEtag is_direct saved etag × (text ≡ cached_text etag body)
