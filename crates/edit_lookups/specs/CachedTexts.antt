-- The text of a cached index entry: the ETag of the response on a first line, and the body of the response.
use Rattle.std.specs.Prelude.{◌≡◌, ℕ, List, ◌∷◌, ◌++◌, ◌==◌, codes, nat_eq, if◌then◌else◌}
use Rattle.std.specs.List.{after_first, starts_with}
use Rattle.std.specs.Str.{IsUtf8}
use Rattle.edit_lookups.specs.Lookups.{HasNo}

-- the text of a cached entry: a line with the ETag of the response, which may be empty, and the body
abbrev pub cached_text : List ℕ → List ℕ → List ℕ
cached_text etag body = codes "ETag: " ++ (etag ++ 10 ∷ body)

-- an ETag that fits on a line: UTF-8 without a line feed
pub record IsEtag (etag : List ℕ) : Type 0 where
  pub utf8 : IsUtf8 etag
  pub one_line : HasNo 10 etag

-- the text is that of a cached entry with this ETag and this body
pub record IsCachedText (text etag body : List ℕ) : Type 0 where
  pub is : text ≡ cached_text etag body
  pub valid : IsEtag etag

-- the body in a cached file: what follows its first line, if the file begins as a cached entry does; else the
-- whole text, since older versions of this program stored the body alone
abbrev pub cached_body : List ℕ → List ℕ
cached_body text =
    if starts_with nat_eq text (codes "ETag: ") then after_first (λ b. b == 10) text else text
