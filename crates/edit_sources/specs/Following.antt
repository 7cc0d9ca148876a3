-- The files that a configuration file leads to by `include` (Cargo reference, "Configuration", include).
use Rattle.std.specs.Prelude.{◌≡◌, ◌≤◌, ℕ, List, [], ◌∷◌, ◌++◌, length, Bool, true, false, Some, None}
use Rattle.std.specs.List.{list_any}
use Rattle.std.specs.Str.{bytes_eq}
use Rattle.edit_store.specs.Store.{Files}
use Rattle.edit_sources.specs.Configuration.{IsMalformedConfig}
use Rattle.edit_sources.specs.Includes.{Include, HasIncludes, HasBadInclude}

-- whether a file of this path is among these files (own)
abbrev pub is_among : List ℕ → List (List ℕ × List ℕ) → Bool
is_among path found = list_any (λ file. bytes_eq file.0 path) found

-- From the file at `start`, these files were read, in order of precedence, and these are to be read, the next
-- one last. So a file comes before what it includes, and what stands later in an `include` before what stands
-- earlier (Cargo reference, "Configuration", include).
pub data Follows (files : Files) (start : List ℕ) : List Include → List (List ℕ × List ℕ) → Type 0 where
  begin : Follows files start (record { path = start; is_optional = true } ∷ []) []
  skip : (rest : List Include) (next : Include) (found : List (List ℕ × List ℕ))
      → Follows files start (rest ++ next ∷ []) found → next.is_optional ≡ true → files next.path ≡ None
      → Follows files start rest found
  read : (rest includes : List Include) (next : Include) (found : List (List ℕ × List ℕ)) (bytes : List ℕ)
      → Follows files start (rest ++ next ∷ []) found → is_among next.path found ≡ false
      → files next.path ≡ Some bytes → HasIncludes next.path bytes includes
      → Follows files start (rest ++ includes) (found ++ (next.path, bytes) ∷ [])

-- Why a file that is to be read is an error: it is malformed, or its `include` is, it is absent and not
-- optional, it was read before ("cycle" in cargo's words), or 128 files were read (own).
pub data IsFault (files : Files) (found : List (List ℕ × List ℕ)) (next : Include) : Type 0 where
  malformed : (bytes : List ℕ) → files next.path ≡ Some bytes → IsMalformedConfig bytes
      → IsFault files found next
  bad_include : (bytes : List ℕ) → files next.path ≡ Some bytes → HasBadInclude next.path bytes
      → IsFault files found next
  absent : files next.path ≡ None → next.is_optional ≡ false → IsFault files found next
  twice : (bytes : List ℕ) → files next.path ≡ Some bytes → is_among next.path found ≡ true
      → IsFault files found next
  many : (bytes : List ℕ) → files next.path ≡ Some bytes → 128 ≤ length found → IsFault files found next

-- the files that the one at `start` leads to have an error, which is that of the file at `path` (own)
pub record StopsFollowing (files : Files) (start path : List ℕ) : Type 0 where
  pub rest : List Include
  pub next : Include
  pub found : List (List ℕ × List ℕ)
  pub follows : Follows files start (rest ++ next ∷ []) found
  pub at : next.path ≡ path
  pub fault : IsFault files found next
