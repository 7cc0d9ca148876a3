-- The writes that a lookup allows, and what it stores.
use Rattle.std.proofs.Common.{◌≡◌, Bool, true, false, inl, inr, ℕ, List, [], ◌∷◌, ◌++◌, Option, Some, None, refl, ◌∙◌, sym, subst, arith}
use Rattle.std.specs.Option.{is_some}
use Rattle.std.proofs.lemmas.Str.{IsUtf8-nil}
use Rattle.edit_store.specs.Store.{Files, SameFiles}
use Rattle.edit_lookups.specs.CachedTexts.{IsEtag}
use Rattle.edit_lookups.specs.CachePaths.{cached_path}
use Rattle.edit_lookups.specs.Lookups.{LookupText}
use Rattle.edit_answers.specs.Bodies.{IsWholeIndex}
use Rattle.edit_answers.specs.Etags.{IsEntryText, IsSavedEtag, IsStoredEtag}
use Rattle.edit_answers.specs.Etags.IsSavedEtag.{first, absent, no_line, not_utf8}
use Rattle.edit_answers.specs.Locals.{SettlesLocal}
use Rattle.edit_answers.specs.Locals.SettlesLocal.{absent as absent_file, no_folder, present}
use Rattle.edit_answers.specs.Outcomes.{IsStored, Puts, Stores, StoresEntry, by_cached, stored_outcome}
use Rattle.edit_answers.specs.Outcomes.Puts.{entry}
use Rattle.edit_answers.specs.declared.meaning.Failure.{Failure}
use Rattle.edit_answers.specs.declared.meaning.Outcome.{Outcome}
use Rattle.edit_answers.specs.declared.meaning.Outcome.TheVariants.{Moved}
use Rattle.edit_answers.specs.declared.places.Places.{Places}
use Rattle.edit_answers.proofs.TextLemmas.{front-utf8}

is-stored : (is_direct : Bool) → IsStored (stored_outcome is_direct)
is-stored true = inl refl
is-stored false = inr refl

empty-etag : IsEtag []
empty-etag = record { utf8 = IsUtf8-nil; one_line = λ i w. absurd (omega (arith, w)) }

-- what curl saved is an ETag
saved-etag : (saved : Option (List ℕ)) (etag : List ℕ) → IsSavedEtag saved etag → IsEtag etag
saved-etag saved etag (first e rest utf8 plain) =
    record { utf8 = front-utf8 (e ++ 10 ∷ rest) e rest utf8 refl; one_line = plain }
saved-etag saved etag absent = empty-etag
saved-etag saved etag (no_line text none) = empty-etag
saved-etag saved etag (not_utf8 text none) = empty-etag

stored-etag : (is_direct : Bool) (saved : Option (List ℕ)) (etag : List ℕ) → IsStoredEtag is_direct saved etag
    → IsEtag etag
stored-etag true saved etag h = saved-etag saved etag h
stored-etag false saved etag h = subst IsEtag (sym h) empty-etag

-- after a redirect there is none
moved-etag : (is_direct : Bool) (saved : Option (List ℕ)) (etag : List ℕ) → IsStoredEtag is_direct saved etag
    → stored_outcome is_direct ≡ Moved → etag ≡ []
moved-etag true saved etag h e = cc
moved-etag false saved etag h e = h

-- the text of an entry is allowed at its path
pub entry-puts : (p : Places) (l : LookupText) (is_direct : Bool) (saved : Option (List ℕ))
    (body path bytes text : List ℕ) → IsWholeIndex l.name body → path ≡ cached_path p.cache.now l
    → bytes ≡ text → IsEntryText is_direct saved body text → Puts p l (stored_outcome is_direct) path bytes
entry-puts p l is_direct saved body path bytes text whole at same is =
    subst (λ q. Puts p l (stored_outcome is_direct) q bytes) (sym at)
    (subst (λ b. Puts p l (stored_outcome is_direct) (cached_path p.cache.now l) b) (sym (same ∙ is.2))
    (entry is.0 body (is-stored is_direct) (stored-etag is_direct saved is.0 is.1)
    (moved-etag is_direct saved is.0 is.1) whole))

module _ (p : Places) (l : LookupText) (number : ℕ) (old new : Files) where
  pub stores-new : (is_direct : Bool) → StoresEntry is_direct p l number old new
      → Stores (stored_outcome is_direct) p l number old new
  stores-new true h = h
  stores-new false h = h

  -- a cached entry is used, or there is none
  pub stores-cached : (file : Option (List ℕ)) (had : Outcome) (lost : Failure)
      → (SameFiles old new → Stores had p l number old new) → SameFiles old new
      → Stores (by_cached file had lost) p l number old new
  stores-cached None had lost may same = same
  stores-cached (Some bytes) had lost may same = may same

  -- the file of a registry on this machine is used, or there is none
  pub stores-local : (files : Files) (o : Outcome) → SettlesLocal l files o → SameFiles old new
      → Stores o p l number old new
  stores-local files o (no_folder h) same = same
  stores-local files o (absent_file folder h none) same = same
  stores-local files o (present folder bytes h some) same = same

-- a file that is there has bytes
pub some-bytes : (file : Option (List ℕ)) → true ≡ is_some file → (bytes : List ℕ) × (file ≡ Some bytes)
some-bytes None e = cc
some-bytes (Some bytes) e = (bytes, refl)

pub no-bytes : (file : Option (List ℕ)) → false ≡ is_some file → file ≡ None
no-bytes None e = refl
no-bytes (Some bytes) e = cc
