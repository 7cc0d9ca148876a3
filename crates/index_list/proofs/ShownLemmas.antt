-- The kinds of the paths of a store that shows listed files.
use Rattle.std.proofs.Common.{◌≡◌, ℕ, List, ◌∷◌, ◌++◌, false, Option, Some, None, refl, sym, subst, inr}
use Rattle.std.specs.Prelude.{IsNone, IsSome, String, is_some, option_map}
use Rattle.std.specs.BTreeMap.{BTreeMap, get_by_text}
use Rattle.std.proofs.lemmas.Bool.{false≢true}
use Rattle.edit_store.specs.Store.{Files, HasKindAt}
use Rattle.edit_store.specs.declared.store.Kind.TheVariants.{Folder, Absent}
use Rattle.index_list.specs.Listed.{ShownFile, bytes_shown, file_of_map, listed_file}
use Rattle.index_list.specs.declared.listed_store.ListedFile.{ListedFile}

-- the files that are shown over those of a store
abbrev pub shown_over : {Y : Type 0} → BTreeMap (String Y) ListedFile → Files → Files
shown_over listed files path = bytes_shown files path (file_of_map listed path)

-- a file is listed below a path
abbrev pub IsListedBelow : {Y : Type 0} → BTreeMap (String Y) ListedFile → List ℕ → Type 0
IsListedBelow listed path = (rest : List ℕ) × IsSome (file_of_map listed (path ++ 47 ∷ rest))

some_of_file : (files : Files) (path : List ℕ) (o : Option ShownFile) → IsSome o
    → IsSome (bytes_shown files path o)
some_of_file files path None h = cc
some_of_file files path (Some f) h = refl

same_unlisted : (files : Files) (path : List ℕ) (o : Option ListedFile) → is_some o ≡ false
    → bytes_shown files path (option_map listed_file o) ≡ files path
same_unlisted files path None h = refl
same_unlisted files path (Some f) h = absurd (false≢true (sym h))

-- a path above a listed one is a folder
pub folder_listed : {Y : Type 0} (listed : BTreeMap (String Y) ListedFile) (files : Files) (path : List ℕ)
    → is_some (get_by_text listed path) ≡ false → IsListedBelow listed path → HasKindAt files path Absent
    → HasKindAt (shown_over listed files) path Folder
folder_listed listed files path out below absent = (
  subst IsNone (sym (same_unlisted files path (get_by_text listed path) out)) absent.0,
  inr (below.0, some_of_file files (path ++ 47 ∷ below.0) _ below.1),
)
