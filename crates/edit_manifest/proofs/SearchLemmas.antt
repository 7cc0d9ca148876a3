-- Walking up past folders without a manifest.
use Rattle.std.proofs.Common.{◌≡◌, ◌≢◌, ℕ, List, [], ◌∷◌, ◌++◌, Bool, true, Option, Some, None, ◌∙◌, sym, subst, inl, inr, ⊎_elim}
use Rattle.std.proofs.Math.Path.{fun_ext}
use Rattle.std.proofs.lemmas.List.Elements.{All-nil, All-cons, All-append}
use Rattle.std.specs.Prelude.{◌⊎◌, codes}
use Rattle.edit_base.specs.Paths.{IsFolderOf, IsNormalOf, joined}
use Rattle.edit_base.specs.declared.errors.Error.{Error}
use Rattle.edit_base.specs.declared.errors.Error.TheVariants.{NoPath}
use Rattle.edit_store.specs.Climbs.{Climbs}
use Rattle.edit_store.specs.Climbs.Climbs.{begin, step}
use Rattle.edit_store.specs.Store.{Files, SameFiles, HasKindAt}
use Rattle.edit_store.specs.declared.store.Kind.TheVariants.{File, Folder}
use Rattle.edit_manifest.specs.Located.{HasNoManifest, HasNoneAbove, HaveNoManifest, IsManifestAt, IsManifestPath, IsMissing, IsNearest, IsNotFound, IsSearchError, NamesFolder, NamesStart, manifest_in}
use Rattle.edit_manifest.specs.Located.HasNoManifest.{specified as lacks_there, unspecified as lacks_here}
use Rattle.edit_manifest.specs.Located.IsManifestAt.{named, nearest}
use Rattle.edit_manifest.specs.Located.IsManifestPath.{specified, unspecified}

-- the folders that were passed have no manifest
pub record HasPassed (tells : Bool) (files : Files) (start here : List ℕ) : Type 0 where
  pub passed : List (List ℕ)
  pub climbs : Climbs start passed here
  pub none : tells ≡ true → HaveNoManifest files passed

-- a property of files holds for the same files
pub as_before : (P : Files → Type 0) (old now : Files) → SameFiles old now → P now → P old
as_before P old now same h = subst P (fun_ext same) h

pub passed_none : (tells : Bool) (files : Files) (start : List ℕ) → HasPassed tells files start start
passed_none tells files start =
    record {
      passed = [];
      climbs = begin;
      none = λ t. All-nil (λ folder. IsMissing files (manifest_in folder));
    }

none_more : (files : Files) (folders : List (List ℕ)) (here : List ℕ) → HaveNoManifest files folders
    → IsMissing files (manifest_in here) → HaveNoManifest files (folders ++ here ∷ [])
none_more files folders here none missing =
    let P : List ℕ → Type 0 = λ folder. IsMissing files (manifest_in folder) in
    All-append P folders (here ∷ []) none (All-cons P here [] missing (All-nil P))

-- one folder more
pub passed_more : (tells now_tells : Bool) (old now : Files) (start here above : List ℕ) → now_tells ≡ tells
    → SameFiles old now → HasPassed tells old start here → here ≢ codes "/" → IsFolderOf here above
    → (now_tells ≡ true → IsMissing now (manifest_in here)) → HasPassed tells old start above
passed_more tells now_tells old now start here above same_tells same h on up missing = record {
  passed = h.passed ++ here ∷ [];
  climbs = step h.passed here above h.climbs on up;
  none = λ t. none_more old h.passed here (h.none t)
      (as_before (λ files. IsMissing files (manifest_in here)) old now same (missing (same_tells ∙ t)));
}

-- no manifest is found, not even at the root
pub none_above : (tells now_tells : Bool) (old now : Files) (start here : List ℕ) → now_tells ≡ tells
    → SameFiles old now → HasPassed tells old start here → here ≡ codes "/"
    → (now_tells ≡ true → IsMissing now (manifest_in here)) → tells ≡ true → HasNoneAbove old start
none_above tells now_tells old now start here same_tells same h root missing t = record {
  passed = h.passed;
  climbs = subst (λ folder. Climbs start h.passed folder) root h.climbs;
  none = none_more old h.passed (codes "/") (h.none t)
      (subst (λ folder. IsMissing old (manifest_in folder)) root
      (as_before (λ files. IsMissing files (manifest_in here)) old now same (missing (same_tells ∙ t))));
}

-- the file at a path
pub path_named : (files : Files) (place at : List ℕ) → at ≡ place → HasKindAt files at File
    → IsManifestAt files place place
path_named files place at e stands = named (subst (λ path. HasKindAt files path File) e stands)

-- the nearest manifest of the folder at a path
pub path_nearest : (tells now_tells : Bool) (old now : Files) (place at from found : List ℕ)
    → at ≡ place → from ≡ place → now_tells ≡ tells → SameFiles old now
    → (tells ≡ true → HasKindAt old at Folder) → (now_tells ≡ true → IsNearest now from found) → tells ≡ true
    → IsManifestAt old place found
path_nearest tells now_tells old now place at from found e e2 same_tells same stands near t =
    nearest found (subst (λ path. HasKindAt old path Folder) e (stands t))
    (subst (λ path. IsNearest old path found) e2
    (as_before (λ files. IsNearest files from found) old now same (near (same_tells ∙ t))))

-- no folder from the one at a path upwards has a manifest
pub none_found : (tells now_tells : Bool) (old now : Files) (place at from : List ℕ) (e : Error)
    → at ≡ place → from ≡ place → now_tells ≡ tells → SameFiles old now
    → (tells ≡ true → HasKindAt old at Folder) → (now_tells ≡ true → IsNotFound now from e) → tells ≡ true
    → IsSearchError old place e
none_found tells now_tells old now place at from e is is2 same_tells same stands none t = inr (
  subst (λ path. HasKindAt old path Folder) is (stands t),
  subst (λ path. IsNotFound old path e) is2
      (as_before (λ files. IsNotFound files from e) old now same (none (same_tells ∙ t))),
)

-- ---- a specified manifest, and none specified

-- the manifest at the specified path
pub path_specified : (files : Files) (current name whole place path : List ℕ) (o : Option (List ℕ))
    → o ≡ Some name → whole ≡ joined current name → IsNormalOf whole place → IsManifestAt files place path
    → IsManifestPath files current o path
path_specified files current name whole place path o e is normal at =
    subst (λ x. IsManifestPath files current x path) (sym e)
    (specified name place path (subst (λ text. IsNormalOf text place) is normal) at)

-- no manifest is found at the specified path
pub none_specified : (files : Files) (current name whole place : List ℕ) (o : Option (List ℕ)) (e : Error)
    → o ≡ Some name → whole ≡ joined current name → IsNormalOf whole place → IsSearchError files place e
    → HasNoManifest files current e o
none_specified files current name whole place o e given is normal unfound =
    subst (λ x. HasNoManifest files current e x) (sym given)
    (lacks_there name place (subst (λ text. IsNormalOf text place) is normal) unfound)

-- the manifest from the current folder upwards
pub path_unspecified : (files : Files) (current start place path : List ℕ) (o : Option (List ℕ))
    → o ≡ None → start ≡ place → IsNormalOf current place → IsNearest files start path
    → IsManifestPath files current o path
path_unspecified files current start place path o e is normal near =
    subst (λ x. IsManifestPath files current x path) (sym e)
    (unspecified place path normal (subst (λ text. IsNearest files text path) is near))

-- no manifest is found from the current folder upwards
pub none_unspecified : (files : Files) (current start place : List ℕ) (o : Option (List ℕ)) (e : Error)
    → o ≡ None → start ≡ place → IsNormalOf current place → IsNotFound files start e
    → HasNoManifest files current e o
none_unspecified files current start place o e given is normal none =
    subst (λ x. HasNoManifest files current e x) (sym given)
    (lacks_here place normal (subst (λ text. IsNotFound files text e) is none))

-- the error has the folder at the specified path, or is `NoPath`
pub start_specified : (current name whole place : List ℕ) (o : Option (List ℕ)) (e : Error) → o ≡ Some name
    → whole ≡ joined current name → IsNormalOf whole place → (e ≡ NoPath) ⊎ NamesFolder place e
    → NamesStart current o e
start_specified current name whole place o e given is normal lacks =
    subst (λ x. NamesStart current x e) (sym given)
    (⊎_elim inl (λ names. inr (place, subst (λ text. IsNormalOf text place) is normal, names)) lacks)

-- the error has the current folder
pub start_unspecified : (current start place : List ℕ) (o : Option (List ℕ)) (e : Error) → o ≡ None
    → start ≡ place → IsNormalOf current place → NamesFolder start e → NamesStart current o e
start_unspecified current start place o e given is normal names =
    subst (λ x. NamesStart current x e) (sym given)
    (place, normal, subst (λ text. NamesFolder text e) is names)
