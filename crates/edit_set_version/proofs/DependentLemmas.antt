-- The requirements on bumped crates, with the indices of their bumps.
use Rattle.std.proofs.Common.{◌≡◌, ◌⊎◌, ◌∙◌, ℕ, List, [], ◌∷◌, ◌++◌, cond, map, Option, Some, None, option_map, refl, ap, sym, subst, inl, inr}
use Rattle.std.specs.Prelude.{All, codes, nat_eq, option_to_list}
use Rattle.std.specs.declared.collections.BTreeMap.{BTreeMap}
use Rattle.std.specs.List.{cons_option, filter_map, starts_with}
use Rattle.std.specs.Prelude.{String}
use Rattle.std.specs.declared.alloc.Global.{Global}
use Rattle.std.proofs.lemmas.Bool.{cases_Bool}
use Rattle.std.proofs.lemmas.List.{map-append, map_push}
use Rattle.std.proofs.lemmas.List.Elements.{All-map, All-weaker, filter_map-append}
use Rattle.semver.specs.Parse.{Parts}
use Rattle.edit_base.specs.Errors.{IsMemory}
use Rattle.edit_base.specs.Paths.{parts_of}
use Rattle.edit_manifest.specs.Tables.{Tree}
use Rattle.edit_version.specs.Requirement.{upgrade_of}
use Rattle.edit_set_version.specs.Admitted.{AllRise, CanRise}
use Rattle.edit_set_version.specs.Folders.{folder_along, folder_of, folder_at_path, resolve_folder}
use Rattle.edit_set_version.specs.Dependents.{HasRaisedText, IsEntryUnraised, all_numbered, dependent_of, lacks, numbered_dependent_view, stays, with_bump_index}
use Rattle.edit_set_version.specs.BumpsByFolder.{HasFirstBumps, first_in, numbered_at}
use Rattle.edit_set_version.specs.PathDependency.{PathDependency, dependent_by_path, path_dependencies, path_dependency_view, path_dependency_views}
use Rattle.edit_set_version.specs.PlanCauses.{IsUnraised}
use Rattle.edit_set_version.specs.SetVersioned.{Bump, Dependent, dependents}
use Rattle.edit_set_version.specs.declared.dependents.DependentEntry.{DependentEntry}
use Rattle.edit_set_version.specs.declared.failure.VersionFailure.{VersionFailure}
use Rattle.edit_set_version.specs.declared.path_deps.PathEntry.{PathEntry}
use Rattle.edit_set_version.specs.declared.numbers.Numbered.{Numbered}
use Rattle.edit_set_version.proofs.NumberLemmas.{next_first}
use Rattle.edit_set_version.proofs.PointedLemmas.{alone, dependents_pointed}
use Rattle.edit_set_version.proofs.ReachedFolders.{way_on}

-- a folder that is reached is one that a path names
pub reached_named : (file path : List ℕ) → (way : List ℕ) × (folder_at_path way ≡ resolve_folder file path)
reached_named file path = elim (cases_Bool (starts_with nat_eq path (codes "/"))) [
  | inl absolute ↦ (
    path,
    sym (ap (λ b. cond b (folder_at_path path) (folder_along (folder_of file)
        (parts_of path))) absolute),
  )
  | inr relative ↦ (
    file ++ (codes "/../" ++ path),
    way_on file path
        ∙ sym (ap (λ b. cond b (folder_at_path path) (folder_along (folder_of file) (parts_of path))) relative),
  )
]

-- what the map has for the folder that is reached
pub tells_reached : (bs : List Bump) (numbers : BTreeMap (String Global) Numbered Global) (file path : List ℕ)
    → HasFirstBumps bs numbers
    → numbered_at numbers (resolve_folder file path) ≡ first_in bs (resolve_folder file path)
tells_reached bs numbers file path tells =
    let way = reached_named file path in
    subst (λ folder. numbered_at numbers folder ≡ first_in bs folder) way.1 (tells way.0)

-- the requirement of an entry, by what the map has
pub numbered_by : (bs : List Bump) (numbers : BTreeMap (String Global) Numbered Global) (file : List ℕ)
    (q : PathDependency) (o : Option (ℕ × Parts)) → HasFirstBumps bs numbers → o ≡ numbered_at numbers (resolve_folder file q.path)
    → with_bump_index bs file q
    ≡ option_map (λ (n : ℕ × Parts). (n.0, record { place = q.place; text = q.text; next = n.1 })) o
numbered_by bs numbers file q o tells is =
    ap (option_map (λ (n : ℕ × Parts). (n.0, record { place = q.place; text = q.text; next = n.1 })))
    (sym (is ∙ tells_reached bs numbers file q.path tells))

-- without its number
pub led_numbered : (bs : List Bump) (file : List ℕ) (q : PathDependency)
    → dependent_by_path bs file q ≡ option_map (λ (n : ℕ × Dependent). n.1) (with_bump_index bs file q)
led_numbered bs file q =
    ap (option_map (λ (v : Parts). record { place = q.place; text = q.text; next = v }))
    (next_first bs (resolve_folder file q.path)) ∙ both (first_in bs (resolve_folder file q.path))
  where
    both : (o : Option (ℕ × Parts))
        → option_map (λ (v : Parts). record { place = q.place; text = q.text; next = v })
        (option_map (λ (n : ℕ × Parts). n.1) o)
        ≡ option_map (λ (n : ℕ × Dependent). n.1)
        (option_map (λ (n : ℕ × Parts). (n.0, record { place = q.place; text = q.text; next = n.1 })) o)
    both None = refl
    both (Some n) = refl

-- those of entries without their numbers
pub led_each : (bs : List Bump) (file : List ℕ) (qs : List PathDependency)
    → filter_map (dependent_by_path bs file) qs
    ≡ map (λ (n : ℕ × Dependent). n.1) (filter_map (with_bump_index bs file) qs)
led_each bs file qs = each qs
  where
    appended : (o : Option (ℕ × Dependent)) (ns : List (ℕ × Dependent))
        → cons_option (option_map (λ (n : ℕ × Dependent). n.1) o) (map (λ (n : ℕ × Dependent). n.1) ns)
        ≡ map (λ (n : ℕ × Dependent). n.1) (cons_option o ns)
    appended None ns = refl
    appended (Some n) ns = refl

    each : (qs : List PathDependency)
        → filter_map (dependent_by_path bs file) qs ≡ map (λ (n : ℕ × Dependent). n.1) (filter_map (with_bump_index bs file) qs)
    each [] = refl
    each (q ∷ qs) =
        ap (λ (fs : List Dependent). cons_option (dependent_by_path bs file q) fs) (each qs)
        ∙ ap (λ o. cons_option o (map (λ (n : ℕ × Dependent). n.1) (filter_map (with_bump_index bs file) qs)))
        (led_numbered bs file q)
        ∙ appended (with_bump_index bs file q) (filter_map (with_bump_index bs file) qs)

-- all of a manifest without their numbers
pub dependents_numbered : (bs : List Bump) (file : List ℕ) (t : Tree)
    → dependents bs file t ≡ map (λ (n : ℕ × Dependent). n.1) (all_numbered bs file t)
dependents_numbered bs file t = dependents_pointed bs file t ∙ led_each bs file (path_dependencies t)

-- the requirements of entries of the program, without the indices of their bumps
pub without_indices : (fs : List DependentEntry)
    → map dependent_of fs ≡ map (λ (n : ℕ × Dependent). n.1) (map numbered_dependent_view fs)
without_indices [] = refl
without_indices (f ∷ fs) = ap (λ (xs : List Dependent). dependent_of f ∷ xs) (without_indices fs)

-- requirements that are raised can be
pub all_can_rise : (fs : List DependentEntry) (ds : List Dependent) → map dependent_of fs ≡ ds
    → All HasRaisedText fs → All (λ (f : Dependent). CanRise (upgrade_of f.text f.next)) ds
all_can_rise fs ds same risen =
    subst (All (λ (f : Dependent). CanRise (upgrade_of f.text f.next))) same
    (All-map (λ (f : Dependent). CanRise (upgrade_of f.text f.next)) dependent_of fs
    (All-weaker HasRaisedText (λ (f : DependentEntry). CanRise (upgrade_of (dependent_of f).text (dependent_of f).next))
    (λ f h. h.can) fs risen))

-- those of a manifest are all its requirements on bumped crates
pub all_rise : (bs : List Bump) (file : List ℕ) (t : Tree) (fs : List DependentEntry)
    → map numbered_dependent_view fs ≡ all_numbered bs file t → All HasRaisedText fs → AllRise bs file t
all_rise bs file t fs same risen =
    all_can_rise fs (dependents bs file t)
    (without_indices fs ∙ ap (map (λ (n : ℕ × Dependent). n.1)) same ∙ sym (dependents_numbered bs file t)) risen

-- one entry more
pub numbered_more : (bs : List Bump) (file : List ℕ) (es : List PathEntry) (e : PathEntry)
    → filter_map (with_bump_index bs file) (path_dependency_views (es ++ e ∷ []))
    ≡ filter_map (with_bump_index bs file) (path_dependency_views es) ++ option_to_list (with_bump_index bs file (path_dependency_view e))
numbered_more bs file es e =
    ap (filter_map (with_bump_index bs file)) (map_push path_dependency_view es e)
    ∙ filter_map-append (with_bump_index bs file) (path_dependency_views es) (path_dependency_view e ∷ [])
    ∙ ap (λ (ns : List (ℕ × Dependent)). filter_map (with_bump_index bs file) (path_dependency_views es) ++ ns)
    (alone (with_bump_index bs file (path_dependency_view e)))

-- ---- errors

-- a requirement that cannot be raised is the first such one of its manifest, where those of the entries before
-- it are raised
pub unraised : (bs : List Bump) (file : List ℕ) (t : Tree) (es : List PathEntry) (e : PathEntry)
    (rest : List PathEntry) (fs : List DependentEntry) (why : VersionFailure)
    → path_dependency_views (es ++ e ∷ rest) ≡ path_dependencies t
    → map numbered_dependent_view fs ≡ filter_map (with_bump_index bs file) (path_dependency_views es)
    → All HasRaisedText fs → IsEntryUnraised bs file (path_dependency_view e) why
    → IsMemory why.error ⊎ IsUnraised bs file t why
unraised bs file t es e rest fs why all same risen (lacks none) = inl none
unraised bs file t es e rest fs why all same risen (stays f is refused) = inr (record {
  before = filter_map (dependent_by_path bs file) (path_dependency_views es);
  first = f;
  behind = filter_map (dependent_by_path bs file) (path_dependency_views rest);
  within = dependents_pointed bs file t
      ∙ ap (filter_map (dependent_by_path bs file))
      (sym all ∙ map-append path_dependency_view es (e ∷ rest))
      ∙ filter_map-append (dependent_by_path bs file) (path_dependency_views es)
      (path_dependency_view e ∷ path_dependency_views rest)
      ∙ ap (λ (o : Option Dependent). filter_map (dependent_by_path bs file) (path_dependency_views es)
      ++ cons_option o (filter_map (dependent_by_path bs file) (path_dependency_views rest))) is;
  good = all_can_rise fs (filter_map (dependent_by_path bs file) (path_dependency_views es))
      (without_indices fs ∙ ap (map (λ (n : ℕ × Dependent). n.1)) same
      ∙ sym (led_each bs file (path_dependency_views es))) risen;
  cause = refused;
})
