-- The outputs of inputs, in the order of the inputs.
use Rattle.std.proofs.Common.{All, ◌≡◌, ◌≢◌, ◌∙◌, ◌+◌, ◌<◌, ℕ, List, [], ◌∷◌, ◌++◌, Bool, true, false, Option, append-nil, cond, get_or, length, map, not, refl, ap, ap₂, subst, sym, take, inl, inr}
use Rattle.std.specs.Prelude.{◌==◌, string_bytes}
use Rattle.std.specs.List.{AllByRecursion, AllZip, filter, flat_map}
use Rattle.std.proofs.lemmas.Bool.{cases_Bool}
use Rattle.std.proofs.lemmas.Grind.{flat_map-append}
use Rattle.std.proofs.lemmas.List.{map-append, take_more}
use Rattle.std.proofs.lemmas.List.Elements.{filter-append}
use Rattle.std.proofs.lemmas.Slice.Zip.{all_zipped_more}
use Rattle.semver.specs.Parse.{Parts}
use Rattle.edit_tree.specs.Assertions.{same_bytes}
use Rattle.edit_tree.specs.Replaces.{Edits}
use Rattle.edit_tree.proofs.SamePlace.{same_bytes_is, same_bytes_self}
use Rattle.edit_metadata.specs.declared.input.Input.{Input}
use Rattle.edit_report.specs.declared.output.Output.{Output}
use Rattle.edit_set_version.specs.Planned.{AreOutputs, AreOutputsOf, HasOutputsBy, OutputsInOrder, changed, outputs_at, unchanged}
use Rattle.edit_set_version.specs.SetVersioned.{Bump}
use Rattle.edit_metadata.specs.Inputs.{HaveOwnPaths, path_of}
use Rattle.edit_set_version.proofs.DistinctInputs.{Distinct, distinct_each}
use Rattle.edit_set_version.proofs.DependentLaw.{of_all}
use Rattle.edit_set_version.proofs.WrittenPlaces.{all_then}

-- the outputs of each input, and all of them in a row
pub record AreInARow (root : List ℕ) (next : Option Parts) (bs : List Bump) (inputs : List Input)
    (outputs : List Output) : Type 0 where
  pub each : List (List Output)
  pub are : AllZip (AreOutputsOf root next bs) inputs each
  pub in_a_row : outputs ≡ flat_map (λ own. own) each

-- none of no input
pub no_outputs : (root : List ℕ) (next : Option Parts) (bs : List Bump) (outputs : List Output)
    → outputs ≡ [] → AreInARow root next bs [] outputs
no_outputs root next bs outputs none = record { each = []; are = tt; in_a_row = none }

-- those of one input more
pub outputs_more : (root : List ℕ) (next : Option Parts) (bs : List Bump) (inputs : List Input) (n : ℕ)
    (input : Input) (old own new : List Output) → n < length inputs → input ≡ get_or inputs n input
    → AreInARow root next bs (take n inputs) old → AreOutputsOf root next bs input own → new ≡ old ++ own
    → AreInARow root next bs (take (n + 1) inputs) new
outputs_more root next bs inputs n input old own new within at row are joined = record {
  each = row.each ++ own ∷ [];
  are = subst (λ is. AllZip (AreOutputsOf root next bs) is (row.each ++ own ∷ [])) (sym more)
      (all_zipped_more (AreOutputsOf root next bs) (take n inputs) row.each input own row.are are);
  in_a_row = joined ∙ ap₂ (λ (xs ys : List Output). xs ++ ys) row.in_a_row (sym (append-nil own))
      ∙ sym (flat_map-append (λ xs. xs) row.each (own ∷ []));
}
  where
    more : take (n + 1) inputs ≡ take n inputs ++ input ∷ []
    more = take_more inputs n input within ∙ ap (λ x. take n inputs ++ x ∷ []) (sym at)

-- ---- outputs at a path

-- texts that differ
bytes_other : (a b : List ℕ) → a ≢ b → same_bytes a b ≡ false
bytes_other a b other = elim (cases_Bool (same_bytes a b)) [
  | inl same ↦ absurd (other (same_bytes_is a b same))
  | inr differs ↦ differs
]

-- the outputs of an input have its path
have_path : (path old : List ℕ) (es : Edits) (own : List Output) → AreOutputs path old es own
    → AllByRecursion (λ o. string_bytes o.path ≡ path) own
have_path path old es _ (unchanged none) = tt
have_path path old es _ (changed output some at new) = (at, tt)

-- so they are those at its path
at_own : (path : List ℕ) (own : List Output) → AllByRecursion (λ o. string_bytes o.path ≡ path) own
    → outputs_at path own ≡ own
at_own path [] all = refl
at_own path (o ∷ os) all =
    let here : same_bytes (string_bytes o.path) path ≡ true
    = ap (λ p. same_bytes p path) all.0 ∙ same_bytes_self path in
    rw here (ap (λ (xs : List Output). o ∷ xs) (at_own path os all.1))

-- and none of them is at another
at_other : (own path : List ℕ) (os : List Output) → own ≢ path
    → AllByRecursion (λ o. string_bytes o.path ≡ own) os → outputs_at path os ≡ []
at_other own path [] other all = refl
at_other own path (o ∷ os) other all =
    let there : same_bytes (string_bytes o.path) path ≡ false
    = ap (λ p. same_bytes p path) all.0 ∙ bytes_other own path other in
    rw there (at_other own path os other all.1)

-- ---- inputs with different paths

module _ (root : List ℕ) (next : Option Parts) (bs : List Bump) where
  -- the outputs of an input are none at another path
  past : (x : Input) (own rest : List Output) (path : List ℕ) → AreOutputsOf root next bs x own
      → path_of x ≢ path → outputs_at path (own ++ rest) ≡ outputs_at path rest
  past x own rest path are other =
      filter-append (λ o. same_bytes (string_bytes o.path) path) own rest
      ∙ ap (λ (os : List Output). os ++ outputs_at path rest)
      (at_other (path_of x) path own other (have_path (path_of x) x.bytes.items _ own are.are))

  -- so none of others are
  none_there : (xs : List Input) (each : List (List Output)) (path : List ℕ)
      → AllZip (AreOutputsOf root next bs) xs each → AllByRecursion (λ x. path_of x ≢ path) xs
      → outputs_at path (flat_map (λ own. own) each) ≡ []
  none_there [] [] path are other = refl
  none_there [] (own ∷ each) path are other = absurd are
  none_there (x ∷ xs) [] path are other = absurd are
  none_there (x ∷ xs) (own ∷ each) path are other =
      past x own (flat_map (λ o. o) each) path are.0 other.0 ∙ none_there xs each path are.1 other.1

  -- those at an input's path are its own
  own_there : (x : Input) (xs : List Input) (own : List Output) (each : List (List Output))
      → AreOutputsOf root next bs x own → AllZip (AreOutputsOf root next bs) xs each
      → AllByRecursion (λ y. path_of x ≢ path_of y) xs
      → outputs_at (path_of x) (own ++ flat_map (λ o. o) each) ≡ own
  own_there x xs own each here are other =
      filter-append (λ o. same_bytes (string_bytes o.path) (path_of x)) own (flat_map (λ o. o) each)
      ∙ ap₂ (λ (os ps : List Output). os ++ ps)
      (at_own (path_of x) own (have_path (path_of x) x.bytes.items _ own here.are))
      (none_there xs each (path_of x) are
      (all_then (λ y. path_of x ≢ path_of y) (λ y. path_of y ≢ path_of x) (λ y apart same. apart (sym same))
      xs other))
      ∙ append-nil own

  -- each input has its own
  each_has : (xs : List Input) (each : List (List Output)) → AllZip (AreOutputsOf root next bs) xs each
      → Distinct xs → AllByRecursion (HasOutputsBy root next bs (flat_map (λ own. own) each)) xs
  each_has [] [] are d = tt
  each_has [] (own ∷ each) are d = absurd are
  each_has (x ∷ xs) [] are d = absurd are
  each_has (x ∷ xs) (own ∷ each) are d = (
    subst (AreOutputsOf root next bs x) (sym (own_there x xs own each are.0 are.1 d.0)) are.0,
    later xs d.0 (each_has xs each are.1 d.1),
  )
    where
      later : (ys : List Input) → AllByRecursion (λ y. path_of x ≢ path_of y) ys
          → AllByRecursion (HasOutputsBy root next bs (flat_map (λ o. o) each)) ys
          → AllByRecursion (HasOutputsBy root next bs (own ++ flat_map (λ o. o) each)) ys
      later [] apart has = tt
      later (y ∷ ys) apart has = (
        subst (AreOutputsOf root next bs y)
            (sym (past x own (flat_map (λ o. o) each) (path_of y) are.0 apart.0)) has.0,
        later ys apart.1 has.1,
      )

  -- the paths of the outputs of an input, before others
  paths_before : (x : Input) (own : List Output) (paths : List (List ℕ)) → AreOutputsOf root next bs x own
      → map (λ (o : Output). string_bytes o.path) own ++ paths
      ≡ cond (not (length own == 0)) (path_of x ∷ paths) paths
  paths_before x own paths are = go _ own are.are
    where
      go : (es : Edits) (os : List Output) → AreOutputs (path_of x) x.bytes.items es os
          → map (λ (o : Output). string_bytes o.path) os ++ paths
          ≡ cond (not (length os == 0)) (path_of x ∷ paths) paths
      go es _ (unchanged none) = refl
      go es _ (changed output some at new) = ap (λ (p : List ℕ). p ∷ paths) at

  -- they stand in the order of the inputs
  each_in_order : (xs : List Input) (each : List (List Output)) → AllZip (AreOutputsOf root next bs) xs each
      → Distinct xs → OutputsInOrder xs (flat_map (λ own. own) each)
  each_in_order [] [] are d = refl
  each_in_order [] (own ∷ each) are d = absurd are
  each_in_order (x ∷ xs) [] are d = absurd are
  each_in_order (x ∷ xs) (own ∷ each) are d =
      map-append (λ (o : Output). string_bytes o.path) own rest
      ∙ ap (λ (ps : List (List ℕ)). map (λ (o : Output). string_bytes o.path) own ++ ps)
      (each_in_order xs each are.1 d.1 ∙ same xs d.0)
      ∙ paths_before x own (filter (has all) (map path_of xs)) are.0
      ∙ ap (λ (os : List Output). cond (not (length os == 0))
      (path_of x ∷ filter (has all) (map path_of xs)) (filter (has all) (map path_of xs)))
      (sym (own_there x xs own each are.0 are.1 d.0))
    where
      rest : List Output
      rest = flat_map (λ o. o) each

      all : List Output
      all = own ++ rest

      has : List Output → List ℕ → Bool
      has os path = not (length (outputs_at path os) == 0)

      same : (ys : List Input) → AllByRecursion (λ y. path_of x ≢ path_of y) ys
          → filter (has rest) (map path_of ys) ≡ filter (has all) (map path_of ys)
      same [] apart = refl
      same (y ∷ ys) apart =
          ap (λ (os : List Output). cond (not (length os == 0)) (path_of y ∷ filter (has rest) (map path_of ys))
          (filter (has rest) (map path_of ys))) (sym (past x own rest (path_of y) are.0 apart.0))
          ∙ ap (λ (ps : List (List ℕ)). cond (has all (path_of y)) (path_of y ∷ ps) ps) (same ys apart.1)

-- of outputs in a row each input has its own
pub row_has : (root : List ℕ) (next : Option Parts) (bs : List Bump) (inputs : List Input)
    (outputs : List Output) → HaveOwnPaths inputs → AreInARow root next bs inputs outputs
    → All (HasOutputsBy root next bs outputs) inputs
row_has root next bs inputs outputs distinct row =
    subst (λ os. All (HasOutputsBy root next bs os) inputs) (sym row.in_a_row)
    (of_all (HasOutputsBy root next bs (flat_map (λ own. own) row.each)) inputs
    (each_has root next bs inputs row.each row.are (distinct_each inputs distinct)))

-- and they stand in the order of the inputs
pub row_in_order : (root : List ℕ) (next : Option Parts) (bs : List Bump) (inputs : List Input)
    (outputs : List Output) → HaveOwnPaths inputs → AreInARow root next bs inputs outputs
    → OutputsInOrder inputs outputs
row_in_order root next bs inputs outputs distinct row =
    subst (OutputsInOrder inputs) (sym row.in_a_row)
    (each_in_order root next bs inputs row.each row.are (distinct_each inputs distinct))
