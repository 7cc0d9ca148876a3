-- The first configuration file that is malformed, of those of one manifest and of several, and the first input whose
-- manifest is.
use Rattle.std.proofs.Common.{◌≡◌, ◌∙◌, ◌+◌, ◌<◌, ◌∷◌, ◌++◌, [], ℕ, List, Option, Result, Ok, Err, true, ap, drop, get_or, inl, inr, length, refl, subst, sym, take}
use Rattle.std.specs.Borrow.{Bor}
use Rattle.std.specs.Global.{Vec}
use Rattle.std.specs.Prelude.{◌⊎◌, All, IfErr, IfSome, IsErrAnd, String, option_copied, option_map, string_bytes}
use Rattle.std.specs.declared.alloc.Global.{Global}
use Rattle.std.proofs.lemmas.List.{drop_more, take-append-drop}
use Rattle.std.proofs.lemmas.List.Elements.{All-head}
use Rattle.std.proofs.lemmas.Option.{IfSome_then}
use Rattle.edit_base.specs.Errors.{IsMemory, number_of}
use Rattle.edit_base.specs.declared.errors.DeviceCall.TheVariants as call
use Rattle.edit_base.specs.declared.errors.Error.{Error}
use Rattle.edit_metadata.specs.declared.input.Input.{Input}
use Rattle.edit_sources.specs.ConfigurationFiles.{AreConfigs, HasFailed, StopsAtConfig}
use Rattle.edit_sources.specs.declared.config.Config.{Config}
use Rattle.edit_store.specs.Store.{Files, OnlyReads, IsCallError, StoreView}
use Rattle.edit_steps.proofs.NamedLemmas.{seen_of}
use Rattle.edit_steps.proofs.ReadLemmas.{before, refused_on}
use Rattle.edit_steps.specs.Causes.{IsUngathered, StopsAtInput}
use Rattle.edit_steps.specs.Causes.IsUngathered.{at_first, at_last, at_own}
use Rattle.edit_steps.specs.Named.{AreConfigured, AreConfigsIn, IsUnreadFile, Pair, path_and_bytes, given_file_view}
use Rattle.edit_steps.specs.Shared.{IsOfSome}
use Rattle.edit_steps.specs.Places.{FailsWith, IsPlaceIn, IsPlaceOfFirst, PassesWith}
use Rattle.edit_steps.specs.declared.upgrade_read.named.NamedFile.{NamedFile}

-- what holds of an error holds of it when `?` returns it
pub error_has : {T : Type 0} (r : Result T Error) (e : Error) (P : Error → Type 0)
    → IsErrAnd r (λ other. other ≡ e) → P e → IfErr r P
error_has (Ok x) e P same h = tt
error_has (Err other) e P same h = subst P (sym same) h

-- ---- the files of a manifest

-- the file that is named first is malformed
pub first_ungathered : (F K : Type 0) (old : StoreView) (home : Option (List ℕ)) (pair : Pair)
    (manifest : List ℕ) (file : Option (Bor NamedFile)) (whole : Option NamedFile) (e : Error)
    → option_copied file ≡ whole → option_map path_and_bytes whole ≡ pair.first
    → IsMemory e ⊎ IsUnreadFile (given_file_view file) e
    → IsMemory e ⊎ (F ⊎ (K → old.tells ≡ true → IsUngathered old.file_at home pair manifest e))
first_ungathered F K old home pair manifest file whole e is first (inl memory) = inl memory
first_ungathered F K old home pair manifest file whole e is first (inr unread) =
    inr (inr (λ cached t. at_first (subst (λ f. IsUnreadFile f e) (seen_of file whole is ∙ first) unread)))

-- a file of the manifest's own is malformed
pub own_ungathered : (F K : Type 0) (old : StoreView) (home : Option (List ℕ)) (pair : Pair)
    (manifest : List ℕ) (file : Option (Bor NamedFile)) (whole : Option NamedFile) (first : List Config)
    (e : Error) → option_copied file ≡ whole → option_map path_and_bytes whole ≡ pair.first
    → AreConfigsIn (given_file_view file) first
    → IsMemory e ⊎ (F ⊎ (K → old.tells ≡ true → StopsAtConfig old.file_at manifest home e))
    → IsMemory e ⊎ (F ⊎ (K → old.tells ≡ true → IsUngathered old.file_at home pair manifest e))
own_ungathered F K old home pair manifest file whole first e is named said (inl memory) = inl memory
own_ungathered F K old home pair manifest file whole first e is named said (inr (inl failed)) =
    inr (inl failed)
own_ungathered F K old home pair manifest file whole first e is named said (inr (inr fails)) =
    inr (inr (λ cached t. at_own first (subst (λ f. AreConfigsIn f first) (seen_of file whole is ∙ named) said)
    (fails cached t)))

-- the file that is named last is malformed
pub last_ungathered : (F K : Type 0) (old : StoreView) (home : Option (List ℕ)) (pair : Pair)
    (manifest : List ℕ) (file last : Option (Bor NamedFile)) (whole last_whole : Option NamedFile)
    (first own : List Config) (e : Error) → option_copied file ≡ whole
    → option_map path_and_bytes whole ≡ pair.first → option_copied last ≡ last_whole
    → option_map path_and_bytes last_whole ≡ pair.last → AreConfigsIn (given_file_view file) first
    → (K → old.tells ≡ true → AreConfigs old.file_at manifest home own)
    → IsMemory e ⊎ IsUnreadFile (given_file_view last) e
    → IsMemory e ⊎ (F ⊎ (K → old.tells ≡ true → IsUngathered old.file_at home pair manifest e))
last_ungathered F K old home pair manifest file last whole last_whole first own e is named behind last_named
    said read (inl memory) = inl memory
last_ungathered F K old home pair manifest file last whole last_whole first own e is named behind last_named
    said read (inr unread) =
    inr (inr (λ cached t. at_last first own
    (subst (λ f. AreConfigsIn f first) (seen_of file whole is ∙ named) said) (read cached t)
    (subst (λ f. IsUnreadFile f e) (seen_of last last_whole behind ∙ last_named) unread)))

-- a file of the manifest's own is malformed, and another manifest has a list
pub own_unshared : (files : Files) (home : Option (List ℕ)) (pair : Pair) (manifest : List ℕ)
    (lists : List (Vec Config)) (e : Error) → (lists ≡ [] → ⊥) → All (IsOfSome files home pair) lists
    → StopsAtConfig files manifest home e → IsUngathered files home pair manifest e
own_unshared files home pair manifest [] e some all stops = absurd (some refl)
own_unshared files home pair manifest (list ∷ lists) e some all stops =
    let one = (All-head (IsOfSome files home pair) list lists all).1 in
    at_own one.before one.first stops

-- ---- the inputs

-- the inputs are those before an index, the one there, and those behind it
inputs_split : (inputs : List Input) (i : ℕ) (input : Input) → i < length inputs
    → input ≡ get_or inputs i input
    → inputs ≡ take i inputs ++ input ∷ drop (i + 1) inputs
inputs_split inputs i input within is =
    sym (take-append-drop i inputs) ∙ ap (λ xs. take i inputs ++ xs)
    (drop_more inputs i input within ∙ ap (λ x. x ∷ drop (i + 1) inputs) (sym is))

-- the place of an error in an input is that of the first whose manifest fails so
pub place_of_first : (inputs : List Input) (i : ℕ) (input : Input) (path bytes : List ℕ) (e : Error)
    (place : Option (String Global)) → i < length inputs → input ≡ get_or inputs i input
    → path ≡ string_bytes input.path → bytes ≡ input.bytes.items
    → All (PassesWith (number_of e)) (take i inputs) → FailsWith (number_of e) input
    → IfSome place (λ s. IsPlaceIn path bytes e (string_bytes s))
    → IfSome place (λ s. IsPlaceOfFirst inputs e (string_bytes s))
place_of_first inputs i input path bytes e place within is at has passed fails known =
    IfSome_then place known (λ s shown. record {
      before = take i inputs;
      input = input;
      behind = drop (i + 1) inputs;
      within = inputs_split inputs i input within is;
      passed = passed;
      fails = fails;
      place = subst (λ (bs : List ℕ). IsPlaceIn (string_bytes input.path) bs e (string_bytes s)) has
          (subst (λ (p : List ℕ). IsPlaceIn p bytes e (string_bytes s)) at shown);
    })

-- the configurations of one input are not read
pub stops_at_input : (old mid new : StoreView) (K : Type 0) (home : Option (List ℕ)) (pair : Pair)
    (inputs : List Input) (i : ℕ) (input : Input) (path : List ℕ) (configs : List (Vec Config)) (e : Error)
    → OnlyReads old mid → K → i < length inputs → input ≡ get_or inputs i input
    → path ≡ string_bytes input.path
    → (old.tells ≡ true → AreConfigured old.file_at home pair (take i inputs) configs)
    → IsMemory e ⊎ (HasFailed mid.faults new.faults e
    ⊎ (K → mid.tells ≡ true → IsUngathered mid.file_at home pair path e))
    → IsCallError call.Read old new e ⊎ (old.tells ≡ true → StopsAtInput old.file_at home pair inputs e)
stops_at_input old mid new K home pair inputs i input path configs e reads cached within is here read
    (inl memory) = inl (inl memory)
stops_at_input old mid new K home pair inputs i input path configs e reads cached within is here read
    (inr (inl failed)) = inl (refused_on call.Read old mid new e reads (inr (failed.is, failed.counted)))
stops_at_input old mid new K home pair inputs i input path configs e reads cached within is here read
    (inr (inr stops)) = inr (λ t. record {
      before = take i inputs;
      input = input;
      behind = drop (i + 1) inputs;
      within = inputs_split inputs i input within is;
      configs = configs;
      gathered = read t;
      fails = subst (λ at. IsUngathered old.file_at home pair at e) here
          (before (λ files. IsUngathered files home pair path e) old mid reads (stops cached) t);
    })
