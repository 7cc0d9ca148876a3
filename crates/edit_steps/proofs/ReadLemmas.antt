-- Reading one file after another, and the errors of each.
use Rattle.std.proofs.Common.{◌≡◌, ◌∙◌, ◌<◌, ◌^◌, ◌+◌, ◌++◌, ◌∷◌, Bool, ℕ, List, [], Option, None, Some, true, ap, arith, refl, get_or, inl, inr, length, sym, subst, take}
use Rattle.std.specs.Global.{Vec}
use Rattle.std.specs.List.{AllZip}
use Rattle.std.specs.Prelude.{◌⊎◌, string_bytes}
use Rattle.std.proofs.lemmas.List.{take_more}
use Rattle.std.proofs.lemmas.Slice.Zip.{all_zipped_more}
use Rattle.edit_base.specs.Errors.{IsMemory}
use Rattle.edit_base.specs.declared.errors.DeviceCall.{DeviceCall}
use Rattle.edit_base.specs.declared.errors.DeviceCall.TheVariants as call
use Rattle.edit_base.specs.declared.errors.Error.{Error}
use Rattle.edit_manifest.proofs.Faults.{fault_later}
use Rattle.edit_manifest.proofs.SearchLemmas.{as_before}
use Rattle.edit_metadata.proofs.InputLemmas.{reads-on}
use Rattle.edit_metadata.specs.declared.input.Input.{Input}
use Rattle.edit_metadata.specs.declared.workspace.Workspace.{Workspace}
use Rattle.edit_sources.specs.ConfigurationFiles.{ConfigsFail, IsBadConfig}
use Rattle.edit_sources.specs.declared.config.Config.{Config}
use Rattle.edit_store.specs.Store.{Files, OnlyReads, IsCallError, StoreView, IsRaisedCount}
use Rattle.edit_steps.specs.RequestView.{RequestView}
use Rattle.edit_steps.specs.Causes.{HasNoTarget, IsFailure, IsReadCause, LacksNamed, StopsAtInput}
use Rattle.edit_steps.specs.Named.{AreConfigured, AreGathered, ArePairRead, IsUnreadFile, Pair, PathAndBytes}
use Rattle.edit_steps.specs.Sources.{AreInputsRead}

-- what holds of files that were read since held before
pub before : (P : Files → Type 0) (old mid : StoreView) → OnlyReads old mid
    → (mid.tells ≡ true → P mid.file_at) → old.tells ≡ true → P old.file_at
before P old mid reads h t = as_before P old.file_at mid.file_at reads.files (h (reads.tells ∙ t))

-- what held of files before reads holds of them after
pub since : (P : Files → Type 0) (old mid : StoreView) → OnlyReads old mid
    → (old.tells ≡ true → P old.file_at) → mid.tells ≡ true → P mid.file_at
since P old mid reads h t =
    as_before P mid.file_at old.file_at (λ path. sym (reads.files path)) (h (sym reads.tells ∙ t))

-- an error of the device after reads
pub refused_on : (of : DeviceCall) (old mid new : StoreView) (e : Error) → OnlyReads old mid
    → IsCallError of mid new e → IsCallError of old new e
refused_on of old mid new e reads refused =
    fault_later of old.faults mid.faults new.faults e reads.later refused

-- an error of the device before more reads
pub refused_before : (of : DeviceCall) (old mid new : StoreView) (e : Error) → OnlyReads mid new
    → new.faults < 2 ^ 64 → IsCallError of old mid e → IsCallError of old new e
refused_before of old mid new e reads bound (inl memory) = inl memory
refused_before of old mid new e reads bound (inr failed) = inr (failed.0, later failed.1)
  where
    later : IsRaisedCount old.faults mid.faults → IsRaisedCount old.faults new.faults
    later (inl lt) = inl (omega (arith, reads.later, lt))
    later (inr ends) = inr (ends.0, omega (arith, reads.later, bound, ends.1))

-- ---- configurations

-- the configurations of one input more
pub configured_more : (files : Files) (home : Option (List ℕ)) (pair : Pair) (inputs : List Input)
    (i : ℕ) (input : Input) (all more : List (Vec Config)) (own : Vec Config) (path : List ℕ)
    → i < length inputs → input ≡ get_or inputs i input → path ≡ string_bytes input.path
    → more ≡ all ++ own ∷ [] → AreConfigured files home pair (take i inputs) all
    → AreGathered files home pair path own.items → AreConfigured files home pair (take (i + 1) inputs) more
configured_more files home pair inputs i input all more own path within is here pushed front one =
    let R : Input → Vec Config → Type 0
    = λ x configs. AreGathered files home pair (string_bytes x.path) configs.items in
    let configs : AreGathered files home pair (string_bytes input.path) own.items
    = subst (λ at. AreGathered files home pair at own.items) here one in
    let taken : take (i + 1) inputs ≡ take i inputs ++ input ∷ []
    = take_more inputs i input within ∙ ap (λ x. take i inputs ++ x ∷ []) (sym is) in
    subst (λ xs. AllZip R xs more) (sym taken)
    (subst (λ ys. AllZip R (take i inputs ++ input ∷ []) ys) (sym pushed)
    (all_zipped_more R (take i inputs) all input own front configs))

-- a file that is no configuration is there
pub unread_there : (file : Option PathAndBytes) (e : Error) → IsUnreadFile file e
    → (there : PathAndBytes) × (file ≡ Some there) × IsBadConfig there e
unread_there None e unread = elim unread [ ]
unread_there (Some there) e unread = (there, refl, unread)

-- an error of the configurations of a manifest's own, among those of all that count for it
pub own_fails : (F : Type 0) (pair : Pair) (tells : Bool) (files : Files) (manifest : List ℕ)
    (home : Option (List ℕ)) (e : Error) → IsMemory e ⊎ (F ⊎ ConfigsFail tells files manifest home e)
    → IsMemory e ⊎ (F ⊎ (IsUnreadFile pair.first e
    ⊎ (IsUnreadFile pair.last e ⊎ ConfigsFail tells files manifest home e)))
own_fails F pair tells files manifest home e (inl memory) = inl memory
own_fails F pair tells files manifest home e (inr (inl failed)) = inr (inl failed)
own_fails F pair tells files manifest home e (inr (inr fails)) = inr (inr (inr (inr fails)))

-- ---- causes

-- the manifests that are not read
pub target_cause : (current : List ℕ) (home : Option (List ℕ)) (asking : RequestView) (old new : StoreView)
    (e : Error) → IsFailure old new e ⊎ (old.tells ≡ true → HasNoTarget old.file_at current asking e)
    → IsReadCause current home asking old new e
target_cause current home asking old new e (inl failed) = inl failed
target_cause current home asking old new e (inr wrong) = inr (λ t. inl (wrong t))

-- a configuration file that is named and is not there
pub named_cause : (current : List ℕ) (home : Option (List ℕ)) (asking : RequestView) (old mid new : StoreView)
    (w : Option Workspace) (inputs : List Input) (e : Error) → OnlyReads old mid
    → (old.tells ≡ true → AreInputsRead old.file_at current asking w inputs)
    → IsCallError call.Read mid new e ⊎ (mid.tells ≡ true → LacksNamed mid.file_at current asking e)
    → IsReadCause current home asking old new e
named_cause current home asking old mid new w inputs e reads read (inl refused) =
    inl (inr (refused_on call.Read old mid new e reads refused))
named_cause current home asking old mid new w inputs e reads read (inr wrong) =
    inr (λ t. inr (inl (record {
      workspace = w;
      inputs = inputs;
      read = read t;
      cause = before (λ files. LacksNamed files current asking e) old mid reads wrong t;
    })))

-- the first configuration file that is not read after them
pub config_cause : (current : List ℕ) (home : Option (List ℕ)) (asking : RequestView) (old mid now new : StoreView)
    (w : Option Workspace) (inputs : List Input) (pair : Pair) (e : Error) → OnlyReads old mid
    → OnlyReads mid now → (old.tells ≡ true → AreInputsRead old.file_at current asking w inputs)
    → (mid.tells ≡ true → ArePairRead mid.file_at current asking pair)
    → IsCallError call.Read now new e ⊎ (now.tells ≡ true → StopsAtInput now.file_at home pair inputs e)
    → IsReadCause current home asking old new e
config_cause current home asking old mid now new w inputs pair e first second read named (inl refused) =
    inl (inr (refused_on call.Read old now new e (reads-on old mid now first second) refused))
config_cause current home asking old mid now new w inputs pair e first second read named (inr wrong) =
    inr (λ t. inr (inr (record {
      workspace = w;
      inputs = inputs;
      pair = pair;
      read = read t;
      named = before (λ files. ArePairRead files current asking pair) old mid first named t;
      cause = before (λ files. StopsAtInput files home pair inputs e) old now
          (reads-on old mid now first second) wrong t;
    })))
