-- A plan over an index and over the store below it: device errors, and the model of the index.
use Rattle.std.proofs.Common.{List, Option, Result, arith, inl, inr, refl, subst, sym, ℕ, ◌≡◌}
use Rattle.std.proofs.lemmas.Result.{IfErr-weaker}
use Rattle.std.specs.Prelude.{IfErr, String, string_bytes}
use Rattle.std.specs.declared.alloc.Global.{Global}
use Rattle.edit_base.specs.declared.errors.Error.{Error}
use Rattle.edit_restricted_index.proofs.RestrictedLemmas.{same_faults}
use Rattle.edit_restricted_index.specs.RestrictedIndex.{index_of, test_in, view_of}
use Rattle.edit_restricted_index.specs.declared.restricted_index.RestrictedIndex.{RestrictedIndex}
use Rattle.edit_sources.specs.DirIndex.{dir_view, folder_of}
use Rattle.edit_sources.specs.DirIndex.{bound_of as folder_bound, files_of as folder_files, store_of as folder_store}
use Rattle.edit_sources.specs.FileIndex.{file_view}
use Rattle.edit_sources.specs.Index.{IndexView}
use Rattle.edit_sources.specs.LocalIndex.{bound_of, files_of, local_view, store_of}
use Rattle.edit_sources.specs.Published.{published_view}
use Rattle.edit_sources.specs.declared.file_index.FileIndex.{FileIndex}
use Rattle.edit_sources.specs.declared.index_dir.dir_index.DirIndex.{DirIndex}
use Rattle.edit_sources.specs.declared.local_index.LocalIndex.{LocalIndex}
use Rattle.edit_sources.specs.declared.published.PublishedBefore.{PublishedBefore}
use Rattle.edit_steps.specs.declared.upgrade_read.index.IndexSource.{IndexSource}
use Rattle.edit_steps.specs.declared.upgrade_read.index.IndexSource.TheVariants as source
use Rattle.edit_store.specs.Store.{StoreView, IsRaisedCount}
use Rattle.edit_upgrade.specs.declared.failure.PlanFailure.{PlanFailure}
use Rattle.edit_program.specs.Counted.{CountsIndexFault, CountsStoreFault}
use Rattle.edit_program.specs.Planned.{index_view}

-- a count of faults that stays 0 does not rise
pub none_raised : IsRaisedCount 0 0 → ⊥
none_raised (inl rose) = omega (arith, rose)
none_raised (inr ends) = omega (arith, ends.0)

-- an index over a store fails only where the store does
pub store_fails : {I T : Type 0} (view : I → IndexView) (index : I) (files : T → StoreView) (store : T)
    (store_of : I → T) (e : Error) → ((i : I) → (view i).faults ≡ (files (store_of i)).faults)
    → store_of index ≡ store → CountsIndexFault view index e → CountsStoreFault files store e
store_fails {I} {T} view index files store store_of e same is counts device =
    let failed = counts device in (
      store_of failed.0,
      subst (λ (s : T). IsRaisedCount (files s).faults (files (store_of failed.0)).faults) is
          (subst (λ (n : ℕ). IsRaisedCount n (files (store_of failed.0)).faults) (same index)
          (subst (λ (n : ℕ). IsRaisedCount (view index).faults n) (same failed.0) failed.1)),
    )

-- a restricted index fails only where the index below it does
pub restricted_fault : {I : Type 0} (view : I → IndexView) (restricted : RestrictedIndex I) (index : I)
    (e : Error) → index_of restricted ≡ index → CountsIndexFault (view_of view) restricted e
    → CountsIndexFault view index e
restricted_fault {I} view restricted index e is counts device =
    let failed = counts device in
    let after = index_of failed.0 in
    let old = same_faults (test_in restricted) (view (index_of restricted)) in
    let new = same_faults (test_in failed.0) (view after) in
    let raised : IsRaisedCount (view (index_of restricted)).faults (view after).faults =
    subst (λ (n : ℕ). IsRaisedCount n (view after).faults) old
    (subst (λ (n : ℕ). IsRaisedCount (view_of view restricted).faults n) new failed.1) in
    (after, subst (λ (i : I). IsRaisedCount (view i).faults (view after).faults) is raised)

-- a plan over the index in files
pub local_fault : {T V : Type 0} (files : T → StoreView) (index : LocalIndex T) (store : T)
    (r : Result V PlanFailure) → store_of index ≡ store
    → IfErr r (λ f. CountsIndexFault (λ (i : LocalIndex T). local_view (files_of files i)) index f.error)
    → IfErr r (λ f. CountsStoreFault files store f.error)
local_fault {T} files index store r is counts =
    IfErr-weaker r _ _ (λ f h. store_fails (λ (i : LocalIndex T). local_view (files_of files i)) index files
    store (λ (i : LocalIndex T). store_of i) f.error (λ i. refl) is h) counts

-- a plan over a folder of registries
pub folder_fault : {T V : Type 0} (files : T → StoreView) (index : DirIndex T) (store : T)
    (r : Result V PlanFailure) → folder_store index ≡ store
    → IfErr r (λ f.
    CountsIndexFault (λ (i : DirIndex T). dir_view (folder_of i) (folder_files files i)) index f.error)
    → IfErr r (λ f. CountsStoreFault files store f.error)
folder_fault {T} files index store r is counts =
    IfErr-weaker r _ _ (λ f h. store_fails (λ (i : DirIndex T). dir_view (folder_of i) (folder_files files i))
    index files store (λ (i : DirIndex T). folder_store i) f.error (λ i. refl) is h) counts

-- a plan over the lines of a file, which fails for no device
pub lines_fault : {T V : Type 0} (files : T → StoreView) (index : FileIndex) (store : T)
    (r : Result V PlanFailure) → IfErr r (λ f. CountsIndexFault file_view index f.error)
    → IfErr r (λ f. CountsStoreFault files store f.error)
lines_fault files index store r counts =
    IfErr-weaker r _ _ (λ f h device. absurd (none_raised (h device).1)) counts

-- what holds over an index in files with a bound holds over the index of the source that names it
pub over_files : {T : Type 0} (files : T → StoreView) (index : LocalIndex T) (store : T)
    (bound : Option PublishedBefore) (named : IndexSource) (P : IndexView → Type 0)
    → named ≡ source.Files → store_of index ≡ store → bound_of index ≡ bound
    → P (local_view (files_of files index)) → P (index_view bound named (files store))
over_files {T} files index store bound named P at is bounded h =
    subst (λ (i : IndexSource). P (index_view bound i (files store))) (sym at)
    (subst (λ (s : T). P (local_view (published_view bound (files s)))) is
    (subst (λ (b : Option PublishedBefore). P (local_view (published_view b (files (store_of index)))))
    bounded h))

-- what holds over a folder of registries with a bound holds over the index of the source that names it
pub over_folder : {T : Type 0} (files : T → StoreView) (index : DirIndex T) (store : T)
    (bound : Option PublishedBefore) (named : IndexSource) (folder : String Global) (P : IndexView → Type 0)
    → named ≡ source.Folder folder → folder_store index ≡ store → folder_bound index ≡ bound
    → folder_of index ≡ string_bytes folder
    → P (dir_view (folder_of index) (folder_files files index)) → P (index_view bound named (files store))
over_folder {T} files index store bound named folder P at is bounded same h =
    subst (λ (i : IndexSource). P (index_view bound i (files store))) (sym at)
    (subst (λ (f : List ℕ). P (dir_view f (published_view bound (files store)))) same
    (subst (λ (s : T). P (dir_view (folder_of index) (published_view bound (files s)))) is
    (subst (λ (b : Option PublishedBefore).
    P (dir_view (folder_of index) (published_view b (files (folder_store index))))) bounded h)))
