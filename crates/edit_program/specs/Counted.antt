-- Device errors, which are counted for every store (own).
use Rattle.std.specs.Prelude.{◌≡◌, ◌⊎◌}
use Rattle.edit_base.specs.Errors.{number_of}
use Rattle.edit_base.specs.declared.errors.Error.{Error}
use Rattle.edit_sources.specs.Index.{IndexView}
use Rattle.edit_store.specs.Store.{StoreView, IsRaisedCount}

-- the device of an index failed: its count of faults rose (own)
abbrev pub HasFailedBelow : {I : Type 0} → (I → IndexView) → I → Type 0
HasFailedBelow {I} view index = (after : I) × IsRaisedCount (view index).faults (view after).faults

-- a device error implies that the device of the index failed (own)
abbrev pub CountsIndexFault : {I : Type 0} → (I → IndexView) → I → Error → Type 0
CountsIndexFault view index e = number_of e ≡ 3 → HasFailedBelow view index

-- the device of a store failed: its count of faults rose (own)
abbrev pub HasFailedOf : {T : Type 0} → (T → StoreView) → T → Type 0
HasFailedOf {T} view store = (after : T) × IsRaisedCount (view store).faults (view after).faults

-- a device error implies that the device of the store failed (own)
abbrev pub CountsStoreFault : {T : Type 0} → (T → StoreView) → T → Error → Type 0
CountsStoreFault view store e = number_of e ≡ 3 → HasFailedOf view store

-- a device error implies that the count of faults of the files rose, or that of the index's files (own)
abbrev pub CountsEitherFault : {T : Type 0} → (T → StoreView) → T → StoreView → StoreView → Error → Type 0
CountsEitherFault view index_files old new e =
    number_of e ≡ 3 → IsRaisedCount old.faults new.faults ⊎ HasFailedOf view index_files
