-- Device errors, which are counted for every store (own).
use Rattle.std.specs.Prelude.{◌≡◌}
use Rattle.edit_base.specs.declared.errors.Error.{Error}
use Rattle.edit_base.specs.Errors.{number_of}
use Rattle.edit_store.specs.Store.{StoreView, IsRaisedCount}

-- a device error implies that the count of faults rose (own)
abbrev pub CountsFault : StoreView → StoreView → Error → Type 0
CountsFault old new e = number_of e ≡ 3 → IsRaisedCount old.faults new.faults
