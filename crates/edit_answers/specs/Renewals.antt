-- Files that are noted as used.
use Rattle.std.specs.Prelude.{◌≡◌, ℕ, List, Bool, true, Result, IfErr, IfOk}
use Rattle.std.specs.Option.{is_some}
use Rattle.edit_base.specs.declared.errors.Error.{Error}
use Rattle.edit_store.specs.Store.{OnlyReads, StoreView}
use Rattle.edit_answers.specs.Changes.{Fails}

-- a call returns whether a file is at a path, and writes nothing
pub record Renews (path : List ℕ) (old new : StoreView) (result : Result Bool Error) : Type 0 where
  pub reads : OnlyReads old new
  pub is_there : IfOk result (λ is_file. old.tells ≡ true → is_file ≡ is_some (old.file_at path))
  pub error : IfErr result (Fails old.faults new.faults)
