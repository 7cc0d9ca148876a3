-- A run of the program.
use Rattle.std.specs.Prelude.{ℕ, List, Option}
use Rattle.edit_sources.specs.Configured.{given}
use Rattle.edit_store.specs.Store.{StoreView}
use Rattle.edit_program.specs.declared.run_folders.RunFolders.{RunFolders}

-- a run: the folder that relative paths start from, the home folder of cargo, the files of the index, and
-- the other files before and after the run
pub record Run : Type 0 where
  pub current : List ℕ
  pub home : Option (List ℕ)
  pub index_files : StoreView
  pub old : StoreView
  pub new : StoreView

-- the run with these parts
abbrev pub run_at : List ℕ → Option (List ℕ) → StoreView → StoreView → StoreView → Run
run_at current home index_files old new = record {
  current = current;
  home = home;
  index_files = index_files;
  old = old;
  new = new;
}

-- the run in these folders, over these files of the index, with the other files before and after it
abbrev pub run_in : RunFolders → StoreView → StoreView → StoreView → Run
run_in place index_files old new = run_at place.current.now (given place.cargo_home) index_files old new
