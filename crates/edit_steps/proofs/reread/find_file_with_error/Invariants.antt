use Rattle.edit_store.specs.Store.{OnlyReads}
use Rattle.edit_steps.proofs.reread.find_file_with_error.Given as goal

abbrev pub invariant-paths : goal.invariant-paths
invariant-paths g l = OnlyReads (g.S.Store.view l.initial.files) (g.S.Store.view l.files)
