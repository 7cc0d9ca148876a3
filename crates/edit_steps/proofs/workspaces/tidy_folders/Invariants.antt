use Rattle.edit_store.specs.Store.{OnlyReads}
use Rattle.edit_steps.proofs.workspaces.tidy_folders.Given as goal

abbrev pub invariant-loop-input : goal.invariant-loop-input
invariant-loop-input g l = OnlyReads (g.S.Store.view l.initial.files) (g.S.Store.view l.files)
