use Rattle.std.proofs.Common.{◌≡◌, true, take}
use Rattle.edit_store.specs.Store.{OnlyReads}
use Rattle.edit_fetch.specs.Settings.{values_of}
use Rattle.edit_fetch.proofs.SettingsLemmas.{ReadSoFar}
use Rattle.edit_fetch.proofs.settings.net_settings.Given as goal

abbrev pub invariant-loop-config : goal.invariant-loop-config
invariant-loop-config g l = record {
  store : OnlyReads (g.S.Store.view l.initial.store) (g.S.Store.view l.store);
  read : (g.S.Store.view l.initial.store).tells ≡ true
      → ReadSoFar (g.S.Store.view l.initial.store).file_at (take l.config-index l.configs)
      (values_of l.initial.values) (values_of l.values);
}
