use Rattle.std.proofs.Common.{◌∙◌, arith, subst, refl, string_bytes}
use Rattle.edit_fetch.specs.Settings.{IsReadAt, values_of}
use Rattle.edit_fetch.proofs.SettingsLemmas.{read_more, read_none}
use Rattle.edit_fetch.proofs.settings.net_settings.Goals as goal

pub loop-config-init : goal.loop-config-init
loop-config-init g c = record {
  store = record { tells = refl; files = λ path. refl; writes = refl; later = omega arith };
  read = λ tells. read_none _ _;
}

pub loop-config-preserved : goal.loop-config-preserved
loop-config-preserved g c =
    let store = c.loop-config.invariant.store in
    let path = string_bytes c.config-item.result.path in
    let value = values_of c.in-Ok.later in
    record {
      store = record {
        tells = c.values_at.ensures.store.tells ∙ store.tells;
        files = λ path. c.values_at.ensures.store.files path ∙ store.files path;
        writes = c.values_at.ensures.store.writes ∙ store.writes;
        later = omega (arith, store.later, c.values_at.ensures.store.later);
      };
      read = λ tells. read_more _ _ _ _ _ _ _ _ c.loop-config-test.true c.config-item.is
          (c.loop-config.invariant.read tells)
          (subst (λ file. IsReadAt path file value) (store.files path)
          (subst (λ p. IsReadAt p ((g.S.Store.view c.loop-config.store).file_at p) value)
          c.as_str.ensures.value (c.in-Ok.ensures.read (store.tells ∙ tells))))
          c.merge_values-values.ensures;
    }
