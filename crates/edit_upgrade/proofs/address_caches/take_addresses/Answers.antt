use Rattle.std.proofs.Common.{ap, sym, ◌∙◌}
use Rattle.std.specs.Global.{Vec}
use Rattle.edit_sources.specs.declared.config.Config.{Config}
use Rattle.edit_upgrade.proofs.AddressCaches.{cached-without, new-for}
use Rattle.edit_upgrade.proofs.address_caches.take_addresses.Goals as goal

pub returns-in-Some : goal.returns-in-Some
returns-in-Some c = record {
  addresses = λ own at. c.requires.caches c.args.list c.in-Some.addresses own
      (sym c.in-Some.ensures.value) at;
  caches = cached-without c.args.configs.lists.now c.args.caches.now c.remove.new.self c.args.list
      c.requires.caches c.in-Some.ensures.updates.0;
}

pub returns-in-None : goal.returns-in-None
returns-in-None c = record {
  addresses = new-for c.args.configs.lists.now c.args.list c.new.result c.index-configs-list.result
      c.deref.result.now c.requires.within c.index-configs-list.is
      (c.deref.ensures.value ∙ ap (λ (v : Vec Config). v.items) (sym c.index-configs-list.is)) c.new.ensures;
  caches = cached-without c.args.configs.lists.now c.args.caches.now c.remove.new.self c.args.list
      c.requires.caches c.in-None.ensures.updates.0;
}
