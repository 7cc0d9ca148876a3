use Rattle.edit_upgrade.proofs.AddressCaches.{cached-with}
use Rattle.edit_upgrade.proofs.address_caches.keep_addresses.Goals as goal

pub returns-clause-caches : goal.returns-clause-caches
returns-clause-caches c =
    cached-with c.args.configs.lists.now c.args.caches.now c.insert.new.self c.args.list c.args.addresses
    c.requires.caches c.requires.addresses c.in_ok-insert.ensures.updates.0
