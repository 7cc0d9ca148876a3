use Rattle.std.proofs.Common.{None, refl}
use Rattle.edit_upgrade.proofs.AddressLemmas.{none_resolved}
use Rattle.edit_upgrade.proofs.addresses.Addresses.new.Goals as goal

pub returns : goal.returns
returns c =
    none_resolved c.args.configs.now
    (record { configs = c.args.configs; definitions = None; default = None; named = c.new.result })
    refl refl refl c.new.ensures.empty
