use Rattle.std.proofs.Common.{◌≡◌, None, Some, rules, string_bytes}
use Rattle.edit_upgrade.specs.Found.{row_entry_view}
use Rattle.edit_upgrade.specs.Records.{at_registry}
use Rattle.edit_upgrade.proofs.RevisedInputs.{address_for, some_address}
use Rattle.edit_upgrade.proofs.revision.address_of.Goals as goal

pub registry_address-requires-clause-resolved : goal.registry_address-requires-clause-resolved
registry_address-requires-clause-resolved c =
    let is : (row_entry_view c.args.entry.now).source ≡ at_registry (Some c.as_str.result.now) = search rules in
    some_address c.args.addresses.now.configs.now (row_entry_view c.args.entry.now) (Some c.as_str.result.now)
    c.requires.resolved is

pub registry_address-requires-in-Registry-None-clause-resolved : goal.registry_address-requires-in-Registry-None-clause-resolved
registry_address-requires-in-Registry-None-clause-resolved c =
    let is : (row_entry_view c.args.entry.now).source ≡ at_registry None = search rules in
    some_address c.args.addresses.now.configs.now (row_entry_view c.args.entry.now) None c.requires.resolved is

pub returns-in_ok-address-in-Registry-Some-clause-address : goal.returns-in_ok-address-in-Registry-Some-clause-address
returns-in_ok-address-in-Registry-Some-clause-address c =
    let is : (row_entry_view c.args.entry.now).source ≡ at_registry (Some c.as_str.result.now) = search rules in
    address_for c.args.addresses.now.configs.now (row_entry_view c.args.entry.now) (Some c.as_str.result.now)
    (string_bytes c.in_ok-address-in-Registry-Some.address) is c.in_ok-address-in-Registry-Some.ensures.address

pub returns-in_ok-address-in-Registry-None-clause-address : goal.returns-in_ok-address-in-Registry-None-clause-address
returns-in_ok-address-in-Registry-None-clause-address c =
    let is : (row_entry_view c.args.entry.now).source ≡ at_registry None = search rules in
    address_for c.args.addresses.now.configs.now (row_entry_view c.args.entry.now) None
    (string_bytes c.in_ok-address-in-Registry-None.address) is c.in_ok-address-in-Registry-None.ensures.address
