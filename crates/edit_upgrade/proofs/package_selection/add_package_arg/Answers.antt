use Rattle.edit_upgrade.proofs.PackageArgLemmas.{arg_added}
use Rattle.edit_upgrade.proofs.package_selection.add_package_arg.Goals as goal

pub returns-clause-ok : goal.returns-clause-ok
returns-clause-ok c =
    let named = c.in_ok-name.ensures.ok in
    arg_added c.args.arg.now c.args.args.now c.add_first.new.args c.insert.new.self
    c.in_ok-name.field-0.name c.in_ok-name.field-0.version_req c.as_str.result.now
    named.crate_name named.fit named.requirement named.readable c.as_str.ensures.value
    c.in_ok-add_first.ensures.names c.in_ok-add_first.ensures.requirements c.in_ok-insert.ensures.updates
