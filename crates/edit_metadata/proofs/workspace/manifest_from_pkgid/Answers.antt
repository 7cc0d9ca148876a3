use Rattle.std.proofs.Common.{rules, sym, ◌∙◌}
use Rattle.edit_metadata.specs.Workspaces.{is_member_named}
use Rattle.edit_metadata.proofs.FirstMember.{find-here, find-none}
use Rattle.edit_metadata.proofs.workspace.manifest_from_pkgid.Goals as goal

pub returns-then-is_member_named-clause-found : goal.returns-then-is_member_named-clause-found
returns-then-is_member_named-clause-found c =
    find-here (is_member_named c.args.name.now) c.args.workspace.now.packages.items c.packages.package-index
    c.package-item.result (search (rules, c.deref-package-items.ensures.value, c.packages-test.true))
    (search (rules, c.deref-package-items.ensures.value, c.package-item.is)) c.packages.invariant
    (sym c.is_member_named.ensures ∙ c.if-is_member_named.true)

pub packages-preserved : goal.packages-preserved
packages-preserved c =
    find-none (is_member_named c.args.name.now) c.args.workspace.now.packages.items c.packages.package-index
    c.package-item.result (search (rules, c.deref-package-items.ensures.value, c.packages-test.true))
    (search (rules, c.deref-package-items.ensures.value, c.package-item.is)) c.packages.invariant
    (sym c.is_member_named.ensures ∙ c.if-is_member_named.false)
