use Rattle.edit_metadata.proofs.UniqueWorkspaces.{versions-readable}
use Rattle.edit_metadata.specs.Metadata.{is_listed}
use Rattle.edit_metadata.proofs.workspace.Workspace.read.Goals as goal

pub returns-clause-readable : goal.returns-clause-readable
returns-clause-readable c =
    let says = c.in_ok-workspace.ensures.content.says in
    versions-readable (is_listed says.ids) says.values c.in_ok-workspace.workspace.packages.items says.packages
