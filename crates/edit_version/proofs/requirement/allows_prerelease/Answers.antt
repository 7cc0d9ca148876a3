use Rattle.std.proofs.Common.{◌∙◌}
use Rattle.edit_version.proofs.PreReleases.{admits-dash}
use Rattle.edit_version.proofs.requirement.allows_prerelease.Goals as goal

pub returns-clause-admits : goal.returns-clause-admits
returns-clause-admits c = λ w a some. c.has_dash.ensures ∙ admits-dash c.args.req.now w a some
