use Rattle.std.proofs.Common.{◌∙◌}
use Rattle.edit_version.proofs.MatchLemmas.{matches_admits}
use Rattle.edit_version.proofs.requirement.admits.Goals as goal

pub returns : goal.returns
returns c = c.matches.ensures ∙ matches_admits c.args.req.now.comparators.items c.args.version.now
