use Rattle.semver.specs.Identifiers.{parts_of}
use Rattle.edit_version.proofs.Outcomes.{readable}
use Rattle.edit_version.proofs.UpgradeLaws.{form, narrower, no_lower, no_plus, reach, release, settled}
use Rattle.edit_version.proofs.requirement.upgrade_requirement.Goals as goal

pub returns-clause-settled : goal.returns-clause-settled
returns-clause-settled c = λ r.
    settled c.args.req.now
    (parts_of c.args.version.now) c.upgraded_requirement.result c.upgraded_requirement.ensures
    (readable (parts_of c.args.version.now) r c.lemma_u64.ensures c.lemma_u64-2.ensures c.lemma_u64-3.ensures)

pub returns-clause-reach : goal.returns-clause-reach
returns-clause-reach c = λ r.
    reach c.args.req.now
    (parts_of c.args.version.now) c.upgraded_requirement.result c.upgraded_requirement.ensures
    (readable (parts_of c.args.version.now) r c.lemma_u64.ensures c.lemma_u64-2.ensures c.lemma_u64-3.ensures)

pub returns-clause-narrower : goal.returns-clause-narrower
returns-clause-narrower c = λ r.
    narrower c.args.req.now
    (parts_of c.args.version.now) c.upgraded_requirement.result c.upgraded_requirement.ensures
    (readable (parts_of c.args.version.now) r c.lemma_u64.ensures c.lemma_u64-2.ensures c.lemma_u64-3.ensures)

pub returns-clause-form : goal.returns-clause-form
returns-clause-form c = λ r.
    form c.args.req.now (parts_of c.args.version.now) c.upgraded_requirement.result c.upgraded_requirement.ensures
    (readable (parts_of c.args.version.now) r c.lemma_u64.ensures c.lemma_u64-2.ensures c.lemma_u64-3.ensures)

pub returns-clause-no_lower : goal.returns-clause-no_lower
returns-clause-no_lower c = λ r.
    no_lower c.args.req.now
    (parts_of c.args.version.now) c.upgraded_requirement.result c.upgraded_requirement.ensures
    (readable (parts_of c.args.version.now) r c.lemma_u64.ensures c.lemma_u64-2.ensures c.lemma_u64-3.ensures)

pub returns-clause-release : goal.returns-clause-release
returns-clause-release c = λ r.
    release c.args.req.now
    (parts_of c.args.version.now) c.upgraded_requirement.result c.upgraded_requirement.ensures
    (readable (parts_of c.args.version.now) r c.lemma_u64.ensures c.lemma_u64-2.ensures c.lemma_u64-3.ensures)

pub returns-clause-no_plus : goal.returns-clause-no_plus
returns-clause-no_plus c = λ r.
    no_plus c.args.req.now
    (parts_of c.args.version.now) c.upgraded_requirement.result c.upgraded_requirement.ensures
    (readable (parts_of c.args.version.now) r c.lemma_u64.ensures c.lemma_u64-2.ensures c.lemma_u64-3.ensures)
