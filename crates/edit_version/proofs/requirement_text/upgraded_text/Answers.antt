use Rattle.semver.specs.Identifiers.{parts_of}
use Rattle.edit_version.proofs.Texts.{grown}
use Rattle.edit_version.proofs.requirement_text.upgraded_text.Goals as goal

pub rest-preserved : goal.rest-preserved
rest-preserved c =
    grown (parts_of c.args.version.now) _ c.rest.comparator-index c.comparator-item.result _ _ _ _
    c.rest-test.true
    c.comparator-item.is c.rest.invariant c.in_ok-push_str-2.ensures.bytes c.in_ok-push_upgraded-2.ensures
