use Rattle.edit_version.proofs.JoinedTexts.{listed-grown}
use Rattle.edit_version.proofs.crate_spec.joined_chars.Goals as goal

pub rest-preserved : goal.rest-preserved
rest-preserved c =
    listed-grown _ c.rest.c-index c.c-item.result _ _ _ _ c.rest-test.true c.c-item.is c.rest.invariant
    c.in_ok-push_str.ensures.bytes c.in_ok-push-2.ensures.bytes
