use Rattle.std.proofs.Common.{[], ◌∙◌, map, subst, sym}
use Rattle.edit_answers.specs.Groups.{AreGroupsOf, group_text}
use Rattle.edit_answers.specs.Groups.AreGroupsOf.{none}
use Rattle.edit_answers.proofs.GroupLemmas.{groups-more, groups-same}
use Rattle.edit_answers.proofs.groups.groups_of.Goals as goal

pub loop-i-init : goal.loop-i-init
loop-i-init c =
    subst (λ gs. AreGroupsOf c.args.found.now [] (map group_text gs)) (sym c.new-groups.ensures.items) none

pub loop-i-preserved-then-is_listed : goal.loop-i-preserved-then-is_listed
loop-i-preserved-then-is_listed c =
    groups-same c.args.found.now c.loop-i.i _ c.loop-i-test.true (map group_text c.loop-i.groups.items)
    (sym c.is_listed.ensures ∙ c.if-is_listed.true) c.loop-i.invariant

pub loop-i-preserved : goal.loop-i-preserved
loop-i-preserved c =
    groups-more c.args.found.now c.loop-i.i _ c.loop-i-test.true c.loop-i.groups.items c.push.new.self.items
    c.in_ok-group.group (sym c.is_listed.ensures ∙ c.if-is_listed.false) c.in_ok-push.ensures.items
    c.loop-i.invariant c.in_ok-group.ensures
