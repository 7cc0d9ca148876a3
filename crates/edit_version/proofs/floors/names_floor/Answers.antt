use Rattle.std.proofs.Common.{◌≡◌, ◌∙◌, Bool, ap, map, sym, true}
use Rattle.std.specs.Prelude.{◌&&◌, not}
use Rattle.semver.specs.Identifiers.{comparator_view}
use Rattle.edit_version.specs.Floors.{comparator_version, is_end, one_begins_after}
use Rattle.edit_version.proofs.FloorReadings.{after-views}
use Rattle.edit_version.proofs.floors.names_floor.Goals as goal

pub returns-then-not-is_end : goal.returns-then-not-is_end
returns-then-not-is_end c =
    let cs = c.args.comparators.now in
    let v = comparator_version (comparator_view c.args.comparator.now) in
    let begins : not (is_end c.args.comparator.now.op) ≡ true =
    ap not (sym c.is_end.ensures ∙ c.if-not-is_end.true) in
    ap not (c.is_exceeded.ensures ∙ after-views v cs)
    ∙ sym (ap (λ (b : Bool). b && not (one_begins_after (map comparator_view cs) v)) begins)
