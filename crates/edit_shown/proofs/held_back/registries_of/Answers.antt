use Rattle.std.proofs.Common.{◌∙◌, ap}
use Rattle.std.proofs.lemmas.Result.{IfOk-weaker}
use Rattle.edit_metadata.specs.Reading.{holds}
use Rattle.edit_shown.specs.HeldBack.{registries_by}
use Rattle.edit_shown.proofs.held_back.registries_of.Goals as goal

pub returns : goal.returns
returns c =
    IfOk-weaker c.registries_by.result _ _
    (λ v h. h ∙ ap (λ has_times. registries_by (holds c.args.excluded.now) has_times c.args.lookups.now)
    (λ i q. c.in_ok-dated.ensures q i))
    c.registries_by.ensures
