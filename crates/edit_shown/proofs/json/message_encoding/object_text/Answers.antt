use Rattle.std.proofs.Common.{◌∙◌, ap}
use Rattle.std.proofs.lemmas.Result.{IfOk-weaker}
use Rattle.serde_json.specs.Written.{compact_text, has_float}
use Rattle.edit_shown.proofs.FloatLemmas.{no_float}
use Rattle.edit_shown.proofs.json.message_encoding.object_text.Goals as goal

pub returns : goal.returns
returns c =
    IfOk-weaker c.to_string.result _ _
    (λ s h. h (ap has_float c.in_ok-object.ensures ∙ no_float c.args.members.now)
    ∙ ap compact_text c.in_ok-object.ensures) c.to_string.ensures.text
