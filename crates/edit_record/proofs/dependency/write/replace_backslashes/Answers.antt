use Rattle.std.proofs.Common.{refl, string_bytes}
use Rattle.std.proofs.lemmas.Result.{IfOk-weaker}
use Rattle.edit_record.proofs.RelativeTexts.{replaced-replace_backslashes}
use Rattle.edit_record.proofs.dependency.write.replace_backslashes.Goals as goal

pub returns : goal.returns
returns c =
    IfOk-weaker c.replace.result _ _
    (λ t h. replaced-replace_backslashes h.0 92 c.args.text.now (string_bytes t) refl h.1) c.replace.ensures.ok
