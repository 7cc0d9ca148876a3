use Rattle.std.proofs.Common.{◌∙◌, ap, map, string_bytes}
use Rattle.std.proofs.lemmas.Result.{IfOk-weaker}
use Rattle.edit_program.proofs.ArgsLemmas.{values_absent, values_there}
use Rattle.edit_program.proofs.lookups.values_of.Goals as goal

pub returns-in-Some : goal.returns-in-Some
returns-in-Some c = IfOk-weaker c.copied_texts.result _ _ (λ v h. h
    ∙ values_there c.args.matches.now c.args.id.now c.get_strs.result c.in-Some.texts c.in-Some.is
    c.get_strs.ensures) c.copied_texts.ensures

pub returns-in-None : goal.returns-in-None
returns-in-None c = ap (map string_bytes) c.new.ensures.items
    ∙ values_absent c.args.matches.now c.args.id.now c.get_strs.result c.in-None.is c.get_strs.ensures
