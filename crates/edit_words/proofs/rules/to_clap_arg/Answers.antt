use Rattle.std.proofs.Common.{◌∙◌, ap}
use Rattle.clap.specs.Words.{rule_of}
use Rattle.edit_words.proofs.ArgSpecLemmas.{lettered_arg, plain_arg}
use Rattle.edit_words.proofs.rules.to_clap_arg.Goals as goal

pub returns-in-None-None-clause-rule : goal.returns-in-None-None-clause-rule
returns-in-None-None-clause-rule c =
    plain_arg c.args.arg_spec _ c.arg_of_form-arg.ensures.rule c.in-None-None.is-0 c.in-None-None.is-1

pub returns-in-Some-None-clause-rule : goal.returns-in-Some-None-clause-rule
returns-in-Some-None-clause-rule c = ap rule_of c.short.ensures
    ∙ lettered_arg c.args.arg_spec (rule_of c.arg_of_form-arg.result) _ c.arg_of_form-arg.ensures.rule
    c.in-Some-None.is-0 c.in-Some-None.is-1
