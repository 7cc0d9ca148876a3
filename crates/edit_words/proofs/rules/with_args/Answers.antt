use Rattle.edit_words.proofs.ArgSpecLemmas.{next_arg, no_arg_left}
use Rattle.edit_words.proofs.rules.with_args.Goals as goal

pub loop-arg_spec-preserved : goal.loop-arg_spec-preserved
loop-arg_spec-preserved c = λ app h. next_arg _ _ _ _ _ _ _ c.in_ok-command-2.ensures
    c.to_clap_arg.ensures.rule c.to_clap_arg.ensures.local c.loop-arg_spec-test.true (c.loop-arg_spec.invariant app h)

pub returns : goal.returns
returns c = λ app h. no_arg_left _ _ _ _ c.loop-arg_spec-test.false (c.loop-arg_spec.invariant app h)
