use Rattle.std.proofs.Common.{◌≡◌, IfOk, drop, false, map}
use Rattle.clap.specs.Words.{App, app_of}
use Rattle.clap.specs.declared.builder.command.Command.TheViews.{out-Command}
use Rattle.edit_words.specs.Rules.{with_rules}
use Rattle.edit_words.specs.Tables.{IsLocal, arg_rule}
use Rattle.edit_words.proofs.rules.with_args.Given as goal

abbrev pub invariant-loop-arg_spec : goal.invariant-loop-arg_spec
invariant-loop-arg_spec l = (app : App) → IfOk l.fn.command (IsLocal app)
    → (with_rules (app_of l.command) (map arg_rule (drop l.arg_spec-index l.arg_specs))
    ≡ with_rules app (map arg_rule l.arg_specs))
    × ((out-Command l.command).has_globals ≡ false)
