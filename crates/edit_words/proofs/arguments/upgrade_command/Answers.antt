use Rattle.std.proofs.Common.{◌≡◌, Ok, false, rules}
use Rattle.clap.specs.Words.{app_of, new_app}
use Rattle.clap.specs.declared.builder.command.Command.TheViews.{out-Command}
use Rattle.edit_words.proofs.ArgSpecLemmas.{args_added}
use Rattle.edit_words.proofs.arguments.upgrade_command.Goals as goal

pub returns : goal.returns
returns c =
    let start : app_of c.about.result ≡ new_app c.args.name.now = search rules in
    let local : (out-Command c.about.result).has_globals ≡ false = search rules in
    args_added _ _ _ _ _ c.with_args.ensures c.selections.ensures
    (args_added _ _ _ _ _ c.with_args-command-6.ensures c.choices.ensures
    (args_added _ _ _ _ _ c.with_args-command-5.ensures c.reports.ensures
    (args_added _ _ _ _ _ c.with_args-command-4.ensures c.ages.ensures
    (args_added _ _ _ _ _ c.with_args-command-3.ensures c.switches.ensures
    (args_added _ _ _ _ _ c.with_args-command-2.ensures c.configurations.ensures
    (args_added (Ok c.about.result) _ _ _ (new_app c.args.name.now)
    c.with_args-command.ensures c.files.ensures
    (start, local)))))))
