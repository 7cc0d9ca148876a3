use Rattle.std.proofs.Common.{◌≡◌, Ok, codes, false, rules}
use Rattle.clap.specs.Words.{app_of, new_app}
use Rattle.clap.specs.declared.builder.command.Command.TheViews.{out-Command}
use Rattle.edit_words.proofs.ArgSpecLemmas.{args_added}
use Rattle.edit_words.proofs.set_version_line.set_version_command.Goals as goal

pub returns : goal.returns
returns c =
    let start : app_of c.about.result ≡ new_app (codes "set-version") = search rules in
    let local : (out-Command c.about.result).has_globals ≡ false = search rules in
    args_added _ _ _ _ _ c.with_args.ensures c.ignored_flags.ensures
    (args_added _ _ _ _ _ c.with_args-command-3.ensures c.reports.ensures
    (args_added _ _ _ _ _ c.with_args-command-2.ensures c.members.ensures
    (args_added (Ok c.about.result) _ _ _ (new_app (codes "set-version"))
    c.with_args-command.ensures c.targets.ensures
    (start, local))))
