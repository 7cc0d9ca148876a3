use Rattle.std.proofs.Common.{inl, inr}
use Rattle.std.proofs.lemmas.Result.{IfErr-weaker, IfOk-weaker}
use Rattle.clap.specs.Words.{found_of, rows_of}
use Rattle.edit_sources.specs.Configured.{given}
use Rattle.edit_program.specs.Run.{run_at}
use Rattle.edit_program.proofs.CommandCases.{in_right, lookups_reply_by, upgrade_reply_by, version_reply_by}
use Rattle.edit_program.proofs.commands.subcommand_reply.Goals as goal

pub returns-in-upgrade-clause-reply : goal.returns-in-upgrade-clause-reply
returns-in-upgrade-clause-reply g c = IfOk-weaker c.upgrade_reply.result _ _
    (λ r h. upgrade_reply_by c.args.subcommand.0.now (rows_of (found_of c.args.subcommand.1.now))
    (run_at c.args.place.now.current.now (given c.args.place.now.cargo_home)
    (g.T.Store.view c.args.index_files) (g.S.Store.view c.args.files.now) (g.S.Store.view c.upgrade_reply.new.files)) r
    c.in-upgrade.is h) c.upgrade_reply.ensures.reply

pub returns-in-upgrade-clause-why : goal.returns-in-upgrade-clause-why
returns-in-upgrade-clause-why g c = IfErr-weaker c.upgrade_reply.result _ _
    (λ r h. in_right (λ cause. inl (c.in-upgrade.is, cause)) h) c.upgrade_reply.ensures.why

pub returns-in-looks-clause-reply : goal.returns-in-looks-clause-reply
returns-in-looks-clause-reply g c = IfOk-weaker c.lookups_reply.result _ _
    (λ r h. lookups_reply_by c.args.subcommand.0.now (rows_of (found_of c.args.subcommand.1.now))
    (run_at c.args.place.now.current.now (given c.args.place.now.cargo_home)
    (g.T.Store.view c.args.index_files) (g.S.Store.view c.args.files.now) (g.S.Store.view c.lookups_reply.new.files)) r
    c.in-looks.is h) c.lookups_reply.ensures.reply

pub returns-in-looks-clause-why : goal.returns-in-looks-clause-why
returns-in-looks-clause-why g c = IfErr-weaker c.lookups_reply.result _ _
    (λ r h. in_right (λ cause. inr (inl (c.in-looks.is, cause))) h) c.lookups_reply.ensures.why

pub returns-in-looks-clause-counted : goal.returns-in-looks-clause-counted
returns-in-looks-clause-counted g c = IfErr-weaker c.lookups_reply.result _ _
    (λ r h device. inl (h device)) c.lookups_reply.ensures.counted

pub returns-in-text-clause-reply : goal.returns-in-text-clause-reply
returns-in-text-clause-reply g c = IfOk-weaker c.set_version_reply.result _ _
    (λ r h. version_reply_by c.args.subcommand.0.now (rows_of (found_of c.args.subcommand.1.now))
    (run_at c.args.place.now.current.now (given c.args.place.now.cargo_home)
    (g.T.Store.view c.args.index_files) (g.S.Store.view c.args.files.now) (g.S.Store.view c.set_version_reply.new.files)) r
    c.in-text.is h) c.set_version_reply.ensures.reply

pub returns-in-text-clause-why : goal.returns-in-text-clause-why
returns-in-text-clause-why g c = IfErr-weaker c.set_version_reply.result _ _
    (λ r h. in_right (λ cause. inr (inr (c.in-text.is, cause))) h) c.set_version_reply.ensures.why

pub returns-in-text-clause-counted : goal.returns-in-text-clause-counted
returns-in-text-clause-counted g c = IfErr-weaker c.set_version_reply.result _ _
    (λ r h device. inl (h device)) c.set_version_reply.ensures.counted

pub returns-in_default-clause-reply : goal.returns-in_default-clause-reply
returns-in_default-clause-reply g c = inl (record {
  no_upgrade = c.in_default.not-upgrade;
  no_lookups = c.in_default.not-looks;
  no_set_version = c.in_default.not-text;
})
