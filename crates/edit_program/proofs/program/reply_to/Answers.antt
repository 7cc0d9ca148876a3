use Rattle.std.proofs.Common.{Bor, List, inl, inr, map, ℕ}
use Rattle.clap.specs.Words.{app_of, found_of, rows_of}
use Rattle.std.proofs.lemmas.Result.{IfErr-weaker}
use Rattle.edit_program.proofs.CommandLemmas.{entered_by, none_by}
use Rattle.edit_program.proofs.RunLemmas.{command_reply, command_why}
use Rattle.edit_program.proofs.ClapMessageLemmas.{shown_reply}
use Rattle.edit_program.proofs.CountLemmas.{memory_counts}
use Rattle.edit_program.proofs.program.reply_to.Goals as goal

pub returns-in-Err-clause-reply : goal.returns-in-Err-clause-reply
returns-in-Err-clause-reply g c =
    shown_reply (app_of c.in_ok-command.command) (map (λ (w : Bor (List ℕ)). w.now) c.args.args.now)
    c.in-Err.error _ c.clap_reply.result
    c.in_ok-command.ensures.app c.in-Err.ensures.passes
    (c.in-Err.ensures.kinds c.in_ok-command.ensures.free) c.clap_reply.ensures.memory
    c.clap_reply.ensures.message c.clap_reply.ensures.ok

pub returns-in-Err-clause-why : goal.returns-in-Err-clause-why
returns-in-Err-clause-why g c =
    IfErr-weaker c.clap_reply.result _ _ (λ r memory. inl memory) c.clap_reply.ensures.error

pub returns-in-Err-clause-counted : goal.returns-in-Err-clause-counted
returns-in-Err-clause-counted g c =
    IfErr-weaker c.clap_reply.result _ _ (λ r memory. memory_counts r.error memory) c.clap_reply.ensures.error

pub returns-in-Some-subcommand-clause-reply : goal.returns-in-Some-subcommand-clause-reply
returns-in-Some-subcommand-clause-reply g c =
    let args = map (λ (w : Bor (List ℕ)). w.now) c.args.args.now in
    let met = c.in-Some-subcommand in
    let entered = entered_by (app_of c.in_ok-command.command) args c.in-Ok.matches met.matches.now
    met.name.now c.in_ok-command.ensures.app c.in_ok-command.ensures.simple c.in-Ok.ensures.matches
    (c.in-Ok.ensures.kinds c.in_ok-command.ensures.free) met.ensures.name met.ensures.rows in
    command_reply args met.name.now (rows_of (found_of met.matches.now)) _ c.subcommand_reply.result entered
    c.subcommand_reply.ensures.reply

pub returns-in-Some-subcommand-clause-why : goal.returns-in-Some-subcommand-clause-why
returns-in-Some-subcommand-clause-why g c =
    let args = map (λ (w : Bor (List ℕ)). w.now) c.args.args.now in
    let met = c.in-Some-subcommand in
    let entered = entered_by (app_of c.in_ok-command.command) args c.in-Ok.matches met.matches.now
    met.name.now c.in_ok-command.ensures.app c.in_ok-command.ensures.simple c.in-Ok.ensures.matches
    (c.in-Ok.ensures.kinds c.in_ok-command.ensures.free) met.ensures.name met.ensures.rows in
    command_why args met.name.now (rows_of (found_of met.matches.now)) _ _ c.subcommand_reply.result entered
    c.subcommand_reply.ensures.why

pub returns-in-None-clause-reply : goal.returns-in-None-clause-reply
returns-in-None-clause-reply g c = inr (inl (none_by (app_of c.in_ok-command.command)
    (map (λ (w : Bor (List ℕ)). w.now) c.args.args.now) c.in-Ok.matches c.in_ok-command.ensures.app
    c.in_ok-command.ensures.simple c.in-Ok.ensures.matches
    (c.in-Ok.ensures.kinds c.in_ok-command.ensures.free) c.in-None.ensures.name))
