use Rattle.std.proofs.Common.{◌≡◌, Bor, List, ℕ, inl, map, rules, subst}
use Rattle.std.proofs.lemmas.Result.{IfErr-weaker}
use Rattle.std.specs.Io.KnownBytes.{Appends}
use Rattle.edit_sources.specs.Configured.{given}
use Rattle.edit_steps.proofs.ErrorFields.{failure_has}
use Rattle.edit_words.specs.Filled.{insert_defaults}
use Rattle.edit_program.specs.PlannedUpgrades.{prints_nothing}
use Rattle.edit_program.specs.Replies.{IsReplyTo}
use Rattle.edit_program.specs.Run.{run_at}
use Rattle.edit_program.specs.Runs.{IsRunCause}
use Rattle.edit_program.proofs.ReplyCounts.{run_unprinted}
use Rattle.edit_program.proofs.ReplyResults.{result_answered, result_cause, result_checks, result_counts, result_ended, result_failed, result_fault, result_small}
use Rattle.edit_program.proofs.program.try_run.Goals as goal

pub returns-in_err-reply-clause-why : goal.returns-in_err-reply-clause-why
returns-in_err-reply-clause-why g c =
    let same : map (λ (w : Bor (List ℕ)). w.now) c.as_slice.result.now
    ≡ insert_defaults (map (λ (w : Bor (List ℕ)). w.now) c.args.args.now) = search rules in
    let args = insert_defaults (map (λ (w : Bor (List ℕ)). w.now) c.args.args.now) in
    let current = c.args.place.now.current.now in
    let home = given c.args.place.now.cargo_home in
    let local = g.T.Store.view c.args.index_files in
    let old = g.S.Store.view c.args.files.now in
    let mid = g.S.Store.view c.reply_to.new.files in
    failure_has c.from_residual-in_err-reply.result c.in_err-reply.field-0.0
    (λ e. IsRunCause args (Appends (g.O.Write.contents c.args.out.now) (g.O.Write.contents c.args.out.now))
    (run_at current home local old mid) e) c.from_residual-in_err-reply.ensures.1
    (run_unprinted args _ (run_at current home local old mid) c.in_err-reply.field-0.0.error
    (subst (λ (ws : List (List ℕ)). IsRunCause ws prints_nothing (run_at current home local old mid)
    c.in_err-reply.field-0.0.error) same c.in_err-reply.ensures.why))

pub returns-clause-status : goal.returns-clause-status
returns-clause-status g c =
    result_small c.in_ok-reply.reply c.carry_out.result c.carry_out.ensures.status

pub returns-clause-answered : goal.returns-clause-answered
returns-clause-answered g c =
    result_answered c.args.files.now c.reply_to.new.files c.carry_out.new.files c.in_ok-reply.reply
    c.carry_out.result c.carry_out.ensures.status c.carry_out.ensures.faulty c.in_ok-reply.ensures.answered

pub returns-clause-fault : goal.returns-clause-fault
returns-clause-fault g c =
    let same : map (λ (w : Bor (List ℕ)). w.now) c.as_slice.result.now
    ≡ insert_defaults (map (λ (w : Bor (List ℕ)). w.now) c.args.args.now) = search rules in
    let args = insert_defaults (map (λ (w : Bor (List ℕ)). w.now) c.args.args.now) in
    let current = c.args.place.now.current.now in
    let home = given c.args.place.now.cargo_home in
    let local = g.T.Store.view c.args.index_files in
    let old = g.S.Store.view c.args.files.now in
    let mid = g.S.Store.view c.reply_to.new.files in
    let to = subst (λ (ws : List (List ℕ)). IsReplyTo ws (run_at current home local old mid) c.in_ok-reply.reply)
    same c.in_ok-reply.ensures.reply in
    result_fault args (run_at current home local old mid) c.in_ok-reply.reply c.carry_out.result to
    c.carry_out.ensures.status

pub returns-clause-ended : goal.returns-clause-ended
returns-clause-ended g c =
    let same : map (λ (w : Bor (List ℕ)). w.now) c.as_slice.result.now
    ≡ insert_defaults (map (λ (w : Bor (List ℕ)). w.now) c.args.args.now) = search rules in
    let args = insert_defaults (map (λ (w : Bor (List ℕ)). w.now) c.args.args.now) in
    let current = c.args.place.now.current.now in
    let home = given c.args.place.now.cargo_home in
    let local = g.T.Store.view c.args.index_files in
    let old = g.S.Store.view c.args.files.now in
    let mid = g.S.Store.view c.reply_to.new.files in
    let new = g.S.Store.view c.carry_out.new.files in
    let Prints = Appends (g.O.Write.contents c.args.out.now) (g.O.Write.contents c.carry_out.new.out) in
    let Reports = Appends (g.E.Write.contents c.args.err.now) (g.E.Write.contents c.carry_out.new.err) in
    let to = subst (λ (ws : List (List ℕ)). IsReplyTo ws (run_at current home local old mid) c.in_ok-reply.reply)
    same c.in_ok-reply.ensures.reply in
    result_ended args Prints Reports current home local old mid new c.in_ok-reply.reply c.carry_out.result
    c.in_ok-reply.ensures.reads to c.carry_out.ensures.status c.carry_out.ensures.done

pub returns-clause-error : goal.returns-clause-error
returns-clause-error g c =
    let same : map (λ (w : Bor (List ℕ)). w.now) c.as_slice.result.now
    ≡ insert_defaults (map (λ (w : Bor (List ℕ)). w.now) c.args.args.now) = search rules in
    let args = insert_defaults (map (λ (w : Bor (List ℕ)). w.now) c.args.args.now) in
    let current = c.args.place.now.current.now in
    let home = given c.args.place.now.cargo_home in
    let local = g.T.Store.view c.args.index_files in
    let old = g.S.Store.view c.args.files.now in
    let mid = g.S.Store.view c.reply_to.new.files in
    let new = g.S.Store.view c.carry_out.new.files in
    let Prints = Appends (g.O.Write.contents c.args.out.now) (g.O.Write.contents c.carry_out.new.out) in
    let Reports = Appends (g.E.Write.contents c.args.err.now) (g.E.Write.contents c.carry_out.new.err) in
    let to = subst (λ (ws : List (List ℕ)). IsReplyTo ws (run_at current home local old mid) c.in_ok-reply.reply)
    same c.in_ok-reply.ensures.reply in
    result_failed args Prints Reports current home local old mid new c.in_ok-reply.reply c.carry_out.result
    c.in_ok-reply.ensures.reads to c.carry_out.ensures.stopped

pub returns-clause-why : goal.returns-clause-why
returns-clause-why g c =
    let same : map (λ (w : Bor (List ℕ)). w.now) c.as_slice.result.now
    ≡ insert_defaults (map (λ (w : Bor (List ℕ)). w.now) c.args.args.now) = search rules in
    let args = insert_defaults (map (λ (w : Bor (List ℕ)). w.now) c.args.args.now) in
    let current = c.args.place.now.current.now in
    let home = given c.args.place.now.cargo_home in
    let local = g.T.Store.view c.args.index_files in
    let old = g.S.Store.view c.args.files.now in
    let mid = g.S.Store.view c.reply_to.new.files in
    let new = g.S.Store.view c.carry_out.new.files in
    let Prints = Appends (g.O.Write.contents c.args.out.now) (g.O.Write.contents c.carry_out.new.out) in
    let Reports = Appends (g.E.Write.contents c.args.err.now) (g.E.Write.contents c.carry_out.new.err) in
    let to = subst (λ (ws : List (List ℕ)). IsReplyTo ws (run_at current home local old mid) c.in_ok-reply.reply)
    same c.in_ok-reply.ensures.reply in
    result_cause args Prints Reports current home local old mid new c.in_ok-reply.reply c.carry_out.result
    c.in_ok-reply.ensures.reads to c.carry_out.ensures.stopped c.carry_out.ensures.error

pub returns-clause-counted : goal.returns-clause-counted
returns-clause-counted g c =
    let same : map (λ (w : Bor (List ℕ)). w.now) c.as_slice.result.now
    ≡ insert_defaults (map (λ (w : Bor (List ℕ)). w.now) c.args.args.now) = search rules in
    let args = insert_defaults (map (λ (w : Bor (List ℕ)). w.now) c.args.args.now) in
    let current = c.args.place.now.current.now in
    let home = given c.args.place.now.cargo_home in
    let local = g.T.Store.view c.args.index_files in
    let old = g.S.Store.view c.args.files.now in
    let mid = g.S.Store.view c.reply_to.new.files in
    let new = g.S.Store.view c.carry_out.new.files in
    let Prints = Appends (g.O.Write.contents c.args.out.now) (g.O.Write.contents c.carry_out.new.out) in
    let to = subst (λ (ws : List (List ℕ)). IsReplyTo ws (run_at current home local old mid) c.in_ok-reply.reply)
    same c.in_ok-reply.ensures.reply in
    IfErr-weaker c.carry_out.result _ _ (λ x counts device. inl (counts device))
    (result_counts args Prints current home local old mid new c.in_ok-reply.reply c.carry_out.result
    c.in_ok-reply.ensures.reads to c.carry_out.ensures.error)

pub returns-clause-requested : goal.returns-clause-requested
returns-clause-requested g c =
    let same : map (λ (w : Bor (List ℕ)). w.now) c.as_slice.result.now
    ≡ insert_defaults (map (λ (w : Bor (List ℕ)). w.now) c.args.args.now) = search rules in
    let args = insert_defaults (map (λ (w : Bor (List ℕ)). w.now) c.args.args.now) in
    let current = c.args.place.now.current.now in
    let home = given c.args.place.now.cargo_home in
    let local = g.T.Store.view c.args.index_files in
    let old = g.S.Store.view c.args.files.now in
    let mid = g.S.Store.view c.reply_to.new.files in
    let to = subst (λ (ws : List (List ℕ)). IsReplyTo ws (run_at current home local old mid) c.in_ok-reply.reply)
    same c.in_ok-reply.ensures.reply in
    result_checks args (run_at current home local old mid) c.in_ok-reply.reply c.carry_out.result to
    c.carry_out.ensures.status
