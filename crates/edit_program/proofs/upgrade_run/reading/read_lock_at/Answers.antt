use Rattle.std.proofs.Common.{◌≡◌, ℕ, List, None, Option, Some, inl, inr, refl, rules, subst, sym, true}
use Rattle.std.proofs.lemmas.Result.{IfErr-weaker, IfOk-weaker}
use Rattle.std.specs.Prelude.{◌⊎◌}
use Rattle.edit_base.specs.Errors.{IsMemory}
use Rattle.edit_base.specs.declared.errors.Error.TheVariants.{Metadata, NoPath}
use Rattle.edit_lock.specs.LockFile.{IsNoLock}
use Rattle.edit_lock.specs.Views.{lock_view}
use Rattle.edit_steps.specs.Absolute.{IsAbsoluteOf}
use Rattle.edit_program.specs.LockRead.{AreLocked, IsLockError}
use Rattle.edit_program.proofs.CountLemmas.{error_counts}
use Rattle.edit_program.proofs.LockLemmas.{bad_lock}
use Rattle.edit_program.proofs.UpgradeErrorLemmas.{malformed_lock}
use Rattle.edit_program.proofs.upgrade_run.reading.read_lock_at.Goals as goal

pub returns-clause-error : goal.returns-clause-error
returns-clause-error g c =
    let old = g.S.Store.view c.args.files.now in
    let path = c.as_str.result.now in
    let bytes = c.in-Ok-Some.bytes.items in
    let e = c.in-Err-read.error in
    let at : IsAbsoluteOf c.args.current.now c.args.named.now path = search rules in
    let stands : old.tells ≡ true → old.file_at path ≡ Some bytes = search rules in
    let bad = subst (λ (bs : List ℕ). IsMemory e ⊎ ((e ≡ Metadata) × IsNoLock bs)) c.deref.ensures.value
    c.in-Err-read.ensures.error in
    bad_lock c.args.required old (g.S.Store.view c.read.new.self) c.args.current.now c.args.named.now path bytes e
    c.at_lock.result.error at stands bad c.at_lock.ensures

pub returns-in-Ok-None-clause-read : goal.returns-in-Ok-None-clause-read
returns-in-Ok-None-clause-read g c =
    let old = g.S.Store.view c.args.files.now in
    let path = c.as_str.result.now in
    let at : IsAbsoluteOf c.args.current.now c.args.named.now path = search rules in
    let absent : old.tells ≡ true → old.file_at path ≡ None = search rules in
    IfOk-weaker c.missing_lock.result _ _
    (λ lock h t. record {
      path = path;
      at = at;
      are = subst (λ (o : Option (List ℕ)). AreLocked c.args.required o (lock_view lock)) (sym (absent t)) h;
    }) c.missing_lock.ensures.read

pub returns-in-Ok-None-clause-error : goal.returns-in-Ok-None-clause-error
returns-in-Ok-None-clause-error g c =
    let old = g.S.Store.view c.args.files.now in
    let path = c.as_str.result.now in
    let at : IsAbsoluteOf c.args.current.now c.args.named.now path = search rules in
    let absent : old.tells ≡ true → old.file_at path ≡ None = search rules in
    IfErr-weaker c.missing_lock.result _ _
    (λ r h. inr (λ t. record {
      named = c.args.named.now;
      is = refl;
      path = path;
      at = at;
      cause = subst (λ (o : Option (List ℕ)). IsLockError c.args.required o r.error) (sym (absent t)) h;
    })) c.missing_lock.ensures.error

pub returns-in-Ok-None-clause-counted : goal.returns-in-Ok-None-clause-counted
returns-in-Ok-None-clause-counted g c =
    IfErr-weaker c.missing_lock.result _ _ (λ r h. error_counts r.error NoPath h.1 (λ n. cc n))
    c.missing_lock.ensures.error

pub returns-clause-only : goal.returns-clause-only
returns-clause-only g c =
    let old = g.S.Store.view c.args.files.now in
    let bytes = c.in-Ok-Some.bytes.items in
    let e = c.in-Err-read.error in
    let bad = subst (λ (bs : List ℕ). IsMemory e ⊎ ((e ≡ Metadata) × IsNoLock bs)) c.deref.ensures.value
    c.in-Err-read.ensures.error in
    malformed_lock c.args.required old (g.S.Store.view c.read.new.self) c.args.named.now bytes e
    c.at_lock.result.error bad c.at_lock.ensures

pub returns-in-Ok-None-clause-only : goal.returns-in-Ok-None-clause-only
returns-in-Ok-None-clause-only g c =
    IfErr-weaker c.missing_lock.result _ _ (λ r h. inr (inl h)) c.missing_lock.ensures.error
