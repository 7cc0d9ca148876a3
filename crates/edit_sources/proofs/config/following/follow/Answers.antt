use Rattle.std.proofs.Common.{◌++◌, ◌∷◌, [], List, arith, true, ◌∙◌, ap, inl, inr, ⊎_elim, map, refl, string_bytes}
use Rattle.std.specs.Prelude.{◌⊎◌}
use Rattle.std.proofs.lemmas.Result.{err_from_is_err_and}
use Rattle.edit_base.specs.Errors.{IsMemory}
use Rattle.edit_sources.specs.ConfigurationFiles.{FollowFails, HasFailed}
use Rattle.edit_sources.specs.Configured.{include_view}
use Rattle.edit_sources.specs.declared.config.includes.Include.{Include}
use Rattle.edit_sources.proofs.FileLemmas.{failed_later}
use Rattle.edit_sources.proofs.FollowLemmas.{follow_fails_next, followed_at, following_begin, next_at}
use Rattle.edit_sources.proofs.config.following.follow.Goals as goal

pub files-init : goal.files-init
files-init g c =
    let seen = g.S.Store.view c.args.store.now in
    let first : Include = record { path = c.args.path; optional = true } in
    record {
      store = record { tells = refl; files = λ p. refl; writes = refl; later = omega arith };
      follows = λ tells. following_begin seen.file_at (string_bytes c.args.path)
          (map include_view c.push.new.self.items) c.new-configs.result.items
          (ap (map include_view) (c.in_ok-push.ensures.items
          ∙ ap (λ (xs : List Include). xs ++ first ∷ []) c.new-pending.ensures.items))
          c.new-configs.ensures.items;
    }

pub returns-in_err-path-clause-error : goal.returns-in_err-path-clause-error
returns-in_err-path-clause-error g c =
    let seen = g.S.Store.view c.args.store.now in
    let here = g.S.Store.view c.files.store in
    let store = c.files.invariant.store in
    let why : IsMemory c.in_err-path.field-0.0
    ⊎ (HasFailed seen.faults (g.S.Store.view c.next_file.new.store).faults c.in_err-path.field-0.0
    ⊎ FollowFails seen.tells seen.file_at (string_bytes c.args.path) c.in_err-path.field-0.0) =
    ⊎_elim (λ memory. inl memory) (λ other. inr (⊎_elim
    (λ failed. inl (failed_later _ _ _ _ store.later failed))
    (λ fails. inr (follow_fails_next seen.tells here.tells seen.file_at here.file_at
    (string_bytes c.args.path) (map include_view c.files.pending.items) c.files.configs.items
    c.in_err-path.field-0.0 store.tells store.files c.files.invariant.follows fails)) other))
    c.in_err-path.ensures.error in
    let stop = c.from_residual-in_err-path in
    let e = err_from_is_err_and stop.result stop.ensures.1 in
    rw (e.1, e.2) why

pub returns-in-Err-clause-error : goal.returns-in-Err-clause-error
returns-in-Err-clause-error g c =
    let seen = g.S.Store.view c.args.store.now in
    let here = g.S.Store.view c.files.store in
    let store = c.files.invariant.store in
    ⊎_elim (λ memory. inl memory) (λ bad. inr (inr (record {
      path = c.as_str.result.now;
      named = bad.0;
      stops = λ tells. bad.1 seen.file_at (string_bytes c.args.path) (next_at seen.file_at here.file_at
          (string_bytes c.args.path) (map include_view c.files.pending.items)
          (map include_view c.next_file.new.pending.items) c.files.configs.items c.in_ok-path.field-0
          c.in-Some.path c.in-Some.bytes c.as_str.result.now c.deref.result.now store.files
          (c.in_ok-path.ensures.next (store.tells ∙ tells)) c.in-Some.is
          (c.files.invariant.follows tells) c.as_str.ensures.value c.deref.ensures.value);
    }))) c.in-Err.ensures.error

pub files-preserved : goal.files-preserved
files-preserved g c =
    let seen = g.S.Store.view c.args.store.now in
    let here = g.S.Store.view c.files.store in
    let store = c.files.invariant.store in
    let more = c.next_file.ensures.store in
    record {
      store = record {
        tells = more.tells ∙ store.tells;
        files = λ p. more.files p ∙ store.files p;
        writes = more.writes ∙ store.writes;
        later = omega (arith, store.later, more.later);
      };
      follows = λ tells. c.in-Ok.ensures.read seen.file_at (string_bytes c.args.path)
          (next_at seen.file_at here.file_at
          (string_bytes c.args.path) (map include_view c.files.pending.items)
          (map include_view c.next_file.new.pending.items) c.files.configs.items c.in_ok-path.field-0
          c.in-Some.path c.in-Some.bytes c.as_str.result.now c.deref.result.now store.files
          (c.in_ok-path.ensures.next (store.tells ∙ tells)) c.in-Some.is
          (c.files.invariant.follows tells) c.as_str.ensures.value c.deref.ensures.value);
    }

pub returns-clause-read : goal.returns-clause-read
returns-clause-read g c = λ tells.
    let seen = g.S.Store.view c.args.store.now in
    let here = g.S.Store.view c.files.store in
    let store = c.files.invariant.store in
    followed_at seen.file_at here.file_at (string_bytes c.args.path) (map include_view c.files.pending.items)
    (map include_view c.next_file.new.pending.items) c.files.configs.items c.in_ok-path.field-0 store.files
    (c.in_ok-path.ensures.next (store.tells ∙ tells)) c.in_default.is (c.files.invariant.follows tells)
