use Rattle.std.proofs.Common.{◌≡◌, ◌<◌, [], arith, inl, inr, length, ⊎_elim, ◌∙◌, string_bytes, subst}
use Rattle.std.proofs.lemmas.Bool.Decides.{nat_tests}
use Rattle.edit_sources.specs.ConfigurationFiles.{IsFollowing}
use Rattle.edit_sources.proofs.FileLemmas.{failed_later}
use Rattle.edit_sources.proofs.FollowLemmas.{following_same}
use Rattle.edit_sources.proofs.StartLemmas.{folder_fails_first, folder_fails_second, none_of, some_of, start_first, start_second}
use Rattle.edit_sources.proofs.config.files.configs_at.Goals as goal

pub returns-in-Err-follow-clause-error : goal.returns-in-Err-follow-clause-error
returns-in-Err-follow-clause-error g c =
    let seen = g.S.Store.view c.args.store.now in
    ⊎_elim (λ memory. inl memory) (λ other. inr (⊎_elim (λ failed. inl failed)
    (λ fails. inr (folder_fails_first seen.tells seen.file_at c.args.place.now (string_bytes c.in-Ok.path)
    c.in-Err-follow.error c.in-Ok.ensures.text fails)) other)) c.in-Err-follow.ensures.error

pub returns-then-not-is_empty-clause-read : goal.returns-then-not-is_empty-clause-read
returns-then-not-is_empty-clause-read g c = λ tells.
    let seen = g.S.Store.view c.args.store.now in
    let configs = c.in-Ok-follow.configs.items in
    let some : 0 < length configs = grind (arith, nat_tests) in
    let f = c.in-Ok-follow.ensures.read tells in
    subst (λ start. IsFollowing seen.file_at start [] configs)
    (start_first seen.file_at c.args.place.now (string_bytes c.in-Ok.path) configs c.in-Ok.ensures.text f
    (some_of configs some)) f

pub returns-in-Ok-follow-2-clause-read : goal.returns-in-Ok-follow-2-clause-read
returns-in-Ok-follow-2-clause-read g c = λ tells.
    let seen = g.S.Store.view c.args.store.now in
    let next = g.S.Store.view c.follow.new.store in
    let configs = c.in-Ok-follow.configs.items in
    let none : length configs ≡ 0 = grind (arith, nat_tests) in
    let reads = c.in-Ok-follow.ensures.store in
    let second = string_bytes c.in-Ok-join.path in
    let f = following_same seen.file_at next.file_at second [] c.in-Ok-follow-2.found.items reads.files
    (c.in-Ok-follow-2.ensures.read (reads.tells ∙ tells)) in
    subst (λ start. IsFollowing seen.file_at start [] c.in-Ok-follow-2.found.items)
    (start_second seen.file_at c.args.place.now (string_bytes c.in-Ok.path) second configs
    c.in-Ok.ensures.text c.in-Ok-join.ensures.text (c.in-Ok-follow.ensures.read tells)
    (none_of configs none)) f

pub returns-clause-error : goal.returns-clause-error
returns-clause-error g c =
    let seen = g.S.Store.view c.args.store.now in
    let next = g.S.Store.view c.follow.new.store in
    let configs = c.in-Ok-follow.configs.items in
    let none : length configs ≡ 0 = grind (arith, nat_tests) in
    let reads = c.in-Ok-follow.ensures.store in
    ⊎_elim (λ memory. inl memory) (λ other. inr (⊎_elim
    (λ failed. inl (failed_later _ _ _ _ reads.later failed))
    (λ fails. inr (folder_fails_second seen.tells next.tells seen.file_at next.file_at c.args.place.now
    (string_bytes c.in-Ok.path) (string_bytes c.in-Ok-join.path) configs c.in-Err-follow-2.error
    c.in-Ok.ensures.text c.in-Ok-join.ensures.text reads.tells reads.files c.in-Ok-follow.ensures.read
    (none_of configs none) fails)) other)) c.in-Err-follow-2.ensures.error
