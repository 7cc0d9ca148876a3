use Rattle.edit_sources.specs.Configured.{given}
use Rattle.edit_steps.proofs.NamedLemmas.{gathered, seen_of}
use Rattle.edit_steps.proofs.ReadLemmas.{own_fails}
use Rattle.edit_steps.specs.Named.{pair_of, given_file_view}
use Rattle.std.proofs.Common.{refl}
use Rattle.edit_sources.specs.CachedConfigs.{AreCached}
use Rattle.edit_steps.proofs.FirstLemmas.{error_has, last_ungathered, own_ungathered}
use Rattle.edit_steps.proofs.upgrade_read.configs.gather.Goals as goal

pub returns-clause-read : goal.returns-clause-read
returns-clause-read g c = λ cached t.
    gathered (g.S.Store.view c.args.files.now).file_at (given c.args.cargo_home) (pair_of c.args.named.now)
    c.args.manifest.now c.in_ok-configs.configs.items c.in-Ok.own.items c.in_ok-last.last.items
    c.append.new.self.items c.append-2.new.self.items (given_file_view c.as_ref.result) (given_file_view c.as_ref-2.result)
    (seen_of c.as_ref.result c.args.named.now.first c.as_ref.ensures.value)
    (seen_of c.as_ref-2.result c.args.named.now.last c.as_ref-2.ensures.value)
    c.in_ok-configs.ensures.content (c.in-Ok.ensures.read cached t) c.in_ok-last.ensures.content
    c.in_ok-append.ensures.items c.in_ok-append-2.ensures.items

pub returns-in-Err-clause-error : goal.returns-in-Err-clause-error
returns-in-Err-clause-error g c =
    let old = g.S.Store.view c.args.files.now in
    own_fails _ (pair_of c.args.named.now) old.tells old.file_at c.args.manifest.now (given c.args.cargo_home)
    c.in-Err.error c.in-Err.ensures.error

pub returns-in-Err-clause-first : goal.returns-in-Err-clause-first
returns-in-Err-clause-first g c =
    let old = g.S.Store.view c.args.files.now in
    own_ungathered _ (AreCached old c.args.cache.now) old (given c.args.cargo_home) (pair_of c.args.named.now)
    c.args.manifest.now c.as_ref.result c.args.named.now.first c.in_ok-configs.configs.items c.in-Err.error
    c.as_ref.ensures.value refl c.in_ok-configs.ensures.content c.in-Err.ensures.first

pub returns-in_err-last-clause-first : goal.returns-in_err-last-clause-first
returns-in_err-last-clause-first g c =
    let old = g.S.Store.view c.args.files.now in
    let e = c.in_err-last.field-0.0 in
    error_has c.from_residual-in_err-last.result e _ c.from_residual-in_err-last.ensures.1
    (last_ungathered _ (AreCached old c.args.cache.now) old (given c.args.cargo_home) (pair_of c.args.named.now)
    c.args.manifest.now c.as_ref.result c.as_ref-2.result c.args.named.now.first c.args.named.now.last
    c.in_ok-configs.configs.items c.in-Ok.own.items e c.as_ref.ensures.value refl c.as_ref-2.ensures.value
    refl c.in_ok-configs.ensures.content c.in-Ok.ensures.read c.in_err-last.ensures.error)
