use Rattle.std.proofs.Common.{◌∙◌, ap, inl, inr, length, map, string_bytes, subst, sym, ⊎_elim}
use Rattle.std.proofs.lemmas.Bool.{eqb-false}
use Rattle.edit_sources.specs.Configured.{given}
use Rattle.edit_steps.proofs.FirstLemmas.{own_unshared}
use Rattle.edit_steps.proofs.SharedLemmas.{shared_listed}
use Rattle.edit_steps.specs.Named.{pair_of}
use Rattle.edit_steps.specs.Shared.{SharesList}
use Rattle.edit_steps.proofs.upgrade_read.configs.share.Goals as goal

pub returns-clause-listed : goal.returns-clause-listed
returns-clause-listed g c = λ found cached t all.
    let old = c.args.lists.now.shared in
    let new = c.share.new.self.shared in
    shared_listed (g.S.Store.view c.args.files.now).file_at (given c.args.cargo_home) (pair_of c.args.named.now)
    c.args.manifest.now (map string_bytes c.in-Ok.own.items) old new
    (subst (λ ps. SharesList ps old new) (ap (map string_bytes) c.deref.ensures.value ∙ c.in_ok-paths.ensures)
    (c.in_ok-found.ensures.shared found)) all (c.in-Ok.ensures.read cached t)

pub returns-in-Err-clause-first : goal.returns-in-Err-clause-first
returns-in-Err-clause-first g c =
    ⊎_elim (λ memory. inl memory) (λ other. inr (⊎_elim (λ failed. inl failed)
    (λ stops. inr (λ cached t all. own_unshared (g.S.Store.view c.args.files.now).file_at
    (given c.args.cargo_home) (pair_of c.args.named.now) c.args.manifest.now c.args.lists.now.shared.lists.items
    c.in-Err.error (λ none. eqb-false _ _ (sym c.is_empty.ensures ∙ c.if-is_empty.false)
    (c.args.lists.now.shared.lists.ok.0 ∙ ap length none)) all (stops cached t))) other)) c.in-Err.ensures.first
