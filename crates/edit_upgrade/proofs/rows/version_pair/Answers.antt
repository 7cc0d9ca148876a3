use Rattle.std.proofs.Common.{subst}
use Rattle.std.specs.Prelude.{option_copied, option_map}
use Rattle.edit_version.specs.ReadRequirement.{text_in}
use Rattle.edit_version.specs.RustVersions.{numbers_of}
use Rattle.edit_version.specs.Selection.{is_admitted, is_offered}
use Rattle.edit_upgrade.specs.Rankings.{IsRankingOf}
use Rattle.edit_upgrade.proofs.RankedLemmas.{greatest-ranked, none-ranked}
use Rattle.edit_upgrade.proofs.rows.version_pair.Goals as goal

pub returns-in-Some-clause-compatible : goal.returns-in-Some-clause-compatible
returns-in-Some-clause-compatible c = λ answer h.
    let text = text_in c.args.old.now in
    greatest-ranked (is_admitted text) c.args.level text (option_map numbers_of c.args.rust_version)
    c.in-Some.ranked.now _ c.version_pair.ensures.compatible answer
    (subst (λ o. IsRankingOf answer (option_copied o)) c.in-Some.is h)

pub returns-in-None-clause-compatible : goal.returns-in-None-clause-compatible
returns-in-None-clause-compatible c = λ answer h.
    let text = text_in c.args.old.now in
    none-ranked (is_admitted text) c.args.level text (option_map numbers_of c.args.rust_version) answer
    (subst (λ o. IsRankingOf answer (option_copied o)) c.in-None.is h)

pub returns-in-Some-clause-latest : goal.returns-in-Some-clause-latest
returns-in-Some-clause-latest c = λ answer h.
    let text = text_in c.args.old.now in
    greatest-ranked (is_offered text) c.args.level text (option_map numbers_of c.args.rust_version)
    c.in-Some.ranked.now _ c.version_pair.ensures.latest answer
    (subst (λ o. IsRankingOf answer (option_copied o)) c.in-Some.is h)

pub returns-in-None-clause-latest : goal.returns-in-None-clause-latest
returns-in-None-clause-latest c = λ answer h.
    let text = text_in c.args.old.now in
    none-ranked (is_offered text) c.args.level text (option_map numbers_of c.args.rust_version) answer
    (subst (λ o. IsRankingOf answer (option_copied o)) c.in-None.is h)
