use Rattle.std.proofs.Common.{◌≡◌, ◌&&◌, Option, subst, sym}
use Rattle.std.specs.Prelude.{option_map}
use Rattle.std.specs.List.{position_from}
use Rattle.semver.specs.Parse.{Parts}
use Rattle.edit_version.specs.Admissible.{admissible_in}
use Rattle.edit_version.specs.Greatest.{IsGreatest}
use Rattle.edit_version.specs.Levels.{is_within, versions_within}
use Rattle.edit_version.specs.ReadRequirement.{text_in}
use Rattle.edit_version.specs.RustVersions.{numbers_of}
use Rattle.edit_version.specs.Selection.{is_admitted, is_offered}
use Rattle.edit_version.specs.VersionOrder.{full_order}
use Rattle.edit_version.specs.declared.levels.Level.{Level}
use Rattle.edit_version.specs.declared.rust_version.RustVersion.{RustVersion}
use Rattle.edit_cache.specs.Ranking.{ranks_of}
use Rattle.edit_cache.specs.Ranks.{passes}
use Rattle.edit_cache.proofs.PlaceLemmas.{greatest-within}
use Rattle.edit_cache.proofs.ranking.Ranked.version_pair.Goals as goal

pub returns-clause-compatible : goal.returns-clause-compatible
returns-clause-compatible c = λ entries g.
    let ranks = ranks_of c.args.self.now in
    let rust = option_map numbers_of c.args.rust_version in
    let text = text_in c.args.old.now in
    let test = is_admitted text in
    let choice = c.choice-choice.result in
    subst (λ (o : Option Parts). IsGreatest test full_order
    (versions_within c.args.level text (admissible_in rust entries)) o) (sym c.version_at.ensures)
    (greatest-within entries ranks rust test c.args.level text choice.compatible
    (subst (λ (l : Option Level). choice.compatible
    ≡ position_from (passes rust (λ v. test v && is_within l text v)) 0 ranks) c.choice-choice.ensures.level
    (subst (λ (r : Option RustVersion). choice.compatible
    ≡ position_from (passes (option_map numbers_of r) (λ v. test v && is_within choice.level text v)) 0 ranks)
    c.choice-choice.ensures.requested c.choice-choice.ensures.is.compatible)) g)

pub returns-clause-latest : goal.returns-clause-latest
returns-clause-latest c = λ entries g.
    let ranks = ranks_of c.args.self.now in
    let rust = option_map numbers_of c.args.rust_version in
    let text = text_in c.args.old.now in
    let test = is_offered text in
    let choice = c.choice-choice.result in
    subst (λ (o : Option Parts). IsGreatest test full_order
    (versions_within c.args.level text (admissible_in rust entries)) o) (sym c.version_at-2.ensures)
    (greatest-within entries ranks rust test c.args.level text choice.latest
    (subst (λ (l : Option Level). choice.latest
    ≡ position_from (passes rust (λ v. test v && is_within l text v)) 0 ranks) c.choice-choice.ensures.level
    (subst (λ (r : Option RustVersion). choice.latest
    ≡ position_from (passes (option_map numbers_of r) (λ v. test v && is_within choice.level text v)) 0 ranks)
    c.choice-choice.ensures.requested c.choice-choice.ensures.is.latest)) g)
