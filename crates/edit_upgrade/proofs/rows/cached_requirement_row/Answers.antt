use Rattle.std.proofs.Common.{List, ℕ, Option, ap, subst, sym}
use Rattle.std.specs.Prelude.{option_copied, option_map}
use Rattle.std.proofs.lemmas.Result.{IfOk-weaker}
use Rattle.edit_version.specs.Levels.{versions_within}
use Rattle.edit_version.specs.ReadRequirement.{text_in}
use Rattle.edit_version.specs.RustVersions.{numbers_of}
use Rattle.edit_cache.specs.IndexCache.{cached_answer_at, ranking_at}
use Rattle.edit_cache.specs.declared.ranking.Ranked.{Ranked}
use Rattle.url.specs.Parts.{serialize}
use Rattle.edit_upgrade.specs.OptionLevels.{level_in}
use Rattle.edit_upgrade.specs.Found.{row_entry_view}
use Rattle.edit_upgrade.specs.Lines.{line_of}
use Rattle.edit_upgrade.specs.Lookups.{Answer, cached_by, versions_in}
use Rattle.edit_upgrade.specs.Rankings.{IsRankingOf}
use Rattle.edit_upgrade.specs.Rows.{IsDecided}
use Rattle.edit_upgrade.proofs.RankedLemmas.{cached-same, ranking-cached}
use Rattle.edit_upgrade.proofs.rows.cached_requirement_row.Goals as goal

pub returns-clause-ok : goal.returns-clause-ok
returns-clause-ok g c =
    let index = c.rank_for.new.self in
    let address = serialize c.args.registry.now in
    let name = c.as_str-name.result.now in
    let input = c.args.job.number in
    let options = c.args.job.parsed.options.now in
    let rust = option_map numbers_of c.args.job.input.now.rust_version in
    let e = row_entry_view c.args.entry.now in
    let answer : Option Answer = cached_by index address name in
    let ranking : IsRankingOf answer (option_copied c.cached_ranking-ranked.result) =
    subst (λ (r : Option Ranked). IsRankingOf answer r) (sym c.cached_ranking-ranked.ensures)
    (ranking-cached (cached_answer_at index address name)
    (ranking_at index address name) c.in_ok-rank_for.ensures.ranked) in
    let named = ap (λ (n : List ℕ). cached_by index address n) c.as_str-name.ensures.value in
    IfOk-weaker _ _ _ (λ r h.
    subst (λ (t : List ℕ). IsDecided input options
    (versions_within (level_in options e.name) t (versions_in rust (cached_by index address e.name))) e t (line_of r))
    c.in_ok-old.ensures.text
    (subst (λ (a : Option Answer). IsDecided input options
    (versions_within (level_in options e.name) (text_in c.in_ok-old.old) (versions_in rust a)) e (text_in c.in_ok-old.old)
    (line_of r)) named (h answer ranking)))
    c.row_with.ensures.ok

pub returns-clause-preserved : goal.returns-clause-preserved
returns-clause-preserved g c = cached-same c.args.index.now c.rank_for.new.self c.in_ok-rank_for.ensures.preserved

pub returns-in_err-rank_for-clause-preserved : goal.returns-in_err-rank_for-clause-preserved
returns-in_err-rank_for-clause-preserved g c =
    cached-same c.args.index.now c.rank_for.new.self c.in_err-rank_for.ensures.preserved
