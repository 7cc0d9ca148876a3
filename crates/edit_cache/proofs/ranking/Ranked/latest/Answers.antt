use Rattle.std.specs.Prelude.{option_map}
use Rattle.std.proofs.lemmas.Result.{IfOk-weaker}
use Rattle.edit_record.specs.Finding.{IsFound}
use Rattle.edit_version.specs.RustVersions.{numbers_of}
use Rattle.edit_version.specs.Selection.{is_allowed}
use Rattle.edit_record.proofs.Entries.{found-at_least}
use Rattle.edit_cache.proofs.ranking.Ranked.latest.Goals as goal

pub returns-clause-at_least : goal.returns-clause-at_least
returns-clause-at_least c = λ entries g.
    let rust = option_map numbers_of c.args.rust_version in
    IfOk-weaker _ (IsFound rust (is_allowed c.args.allow_prerelease) entries) _
    (λ o h. found-at_least rust c.args.allow_prerelease entries o h) (c.first_match.ensures.found entries g)
