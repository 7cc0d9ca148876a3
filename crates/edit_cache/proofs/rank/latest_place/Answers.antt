use Rattle.std.proofs.Common.{◌≡◌, ◌∙◌, ◌&&◌, Bool, ap, map, subst}
use Rattle.std.specs.Prelude.{option_map}
use Rattle.std.specs.List.{position_from}
use Rattle.edit_version.specs.Laws.{holds_dash}
use Rattle.edit_version.specs.Levels.{is_in_bound}
use Rattle.edit_version.specs.RustVersions.{numbers_of}
use Rattle.edit_version.specs.Selection.{is_allowed}
use Rattle.edit_cache.specs.Ranks.{passes, rank_of}
use Rattle.edit_cache.proofs.PlaceLemmas.{place-ranked}
use Rattle.edit_cache.proofs.rank.latest_place.Goals as goal

pub returns : goal.returns
returns c =
    let rust = option_map numbers_of c.args.rust_version in
    let pre = c.allows_prerelease.result in
    let near = is_in_bound c.args.bound in
    subst (λ (b : Bool). c.first_place.result
    ≡ position_from (passes rust (λ v. is_allowed b v && near v)) 0 (map rank_of c.args.ranks.now))
    (c.allows_prerelease.ensures.value ∙ ap holds_dash c.text.ensures)
    (place-ranked rust (λ v. is_allowed pre v && near v) c.args.ranks.now c.first_place.result
    c.first_place.ensures)
