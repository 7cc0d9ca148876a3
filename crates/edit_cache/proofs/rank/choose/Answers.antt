use Rattle.std.proofs.Common.{◌≡◌, ◌&&◌, Bool, map, subst}
use Rattle.std.specs.Prelude.{option_map}
use Rattle.std.specs.List.{position_from}
use Rattle.semver.specs.Parse.{Parts}
use Rattle.edit_version.specs.ReadRequirement.{text_in}
use Rattle.edit_version.specs.RustVersions.{numbers_of}
use Rattle.edit_version.specs.Selection.{is_admitted, is_offered}
use Rattle.edit_cache.specs.Ranks.{passes, rank_of}
use Rattle.edit_cache.proofs.rank.choose.Goals as goal

pub returns-clause-is : goal.returns-clause-is
returns-clause-is c =
    let ranks = map rank_of c.args.ranks.now in
    let rust = option_map numbers_of c.args.rust_version in
    let text = text_in c.args.old.now in
    record {
      compatible = subst (λ (p : Parts → Bool). c.compatible_place.result
          ≡ position_from (passes rust (λ v. is_admitted text v && p v)) 0 ranks) c.new-bound.ensures
          c.compatible_place.ensures;
      latest = subst (λ (p : Parts → Bool). c.latest_place.result
          ≡ position_from (passes rust (λ v. is_offered text v && p v)) 0 ranks) c.new-bound.ensures
          c.latest_place.ensures;
    }
