use Rattle.std.proofs.Common.{◌&&◌, map}
use Rattle.std.specs.Prelude.{option_map}
use Rattle.edit_version.specs.Admits.{admits}
use Rattle.edit_version.specs.Levels.{is_in_bound}
use Rattle.edit_version.specs.ReadRequirement.{text_in}
use Rattle.edit_version.specs.Requirement.{comparators_of}
use Rattle.edit_version.specs.RustVersions.{numbers_of}
use Rattle.edit_cache.specs.Ranks.{rank_of}
use Rattle.edit_cache.proofs.PlaceLemmas.{place-admitted, place-ranked, place-unread}
use Rattle.edit_cache.proofs.rank.compatible_place.Goals as goal

pub returns-in-Some : goal.returns-in-Some
returns-in-Some c =
    let rust = option_map numbers_of c.args.rust_version in
    let cs = comparators_of c.in-Some.req.now in
    let near = is_in_bound c.args.bound in
    place-admitted rust near (text_in c.args.old.now) (map rank_of c.args.ranks.now) c.first_place.result cs
    c.in-Some.ensures
    (place-ranked rust (λ v. admits cs v && near v) c.args.ranks.now c.first_place.result
    c.first_place.ensures)

pub returns-in-None : goal.returns-in-None
returns-in-None c =
    place-unread (option_map numbers_of c.args.rust_version) (is_in_bound c.args.bound)
    (text_in c.args.old.now) (map rank_of c.args.ranks.now) c.in-None.ensures
