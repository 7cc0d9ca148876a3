use Rattle.std.proofs.Common.{◌≡◌, Some, None, map, ap, sym, ◌∙◌}
use Rattle.std.specs.Prelude.{option_copied, option_map}
use Rattle.std.specs.List.{find}
use Rattle.edit_version.specs.Admissible.{is_selectable}
use Rattle.semver.specs.Identifiers.{parts_text}
use Rattle.edit_version.specs.Requirement.{comparators_of}
use Rattle.edit_version.specs.RustVersions.{numbers_of}
use Rattle.edit_cache.specs.Ranks.{passes, rank_of}
use Rattle.edit_cache.proofs.FirstLemmas.{find-map, greatest_first, none_first}
use Rattle.edit_cache.proofs.RankedEntryLemmas.{tells-version, version-text}
use Rattle.edit_cache.proofs.ranking.Ranked.first_match.Goals as goal

pub returns-in_ok-dependency_of-in-Some-clause-found : goal.returns-in_ok-dependency_of-in-Some-clause-found
returns-in_ok-dependency_of-in-Some-clause-found c = λ entries g.
    let ranks = c.args.self.now.ranks.items in
    let rust = option_map numbers_of c.args.rust_version in
    let test = is_selectable c.args.allow_prerelease (option_map comparators_of (option_copied c.args.req)) in
    let found : find (passes rust test) (map rank_of ranks) ≡ Some (rank_of c.in-Some.rank.now) =
    find-map rank_of (passes rust test) ranks ∙
    ap (λ xs. option_map rank_of (find (λ r. passes rust test (rank_of r)) xs)) (sym c.deref.ensures.value) ∙
    ap (λ o. option_map rank_of o) (sym c.in-Some.ensures) in
    let rank = rank_of c.in-Some.rank.now in
    let first = greatest_first entries (map rank_of ranks) rust test rank g found in
    let first_entry = first.0.entry in
    let text : parts_text rank.version ≡ first_entry.version = version-text first_entry.version rank.version
    (tells-version entries rank first.0) in
    (first_entry, first.1, rw (first.0.named, ← text) c.in_ok-dependency_of-in-Some.ensures.ok)

pub returns-in-None-clause-found : goal.returns-in-None-clause-found
returns-in-None-clause-found c = λ entries g.
    let ranks = c.args.self.now.ranks.items in
    let rust = option_map numbers_of c.args.rust_version in
    let test = is_selectable c.args.allow_prerelease (option_map comparators_of (option_copied c.args.req)) in
    let found : find (passes rust test) (map rank_of ranks) ≡ None =
    find-map rank_of (passes rust test) ranks ∙
    ap (λ xs. option_map rank_of (find (λ r. passes rust test (rank_of r)) xs)) (sym c.deref.ensures.value) ∙
    ap (λ o. option_map rank_of o) (sym c.in-None.ensures) in
    none_first entries (map rank_of ranks) rust test g found
