use Rattle.std.proofs.Common.{◌≡◌, ◌∙◌, ◌∷◌, [], Bool, Some, ap, cond, get_or, option_map, refl, sym}
use Rattle.std.specs.List.{filter}
use Rattle.semver.specs.Identifiers.{parts_of}
use Rattle.edit_set_version.specs.Crates.{bump_view, bumps_view}
use Rattle.edit_set_version.specs.Folders.{folder_of}
use Rattle.edit_set_version.specs.BumpsByFolder.{first_in, numbered_view}
use Rattle.edit_set_version.specs.SetVersioned.{writes_own}
use Rattle.edit_set_version.proofs.OwnBump.{own_none, own_numbered, tells_beside}
use Rattle.edit_set_version.proofs.outputs.own_bump.Goals as goal

pub returns-in_default-clause-ok : goal.returns-in_default-clause-ok
returns-in_default-clause-ok c =
    let bs = bumps_view c.args.writing.now.bumps.now in
    let path = c.args.path.now in
    own_none path bs (sym (tells_beside bs c.args.writing.now.numbers.now path c.requires.numbers)
    ∙ sym c.in_ok-numbered.ensures.ok ∙ ap (option_map numbered_view) c.in_default.is)

pub numbered_bump-bump-requires : goal.numbered_bump-bump-requires
numbered_bump-bump-requires c =
    let there = own_numbered c.args.path.now c.args.writing.now.bumps.now c.args.writing.now.numbers.now c.in_ok-numbered.field-0
    c.in-Some.numbered c.requires.numbers c.requires.apart c.in_ok-numbered.ensures.ok c.in-Some.is in
    record { there = there.within }

pub returns-then-writes_own-clause-ok : goal.returns-then-writes_own-clause-ok
returns-then-writes_own-clause-ok c =
    let own = c.numbered_bump-bump.result.now in
    let there = own_numbered c.args.path.now c.args.writing.now.bumps.now c.args.writing.now.numbers.now c.in_ok-numbered.field-0
    c.in-Some.numbered c.requires.numbers c.requires.apart c.in_ok-numbered.ensures.ok c.in-Some.is in
    there.only own c.numbered_bump-bump.ensures
    ∙ ap (λ (b : Bool). cond b (bump_view own ∷ []) []) (sym c.writes_own.ensures ∙ c.if-writes_own.true)

pub returns-clause-ok : goal.returns-clause-ok
returns-clause-ok c =
    let own = c.numbered_bump-bump.result.now in
    let there = own_numbered c.args.path.now c.args.writing.now.bumps.now c.args.writing.now.numbers.now c.in_ok-numbered.field-0
    c.in-Some.numbered c.requires.numbers c.requires.apart c.in_ok-numbered.ensures.ok c.in-Some.is in
    there.only own c.numbered_bump-bump.ensures
    ∙ ap (λ (b : Bool). cond b (bump_view own ∷ []) []) (sym c.writes_own.ensures ∙ c.if-writes_own.false)
