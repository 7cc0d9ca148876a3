use Rattle.std.proofs.Common.{◌≡◌, ◌∙◌, Some, None, ap, arith, sym}
use Rattle.std.proofs.lemmas.Map.Text.{text_keys}
use Rattle.std.specs.BTreeMap.{get_by_text}
use Rattle.edit_sources.specs.Withheld.{joined}
use Rattle.edit_sources.proofs.WithheldLemmas.{added-at}
use Rattle.edit_sources.proofs.withheld_crates.add_version.Goals as goal

pub returns-in-Some : goal.returns-in-Some
returns-in-Some c = λ q.
    let before : get_by_text c.args.crates.now c.args.name.now ≡ Some c.in-Some.before.now =
    grind (arith, text_keys) in
    added-at (get_by_text c.args.crates.now) (get_by_text (c.get_mut.follows.lender c.either.result))
    c.args.name.now q c.either.result c.args.version (grind (arith, text_keys))
    (ap Some c.either.ensures ∙ sym (ap (λ o. joined o (Some c.args.version)) before))

pub returns : goal.returns
returns c = λ q.
    let none : get_by_text c.args.crates.now c.args.name.now ≡ None = grind (arith, text_keys) in
    added-at (get_by_text c.args.crates.now) (get_by_text c.insert.new.self)
    c.args.name.now q c.args.version c.args.version (grind (arith, text_keys))
    (sym (ap (λ o. joined o (Some c.args.version)) none))
