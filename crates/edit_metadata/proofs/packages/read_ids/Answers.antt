use Rattle.std.proofs.Common.{◌∙◌, ◌∷◌, [], ◌++◌, ap, cond, sym, true, inr, refl}
use Rattle.std.specs.Str.{bytes_eq}
use Rattle.serde_json.specs.View.{view}
use Rattle.edit_metadata.specs.Metadata.{IsText}
use Rattle.edit_metadata.proofs.Ids.{holds-more, is_listed-more}
use Rattle.edit_metadata.proofs.Zipped.{none-zipped, zipped-more}
use Rattle.edit_metadata.proofs.packages.read_ids.Goals as goal

pub values-preserved : goal.values-preserved
values-preserved c =
    let ids = c.values.invariant.0 in
    let key = c.in-Some.id.now in (
      ids ++ key ∷ [],
      zipped-more view IsText c.args.values.now ids c.values.value-index c.value-item.result key
          c.values-test.true c.value-item.is c.values.invariant.1 (sym c.in-Some.ensures),
      λ id. holds-more key c.values.ids c.insert.new.self c.in_ok-insert.ensures.updates id
          ∙ ap (λ b. cond (bytes_eq key id) true b) (c.values.invariant.2 id)
          ∙ sym (is_listed-more ids key id),
    )

pub returns-in_default : goal.returns-in_default
returns-in_default c = inr (
  refl,
  none-zipped view IsText c.args.values.now c.values.value-index c.value-item.result c.values-test.true
      c.value-item.is
      (λ y says. cc (c.in_default.ensures ∙ says)),
)
