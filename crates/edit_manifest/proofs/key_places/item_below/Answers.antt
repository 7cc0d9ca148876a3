use Rattle.edit_tree.specs.Assertions.{key}
use Rattle.edit_manifest.proofs.MissingItems.{nothing_there}
use Rattle.edit_manifest.proofs.key_places.item_below.Goals as goal

pub returns-in-None : goal.returns-in-None
returns-in-None c place found =
    let form = c.lemma_form.ensures.some in
    nothing_there c.args.document.now form.0 place (key c.args.name.now)
    (c.lemma_form.ensures.shows form.0 form.1) (rw c.in-None.is at found)
