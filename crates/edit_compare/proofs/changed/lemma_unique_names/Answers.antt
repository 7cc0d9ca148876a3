use Rattle.std.proofs.Common.{sym, ap, subst}
use Rattle.edit_tree.specs.Assertions.{assertions}
use Rattle.edit_document.specs.Items.{node_place, viewed}
use Rattle.edit_document.specs.Compared.{AreApart}
use Rattle.edit_compare.proofs.ApartViews.{apart_view}
use Rattle.edit_compare.proofs.changed.lemma_unique_names.Goals as goal

pub returns : goal.returns
returns c =
    let f = c.lemma_form.ensures.some in
    let place = node_place c.args.document.now c.args.number in
    subst AreApart (ap viewed (sym (c.lemma_form.ensures.shows f.0 f.1 place)))
    (apart_view (assertions f.0) place)
