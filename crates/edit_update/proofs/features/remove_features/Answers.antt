use Rattle.std.proofs.Common.{ap, sym, ◌∙◌, subst}
use Rattle.edit_tree.specs.DocumentViews.{tree_of}
use Rattle.edit_manifest.specs.Places.{places_view}
use Rattle.edit_update.specs.Removals.{AreInTurn, AreStrings}
use Rattle.edit_update.proofs.StaleTurns.{stale_are_strings, stale_turns}
use Rattle.edit_update.proofs.features.remove_features.Goals as goal

pub remove_strings-requires-clause-strings : goal.remove_strings-requires-clause-strings
remove_strings-requires-clause-strings c =
    subst (AreStrings (tree_of c.args.document.now))
    (sym c.in_ok-places.ensures.ok ∙ ap places_view (sym c.deref.ensures.value))
    (stale_are_strings (tree_of c.args.document.now) c.args.name.now)

pub remove_strings-requires-clause-apart : goal.remove_strings-requires-clause-apart
remove_strings-requires-clause-apart c =
    let form = c.lemma_form.ensures.some in
    subst AreInTurn (sym c.in_ok-places.ensures.ok ∙ ap places_view (sym c.deref.ensures.value))
    (stale_turns form.0 (tree_of c.args.document.now) c.args.name.now
    (c.lemma_form.ensures.shows form.0 form.1))
