use Rattle.std.proofs.Common.{◌≡◌, [], ◌∷◌, ◌++◌, drop, map, take, ap, sym, ◌+◌, ◌∙◌, ◌⊎◌, inl, inr, ⊎_elim, subst}
use Rattle.std.proofs.lemmas.Result.{err_from_is_err_and}
use Rattle.edit_base.specs.declared.errors.Error.TheVariants.{EditRefused}
use Rattle.edit_base.specs.Errors.{IsMemory}
use Rattle.edit_document.specs.Items.{place_view}
use Rattle.edit_tree.specs.DocumentViews.{tree_of}
use Rattle.edit_manifest.specs.Places.{places_view}
use Rattle.edit_update.specs.Removals.{AreInTurn, AreStrings, HasFailedRemoval, IsTextWithout, none}
use Rattle.edit_update.proofs.ItemSteps.{left_map, split_map, taken_map}
use Rattle.edit_update.proofs.RemovalSteps.{one_stays, shown_removed, string_inner, strings_left, without_more}
use Rattle.edit_update.proofs.features.remove_strings.Goals as goal

pub places-init : goal.places-init
places-init c =
    let same = c.in_ok-left.ensures.same in
    record {
      without = subst (λ d. IsTextWithout [] c.args.document.now.bytes d.bytes) (sym same)
          (none c.args.document.now.bytes);
      strings = subst (λ d. AreStrings (tree_of d) (places_view c.args.places.now)) (sym same)
          c.requires.strings;
      apart = c.requires.apart;
    }

pub remove-requires-clause-inner : goal.remove-requires-clause-inner
remove-requires-clause-inner c =
    let place = place_view c.deref.result.now in
    let rest = map (λ p. place_view p.items) (drop (c.places.place-index + 1) c.args.places.now) in
    let split : places_view (drop c.places.place-index c.args.places.now) ≡ place ∷ rest =
    left_map (λ p. place_view p.items) c.args.places.now c.places.place-index c.place-item.result
    c.places-test.true c.place-item.is ∙ ap (λ p. place_view p ∷ rest) (sym c.deref.ensures.value) in
    let strings = subst (AreStrings (tree_of c.places.left)) split c.places.invariant.strings in
    let form = c.lemma_form.ensures.some in
    string_inner form.0 (tree_of c.places.left) place (c.lemma_form.ensures.shows form.0 form.1) strings.0

pub returns-in_err-remove-clause-error : goal.returns-in_err-remove-clause-error
returns-in_err-remove-clause-error c =
    let place = place_view c.deref.result.now in
    let rest = map (λ p. place_view p.items) (drop (c.places.place-index + 1) c.args.places.now) in
    let front = places_view (take c.places.place-index c.args.places.now) in
    let split : places_view c.args.places.now ≡ front ++ place ∷ rest =
    split_map (λ p. place_view p.items) c.args.places.now c.places.place-index c.place-item.result
    c.places-test.true c.place-item.is ∙ ap (λ p. front ++ place_view p ∷ rest) (sym c.deref.ensures.value) in
    let why : IsMemory c.in_err-remove.field-0.0 ⊎ ((c.in_err-remove.field-0.0 ≡ EditRefused)
    × HasFailedRemoval (places_view c.args.places.now) c.args.document.now.bytes) =
    ⊎_elim (λ m. inl m)
    (λ r. inr (r.0, one_stays _ front rest place _ _ split c.places.invariant.without r.1))
    c.in_err-remove.ensures.error in
    let stop = c.from_residual-in_err-remove in
    let e = err_from_is_err_and stop.result stop.ensures.1 in
    rw (e.1, e.2) why

pub places-preserved : goal.places-preserved
places-preserved c =
    let place = place_view c.deref.result.now in
    let xs = c.args.places.now in
    let i = c.places.place-index in
    let rest = map (λ p. place_view p.items) (drop (c.places.place-index + 1) c.args.places.now) in
    let front = places_view (take c.places.place-index c.args.places.now) in
    let split : places_view (drop c.places.place-index c.args.places.now) ≡ place ∷ rest =
    left_map (λ p. place_view p.items) c.args.places.now c.places.place-index c.place-item.result
    c.places-test.true c.place-item.is ∙ ap (λ p. place_view p ∷ rest) (sym c.deref.ensures.value) in
    let taken : places_view (take (c.places.place-index + 1) c.args.places.now) ≡ front ++ place ∷ [] =
    taken_map (λ p. place_view p.items) c.args.places.now c.places.place-index c.place-item.result
    c.places-test.true c.place-item.is ∙ ap (λ p. front ++ place_view p ∷ []) (sym c.deref.ensures.value) in
    let strings = subst (AreStrings (tree_of c.places.left)) split c.places.invariant.strings in
    let turns = subst AreInTurn split c.places.invariant.apart in
    let form = c.lemma_form.ensures.some in
    let shows = c.lemma_form.ensures.shows form.0 form.1 in
    let again = c.lemma_form-in-places.ensures.some in
    let shown = c.lemma_form-in-places.ensures.shows again.0 again.1 in
    let done = c.in_ok-remove.ensures {u = tt} in
    let removed = done.tree form.0 form.1 in
    record {
      without = subst (λ ps. IsTextWithout ps c.args.document.now.bytes c.remove.new.self.bytes) (sym taken)
          (without_more front place form.0 again.0 _ _ _ c.places.invariant.without form.1
          (done.bytes form.0 form.1) again.1
          (shown_removed form.0 again.0 place c.places.left c.remove.new.self shows shown removed));
      strings = strings_left form.0 place rest (tree_of c.places.left) (tree_of c.remove.new.self) removed
          turns.0 strings.1;
      apart = turns.1;
    }
