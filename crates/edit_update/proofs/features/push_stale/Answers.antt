use Rattle.std.proofs.Common.{◌≡◌, suc, ◌-◌, ◌∙◌, sym, subst, arith}
use Rattle.edit_tree.specs.Assertions.{at, index}
use Rattle.edit_document.specs.ItemViews.{Finds, document_of, place_of}
use Rattle.edit_document.specs.Items.{place_view}
use Rattle.edit_tree.specs.DocumentViews.{tree_of}
use Rattle.edit_update.proofs.StaleElements.{stale_goes, stale_stays}
use Rattle.edit_update.proofs.features.push_stale.Goals as goal

pub elements-preserved : goal.elements-preserved
elements-preserved c =
    let d = c.args.document.now in
    let array = place_view c.args.array.now in
    let m = c.elements.left - 1 in
    let more : c.elements.left ≡ suc (c.elements.left - 1) = omega (arith, c.elements-test.true) in
    let doc : document_of c.in-Some-as_array.elements ≡ d =
    c.in-Some-as_array.ensures.1 ∙ c.in-Some.ensures.0 in
    let place : place_of c.in-Some-as_array.elements ≡ array = c.in-Some-as_array.ensures.2
    ∙ c.in-Some.ensures.1 in
    let found : Finds d (at array (index m)) c.at.result =
    subst (λ e. Finds e (at array (index m)) c.at.result) doc
    (subst (λ q. Finds (document_of c.in-Some-as_array.elements) (at q (index m)) c.at.result) place
    c.at.ensures) in
    stale_stays (tree_of d) c.args.gone.is_held c.args.gone.name.now array c.elements.left m
    c.elements.places.items _ more
    (sym (c.is_stale_item.ensures d (at array (index m)) found) ∙ c.if-is_stale_item.false) c.elements.invariant

pub elements-preserved-in-Continue-branch-2 : goal.elements-preserved-in-Continue-branch-2
elements-preserved-in-Continue-branch-2 c =
    let d = c.args.document.now in
    let array = place_view c.args.array.now in
    let m = c.elements.left - 1 in
    let more : c.elements.left ≡ suc (c.elements.left - 1) = omega (arith, c.elements-test.true) in
    let doc : document_of c.in-Some-as_array.elements ≡ d =
    c.in-Some-as_array.ensures.1 ∙ c.in-Some.ensures.0 in
    let place : place_of c.in-Some-as_array.elements ≡ array = c.in-Some-as_array.ensures.2
    ∙ c.in-Some.ensures.1 in
    let found : Finds d (at array (index m)) c.at.result =
    subst (λ e. Finds e (at array (index m)) c.at.result) doc
    (subst (λ q. Finds (document_of c.in-Some-as_array.elements) (at q (index m)) c.at.result) place
    c.at.ensures) in
    stale_goes (tree_of d) c.args.gone.is_held c.args.gone.name.now array c.elements.left m
    c.elements.places.items
    c.push.new.self.items c.in_ok-place.place _ more
    (sym (c.is_stale_item.ensures d (at array (index m)) found) ∙ c.if-is_stale_item.true) c.in_ok-push.ensures.items
    c.in_ok-place.ensures.ok c.elements.invariant
