use Rattle.std.proofs.Common.{[], ◌∷◌, map, subst, sym}
use Rattle.std.specs.Iterator.Adapters.{zip_first, zip_second}
use Rattle.std.proofs.lemmas.Iterator.{YieldsList-from_slice, YieldsList-from_zip}
use Rattle.std.proofs.lemmas.Iterator.Consumers.{YieldsList-end}
use Rattle.std.proofs.lemmas.List.{map-append}
use Rattle.edit_answers.specs.Listing.{IsListOf}
use Rattle.edit_answers.specs.Listing.AreAvailable.{none}
use Rattle.edit_answers.proofs.ListLemmas.{listed-more}
use Rattle.edit_answers.proofs.listing.list_of.Goals as goal

pub loop-lookup-init : goal.loop-lookup-init
loop-lookup-init c = record { entries = []; available = none; is = c.new-text.ensures.items }

pub loop-lookup-preserved : goal.loop-lookup-preserved
loop-lookup-preserved c =
    subst (λ ps. IsListOf c.args.places.now ps c.push_lookup.new.text.items)
    (sym (map-append (λ p. (p.0.now, p.1.now)) c.loop-lookup.yielded
    ((c.in-Some.lookup, c.in-Some.outcome) ∷ [])))
    (listed-more c.args.places.now (map (λ p. (p.0.now, p.1.now)) c.loop-lookup.yielded)
    c.in-Some.lookup.now c.in-Some.outcome.now c.loop-lookup.text.items c.push_lookup.new.text.items
    c.loop-lookup.invariant c.in_ok-push_lookup.ensures)

-- at the end of the loop all pairs were passed
pub returns : goal.returns
returns c =
    let from = c.into_iter-lookup-iterator.result in
    let all = YieldsList-from_zip {s = from}
    (YieldsList-from_slice {s = zip_first from} c.args.lookups.now (cc))
    (YieldsList-from_slice {s = zip_second from} c.args.outcomes.now (cc)) in
    let t = YieldsList-end all c.loop-lookup.yielded c.loop-lookup.lookup-iterator c.loop-lookup.yielded_by
    c.next.result c.next.new.self c.in-None.is c.next.ensures.steps in
    subst (λ ps. IsListOf c.args.places.now ps c.loop-lookup.text.items) t.0 c.loop-lookup.invariant
