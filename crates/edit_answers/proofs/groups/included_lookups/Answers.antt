use Rattle.std.proofs.Common.{◌∙◌, ap, not}
use Rattle.std.specs.Prelude.{filter}
use Rattle.std.specs.Iterator.Adapters.{zip_first, zip_second}
use Rattle.std.proofs.lemmas.Iterator.{YieldsList-from_slice, YieldsList-from_zip}
use Rattle.std.proofs.lemmas.Iterator.Consumers.{YieldsList-end}
use Rattle.edit_answers.specs.Groups.{is_excluded}
use Rattle.edit_answers.proofs.groups.included_lookups.Goals as goal

-- at the end of the loop all pairs were passed
pub returns : goal.returns
returns c =
    let from = c.into_iter-lookup-iterator.result in
    let all = YieldsList-from_zip {s = from}
    (YieldsList-from_slice {s = zip_first from} c.args.lookups.now (cc))
    (YieldsList-from_slice {s = zip_second from} c.args.outcomes.now (cc)) in
    let t = YieldsList-end all c.loop-lookup.yielded c.loop-lookup.lookup-iterator c.loop-lookup.yielded_by
    c.next.result c.next.new.self c.in-None.is c.next.ensures.steps in
    c.loop-lookup.invariant
    ∙ ap (filter (λ p. not (is_excluded c.args.excluded.now p.0.name.now))) t.0
