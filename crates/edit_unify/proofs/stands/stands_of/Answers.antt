use Rattle.std.proofs.Common.{◌∙◌, ap, map}
use Rattle.std.specs.Iterator.Adapters.{zip_first, zip_second}
use Rattle.std.proofs.lemmas.Iterator.{YieldsList-from_slice, YieldsList-from_zip}
use Rattle.std.proofs.lemmas.Iterator.Consumers.{YieldsList-end}
use Rattle.edit_unify.proofs.StandLemmas.{stand_beside, stands-zip}
use Rattle.edit_unify.proofs.stands.stands_of.Goals as goal

-- at the end of the loop all pairs were passed
pub returns : goal.returns
returns c = record {
  stands =
      let from = c.into_iter-row-iterator.result in
      let all = YieldsList-from_zip {s = from}
      (YieldsList-from_slice {s = zip_first from} c.args.rows.now (cc))
      (YieldsList-from_slice {s = zip_second from} c.args.addresses.now (cc)) in
      let t = YieldsList-end all c.rows.yielded c.rows.row-iterator c.rows.yielded_by
      c.next.result c.next.new.self c.in-None.is c.next.ensures.steps in
      c.rows.invariant
      ∙ ap (map stand_beside) t.0
      ∙ stands-zip c.args.rows.now c.args.addresses.now;
  error = tt;
}
