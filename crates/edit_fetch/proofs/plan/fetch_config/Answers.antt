use Rattle.std.proofs.Common.{◌∙◌, ap, subst, map}
use Rattle.edit_lookups.specs.Lookups.{lookup_text}
use Rattle.edit_fetch.specs.Plans.{AreEffectiveRequests}
use Rattle.edit_fetch.proofs.PlanLemmas.{requests_counted}
use Rattle.edit_fetch.specs.Transfers.{requests_text}
use Rattle.edit_fetch.proofs.plan.fetch_config.Goals as goal

pub returns-clause-config : goal.returns-clause-config
returns-clause-config g c = λ tells.
    let plan = c.args.plan.now in
    record {
      lookups = map lookup_text c.in-Some.lookups.items;
      requests = c.in-Ok.requests.items;
      said = rw c.in-Some.is at c.in_ok-lookups.ensures;
      counted = requests_counted (g.S.Store.view c.args.store.now).file_at plan _ _
          (subst (λ ls. AreEffectiveRequests (g.S.Store.view c.args.store.now).file_at plan (map lookup_text ls)
          c.in-Ok.requests.items) c.deref.ensures.value (c.in-Ok.ensures.requests tells));
      made = subst (λ ls. AreEffectiveRequests (g.S.Store.view c.args.store.now).file_at plan (map lookup_text ls)
          c.in-Ok.requests.items) c.deref.ensures.value (c.in-Ok.ensures.requests tells);
      is = c.in_ok-config.ensures.text
          ∙ ap (requests_text plan.settings.now plan.room.now) c.deref-2.ensures.value;
    }
