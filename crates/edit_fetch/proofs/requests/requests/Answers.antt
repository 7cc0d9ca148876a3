use Rattle.std.proofs.Common.{sym, ◌∙◌, arith, refl}
use Rattle.edit_fetch.proofs.PlanLemmas.{fetched_more, none_yet, passed_more, request_same}
use Rattle.edit_fetch.proofs.requests.requests.Goals as goal

pub loop-i-init : goal.loop-i-init
loop-i-init g c = record {
  store = record { tells = refl; files = λ path. refl; writes = refl; later = omega arith };
  made = λ tells. none_yet _ _ _ c.new-requests.ensures.items;
}

pub loop-i-preserved-then-not-is_requested : goal.loop-i-preserved-then-not-is_requested
loop-i-preserved-then-not-is_requested g c = record {
  store = c.loop-i.invariant.store;
  made = λ tells. passed_more _ _ _ _ _ _ _ c.loop-i-test.true refl
      (c.loop-i.invariant.made tells) (sym c.is_requested.ensures ∙ c.if-not-is_requested.true);
}

pub loop-i-preserved : goal.loop-i-preserved
loop-i-preserved g c =
    let store = c.loop-i.invariant.store in
    record {
      store = record {
        tells = c.request.ensures.store.tells ∙ store.tells;
        files = λ path. c.request.ensures.store.files path ∙ store.files path;
        writes = c.request.ensures.store.writes ∙ store.writes;
        later = omega (arith, store.later, c.request.ensures.store.later);
      };
      made = λ tells. fetched_more _ _ _ _ _ _ _ c.in-Ok.request _ c.loop-i-test.true
          refl (c.loop-i.invariant.made tells)
          (sym c.is_requested.ensures ∙ c.if-not-is_requested.false)
          (request_same _ _ _ _ _ _ store.files (c.in-Ok.ensures.request (store.tells ∙ tells)))
          c.in_ok-push-in-Ok.ensures.items;
    }
