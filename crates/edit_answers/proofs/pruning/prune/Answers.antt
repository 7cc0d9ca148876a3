use Rattle.std.proofs.Common.{◌≡◌, ◌<◌, ◌∙◌, ap, arith, get_or, inl, inr, length, map, sym, true, ⊎_elim}
use Rattle.std.proofs.lemmas.List.{length-map}
use Rattle.edit_answers.specs.Aging.{aged_text, is_used, owner_of, remaining_files}
use Rattle.edit_answers.proofs.ChangeLemmas.{raised-later}
use Rattle.edit_answers.proofs.PruneLemmas.{all-gone, at-place, gone-step, none-gone, raised-on, stays-step}
use Rattle.edit_answers.proofs.pruning.prune.Goals as goal

pub returns-in-Err : goal.returns-in-Err
returns-in-Err g c = record {
  tells = c.list.ensures.tells;
  later = c.list.ensures.later;
  stays = λ t. ap (remaining_files (g.S.AgingStore.aging c.args.cache.now).files) (c.list.ensures.files t);
  gone = tt;
  error = ⊎_elim (λ memory. inl memory)
      (λ failed. inr (failed.0, failed.1, failed.2, c.list.ensures.files)) c.in-Err.ensures.error;
}

pub loop-i-init : goal.loop-i-init
loop-i-init g c =
    let old = g.S.AgingStore.aging c.args.cache.now in
    record {
      tells = c.list.ensures.tells;
      later = c.list.ensures.later;
      stays = λ t. ap (remaining_files old.files) (c.list.ensures.files t);
      gone = λ t none. c.list.ensures.files t ∙ none-gone old.files;
    }

pub loop-i-preserved : goal.loop-i-preserved
loop-i-preserved g c =
    let old = g.S.AgingStore.aging c.args.cache.now in
    let mid = g.S.AgingStore.aging c.loop-i.cache in
    let new = g.S.AgingStore.aging c.remove_unused.new.cache in
    let aged = c.index-aged.result.now in
    let inv = c.loop-i.invariant in
    let step = c.remove_unused.ensures in
    let within : c.loop-i.i < length c.in-Ok.files.items = omega (
      arith,
      c.loop-i-test.true,
      c.len-i-end.ensures,
    ) in
    let place : old.tells ≡ true
    → (c.loop-i.i < length old.files) × (aged_text aged ≡ get_or old.files c.loop-i.i (aged_text aged))
    = λ t. at-place c.in-Ok.files.items old.files c.loop-i.i aged (c.in-Ok.ensures.listed t) within
    c.index-aged.ensures in
    let used : old.tells ≡ true → c.in_ok-is_used.is_used ≡ is_used old.files (owner_of (aged_text aged))
    = λ t. c.in_ok-is_used.ensures ∙ c.in_ok-used.ensures (owner_of (aged_text aged))
    ∙ ap (λ fs. is_used fs (owner_of (aged_text aged)))
    (ap (map aged_text) c.deref.ensures.value ∙ c.in-Ok.ensures.listed t) in
    record {
      tells = step.tells ∙ inv.tells;
      later = omega (arith, inv.later, step.later);
      stays = λ t.
          stays-step old.files c.loop-i.i (aged_text aged) (place t).0
          (place t).1 c.in_ok-is_used.is_used mid new
          c.remove_unused.result step (used t) (inv.tells ∙ t) ∙ inv.stays t;
      gone = λ t none.
          gone-step old.files c.loop-i.i (aged_text aged) (place t).0
          (place t).1 c.in_ok-is_used.is_used mid new
          c.in-Ok-remove_unused.ensures (used t) (inv.tells ∙ t)
          (λ r. none (raised-later old.faults mid.faults new.faults inv.later r))
          (inv.gone t (λ r. none (raised-on old.faults mid.faults new.faults step.later r)));
    }

pub returns-in-Err-remove_unused : goal.returns-in-Err-remove_unused
returns-in-Err-remove_unused g c =
    let old = g.S.AgingStore.aging c.args.cache.now in
    let mid = g.S.AgingStore.aging c.loop-i.cache in
    let new = g.S.AgingStore.aging c.remove_unused.new.cache in
    let aged = c.index-aged.result.now in
    let inv = c.loop-i.invariant in
    let step = c.remove_unused.ensures in
    let within : c.loop-i.i < length c.in-Ok.files.items = omega (
      arith,
      c.loop-i-test.true,
      c.len-i-end.ensures,
    ) in
    let place : old.tells ≡ true
    → (c.loop-i.i < length old.files) × (aged_text aged ≡ get_or old.files c.loop-i.i (aged_text aged))
    = λ t. at-place c.in-Ok.files.items old.files c.loop-i.i aged (c.in-Ok.ensures.listed t) within
    c.index-aged.ensures in
    let used : old.tells ≡ true → c.in_ok-is_used.is_used ≡ is_used old.files (owner_of (aged_text aged))
    = λ t. c.in_ok-is_used.ensures ∙ c.in_ok-used.ensures (owner_of (aged_text aged))
    ∙ ap (λ fs. is_used fs (owner_of (aged_text aged)))
    (ap (map aged_text) c.deref.ensures.value ∙ c.in-Ok.ensures.listed t) in
    record {
      tells = step.tells ∙ inv.tells;
      later = omega (arith, inv.later, step.later);
      stays = λ t.
          stays-step old.files c.loop-i.i (aged_text aged) (place t).0
          (place t).1 c.in_ok-is_used.is_used mid new
          c.remove_unused.result step (used t) (inv.tells ∙ t) ∙ inv.stays t;
      gone = tt;
      error = inl c.in-Err-remove_unused.ensures.error;
    }

pub returns : goal.returns
returns g c =
    let old = g.S.AgingStore.aging c.args.cache.now in
    let now = g.S.AgingStore.aging c.loop-i.cache in
    let inv = c.loop-i.invariant in
    let end : c.loop-i.i ≡ length c.in-Ok.files.items = omega (
      arith,
      c.loop-i-test.false,
      c.loop-i.auto.i-end,
      c.len-i-end.ensures,
    ) in
    record {
      tells = inv.tells;
      later = inv.later;
      stays = inv.stays;
      gone = λ t none.
          all-gone old.files now.files c.loop-i.i
          (end ∙ sym (length-map c.in-Ok.files.items aged_text) ∙ ap length (c.in-Ok.ensures.listed t))
          (inv.gone t none);
      error = tt;
    }
