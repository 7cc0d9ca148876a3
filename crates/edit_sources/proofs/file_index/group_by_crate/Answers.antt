use Rattle.std.proofs.Common.{◌≡◌, ◌++◌, ◌∷◌, [], sym, ap, ◌∙◌, subst, rules}
use Rattle.std.proofs.lemmas.Iterator.Adapters.{YieldsList-from_vec}
use Rattle.std.proofs.lemmas.Iterator.Consumers.{YieldsList-end}
use Rattle.std.proofs.lemmas.List.{map-id}
use Rattle.edit_sources.specs.FileIndex.{AreNamed, IsAdded}
use Rattle.edit_sources.proofs.RunLemmas.{HasGrouped, continued, with_name, grouped-more, grouped-anew, grouped-all}
use Rattle.edit_sources.proofs.file_index.group_by_crate.Goals as goal
use Rattle.edit_sources.proofs.file_index.group_by_crate.Goals.{then-not-is_same_crate+in_ok-add_run+in_ok-reserve_exact, else-not-is_same_crate}

pub loop-entry-preserved : goal.loop-entry-preserved
loop-entry-preserved c = elim c.if-not-is_same_crate.branch [
  | then-not-is_same_crate+in_ok-add_run+in_ok-reserve_exact w ↦
      let begun : c.if-not-is_same_crate.run.items ≡ [] = ap (λ r. r.items) w.run-is ∙
      w.in_ok-reserve_exact.ensures.items ∙ ap (λ r. r.items) w.replace-ended.ensures.after ∙
      w.new.ensures.items in
      let items : c.push.new.self.items ≡ c.in-Some.entry ∷ [] = c.in_ok-push.ensures.items ∙
      ap (λ xs. xs ++ c.in-Some.entry ∷ []) begun in
      subst (λ g. HasGrouped g c.push.new.self.items (c.loop-entry.yielded ++ c.in-Some.entry ∷ []))
      (sym w.groups-is)
      (subst (λ xs. HasGrouped w.add_run.new.groups xs (c.loop-entry.yielded ++ c.in-Some.entry ∷ []))
      (sym items)
      (grouped-anew c.loop-entry.groups c.loop-entry.run.items c.loop-entry.yielded c.loop-entry.invariant
      w.add_run.new.groups
      (subst (λ r. IsAdded c.loop-entry.groups r.items w.add_run.new.groups) w.replace-ended.ensures.value
      (w.in_ok-add_run.ensures c.loop-entry.invariant.1.0
      (subst (λ r. AreNamed c.loop-entry.invariant.1.0 r.items) (sym w.replace-ended.ensures.value)
      c.loop-entry.invariant.1.1)))
      c.in-Some.entry))
  | else-not-is_same_crate w ↦
      let items : c.push.new.self.items ≡ c.loop-entry.run.items ++ c.in-Some.entry ∷ [] =
      c.in_ok-push.ensures.items ∙ ap (λ r. r.items ++ c.in-Some.entry ∷ []) w.run-is in
      subst (λ g. HasGrouped g c.push.new.self.items (c.loop-entry.yielded ++ c.in-Some.entry ∷ []))
      (sym w.groups-is)
      (subst (λ xs. HasGrouped c.loop-entry.groups xs (c.loop-entry.yielded ++ c.in-Some.entry ∷ []))
      (sym items)
      (grouped-more c.loop-entry.groups c.loop-entry.run.items c.loop-entry.yielded c.loop-entry.invariant
      c.in-Some.entry
      (λ name named. continued c.deref.result.now c.in-Some.entry (sym w.if-not-is_same_crate.ensures) name
      (subst (AreNamed name) (sym c.deref.ensures.value) named))))
]

pub returns : goal.returns
returns c =
    let end = YieldsList-end
    (YieldsList-from_vec {s = c.into_iter-entry-iterator.result} c.args.entries.items
    (search rules) (search rules))
    c.loop-entry.yielded c.loop-entry.entry-iterator c.loop-entry.yielded_by
    c.next.result c.next.new.self c.in-None.is c.next.ensures.steps in
    let whole = sym (map-id c.loop-entry.yielded) ∙ end.0 in
    let all = grouped-all c.loop-entry.groups c.loop-entry.run.items c.loop-entry.yielded
    c.loop-entry.invariant c.add_run-2.new.groups
    (c.in_ok-add_run-2.ensures c.loop-entry.invariant.1.0 c.loop-entry.invariant.1.1) in
    λ q. all q ∙ ap (with_name q) whole
