use Rattle.std.proofs.Common.{◌≡◌, true, Some, None, cond, ap, ◌∙◌, option_map, subst, rules}
use Rattle.std.specs.BTreeMap.{get_by}
use Rattle.std.specs.Cmp.Lexicographic.{slice_cmp}
use Rattle.std.specs.Ordering.{nat_cmp}
use Rattle.std.specs.Str.{bytes_eq}
use Rattle.std.proofs.lemmas.Map.Text.{btree_map_updates_str}
use Rattle.std.proofs.lemmas.Slice.Eq.{bytes_eq-Decides}
use Rattle.edit_sources.specs.Sources.{source_texts, or_else, found}
use Rattle.edit_sources.proofs.SourceLemmas.{bytes_eq_comm, option_map-added}
use Rattle.edit_sources.proofs.registry.chain.define.Goals as goal

pub returns-in_ok-insert : goal.returns-in_ok-insert
returns-in_ok-insert c = λ q.
    let lacks : get_by (λ k. slice_cmp nat_cmp c.args.key.now k.now) c.args.sources.now ≡ None =
    search rules in
    let absent : bytes_eq c.args.key.now q ≡ true → get_by (λ k. slice_cmp nat_cmp q k.now) c.args.sources.now
    ≡ None
    = λ same. subst (λ t. get_by (λ k. slice_cmp nat_cmp t k.now) c.args.sources.now ≡ None)
    ((bytes_eq-Decides c.args.key.now q).0 same) lacks in
    ap (λ o. option_map source_texts o)
    (btree_map_updates_str c.args.key.now c.args.sources.now c.insert.new.self _
    c.in_ok-insert.ensures.updates q)
    ∙ option_map-added (bytes_eq c.args.key.now q) c.args.source
    (get_by (λ k. slice_cmp nat_cmp q k.now) c.args.sources.now) absent
    ∙ ap (λ b. or_else (found c.args.sources.now q) (cond b (Some (source_texts c.args.source)) None))
    (bytes_eq_comm c.args.key.now q)
