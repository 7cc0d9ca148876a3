use Rattle.std.proofs.Common.{◌≡◌, ◌∙◌, List, ℕ, ap, false, sym, true}
use Rattle.std.specs.List.{list_any}
use Rattle.std.proofs.lemmas.Result.{on_ok_weaker}
use Rattle.edit_lock_bounds.specs.Changes.{is_text_of}
use Rattle.edit_lock_bounds.specs.Lookups.{Lookup, is_same_lookup}
use Rattle.edit_lock_bounds.specs.LookupViews.{lookups_view}
use Rattle.edit_lock_bounds.proofs.LookupLemmas.{seen-same, with-new, with-seen}
use Rattle.edit_lock_bounds.proofs.lookups.add_crate.Goals as goal

pub returns-then-is_seen-clause-added : goal.returns-then-is_seen-clause-added
returns-then-is_seen-clause-added c are =
    let ls = lookups_view c.args.lookups.now.items in
    let a : Lookup = record { name = c.args.name.now; source = c.args.source.now } in
    let there : list_any (λ b. is_same_lookup b a) ls ≡ true
    = sym (seen-same a ls) ∙ ap (λ (ts : List (List ℕ)). is_text_of ts a.source) (sym (are a.name))
    ∙ sym c.is_seen.ensures ∙ c.if-is_seen.true in
    with-seen a ls there

pub returns-clause-added : goal.returns-clause-added
returns-clause-added c =
    let ls = lookups_view c.args.lookups.now.items in
    let a : Lookup = record { name = c.args.name.now; source = c.args.source.now } in
    on_ok_weaker c.push_lookup.result
    (λ pushed are.
    let new : list_any (λ b. is_same_lookup b a) ls ≡ false
    = sym (seen-same a ls) ∙ ap (λ (ts : List (List ℕ)). is_text_of ts a.source) (sym (are a.name))
    ∙ sym c.is_seen.ensures ∙ c.if-is_seen.false in
    pushed ∙ with-new a ls new)
    c.push_lookup.ensures
