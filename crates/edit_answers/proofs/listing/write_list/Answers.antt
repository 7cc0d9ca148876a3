use Rattle.std.proofs.Common.{◌∙◌, subst, sym}
use Rattle.std.specs.List.{zip}
use Rattle.edit_answers.specs.Listing.{IsListOf, PutsList}
use Rattle.edit_answers.proofs.ChangeLemmas.{keeps-write, write-changes}
use Rattle.edit_answers.proofs.listing.write_list.Goals as goal

pub returns-clause-changes : goal.returns-clause-changes
returns-clause-changes g c =
    let p = c.args.places.now in
    let pairs = zip c.args.lookups.now c.args.outcomes.now in
    let may = PutsList p pairs in
    write-changes (λ _. may) may _ _ _ _ _ _ c.write.ensures.tells c.write.ensures.written
    c.write.ensures.others c.write.ensures.cause
    (λ t is v. keeps-write may _ _ _ _ c.write.ensures.others is (record {
      at = c.as_str.ensures.value ∙ c.in_ok-path.ensures;
      is = subst (IsListOf p pairs) (sym c.deref.ensures.value) c.in_ok-text.ensures;
    }))
