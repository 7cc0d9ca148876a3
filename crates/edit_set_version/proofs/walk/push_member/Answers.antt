use Rattle.std.proofs.Common.{◌≡◌, ◌∙◌, [], Bool, List, ap, false, inl, inr, subst, sym, true, ℕ}
use Rattle.std.specs.Prelude.{All}
use Rattle.std.specs.Str.{bytes_eq}
use Rattle.std.proofs.lemmas.List.Elements.{All-cons, All-nil}
use Rattle.std.proofs.lemmas.Result.{err_from_is_err_and}
use Rattle.edit_document.proofs.EntryPartViews.{same_texts}
use Rattle.edit_tree.specs.Assertions.{same_bytes}
use Rattle.edit_set_version.specs.Crates.{member_of}
use Rattle.edit_set_version.specs.PlanCauses.{AllRiseIn, AreUnraised, IsUnraised}
use Rattle.edit_set_version.specs.PlanLines.{Named}
use Rattle.edit_set_version.specs.LineViews.{line_lists_view, named_member, with_manifests}
use Rattle.edit_base.proofs.FirstCauseLemmas.{first_here}
use Rattle.edit_set_version.proofs.ManifestLines.{no_manifests, one_named, other_one, other_same}
use Rattle.edit_set_version.proofs.walk.push_member.Goals as goal

-- whether the path is that of the root, by the comparison of their texts
compared : (path root text : List ℕ) (b : Bool) → text ≡ path → b ≡ bytes_eq text root
    → same_bytes path root ≡ b
compared path root text b is eq =
    sym (same_texts path root) ∙ ap (λ p. bytes_eq p root) (sym is) ∙ sym eq

pub returns-then-eq-clause-ok : goal.returns-then-eq-clause-ok
returns-then-eq-clause-ok c = λ bs tells.
    let m = member_of c.args.found in
    let root = c.args.root.now in
    let was = line_lists_view c.args.lists.now.items in
    let same : same_bytes m.path root ≡ true
    = compared m.path root c.as_str.result.now c.eq.result c.as_str.ensures.value c.eq.ensures
    ∙ c.if-eq.true in
    sym (ap (λ ms. with_manifests bs ms 0 was) (other_same root m same) ∙ no_manifests bs 0 was)

pub returns-then-eq-clause-rise : goal.returns-then-eq-clause-rise
returns-then-eq-clause-rise c = λ bs tells.
    let m = member_of c.args.found in
    let root = c.args.root.now in
    let same : same_bytes m.path root ≡ true
    = compared m.path root c.as_str.result.now c.eq.result c.as_str.ensures.value c.eq.ensures
    ∙ c.if-eq.true in
    subst (All (AllRiseIn bs)) (sym (other_same root m same)) (All-nil (AllRiseIn bs))

pub returns-in_err-push_manifest-clause-error : goal.returns-in_err-push_manifest-clause-error
returns-in_err-push_manifest-clause-error c =
    let p = err_from_is_err_and c.from_residual.result c.from_residual.ensures.1 in
    let m = member_of c.args.found in
    let root = c.args.root.now in
    let f = c.in_err-push_manifest.field-0.0 in
    let other : same_bytes m.path root ≡ false
    = compared m.path root c.as_str.result.now c.eq.result c.as_str.ensures.value c.eq.ensures
    ∙ c.if-eq.false in
    rw (p.1, p.2) (λ bs tells. elim (c.in_err-push_manifest.ensures.error bs tells) [
      | inl none ↦ inl none
      | inr has ↦ inr (subst (λ ms. AreUnraised bs ms f) (sym (other_one root m other))
          (first_here (AllRiseIn bs) (λ (n : Named). IsUnraised bs n.path n.tree f) (named_member m) [] has))
    ])

pub returns-clause-ok : goal.returns-clause-ok
returns-clause-ok c = λ bs tells.
    let m = member_of c.args.found in
    let root = c.args.root.now in
    let was = line_lists_view c.args.lists.now.items in
    let other : same_bytes m.path root ≡ false
    = compared m.path root c.as_str.result.now c.eq.result c.as_str.ensures.value c.eq.ensures
    ∙ c.if-eq.false in
    c.in_ok-push_manifest.ensures.ok bs tells
    ∙ ap (λ ms. with_manifests bs ms 0 was)
    (ap (one_named m) c.as_str-2.ensures.value ∙ sym (other_one root m other))

pub returns-clause-rise : goal.returns-clause-rise
returns-clause-rise c = λ bs tells.
    let m = member_of c.args.found in
    let root = c.args.root.now in
    let other : same_bytes m.path root ≡ false
    = compared m.path root c.as_str.result.now c.eq.result c.as_str.ensures.value c.eq.ensures
    ∙ c.if-eq.false in
    subst (All (AllRiseIn bs)) (sym (other_one root m other))
    (All-cons (AllRiseIn bs) (named_member m) [] (c.in_ok-push_manifest.ensures.rise bs tells)
    (All-nil (AllRiseIn bs)))
