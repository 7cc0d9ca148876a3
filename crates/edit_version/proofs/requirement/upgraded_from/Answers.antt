use Rattle.std.proofs.Common.{◌≡◌, ◌∙◌, sym, ap, false, true, rules}
use Rattle.std.specs.Prelude.{length, ◌==◌, nat_eq}
use Rattle.std.specs.Cmp.Lexicographic.{pointwise}
use Rattle.edit_version.proofs.RaiseLemmas.{copied_none, other_text, raise_text, raise_unsupported, same_nothing}
use Rattle.edit_version.specs.Requirement.{Text, match_caret, unless_same}
use Rattle.semver.specs.Identifiers.{comparator_view, parts_of}
use Rattle.edit_version.proofs.requirement.upgraded_from.Goals as goal

pub returns-in-Some : goal.returns-in-Some
returns-in-Some c = (
  comparator_view c.in-Some.comparator.now,
  raise_unsupported c.args.req.now (parts_of c.args.version.now) _ _ _ c.requires c.deref.ensures.value
      c.in-Some.ensures,
  c.in_ok-comparator_string.ensures,
)

pub returns-then-eq : goal.returns-then-eq
returns-then-eq c =
    let some : (length c.args.parsed.now.comparators.items == 0) ≡ false = search rules in
    let whole = raise_text c.args.req.now (parts_of c.args.version.now) _ _ _ _ c.requires some
    c.deref.ensures.value (sym (copied_none _ c.in_default.not-Some) ∙
    c.first_inequality.ensures) c.deref-2.ensures.value c.in_ok-text.ensures in
    let led : c.match_caret-text.result.now ≡ match_caret c.args.req.now c.as_str.result.now = c.match_caret-text.ensures in
    let same : pointwise nat_eq c.match_caret-text.result.now c.args.req.now ≡ true = search rules in
    whole ∙ ap (λ t. unless_same c.args.req.now (match_caret c.args.req.now t)) (sym c.as_str.ensures.value)
    ∙ ap (λ t. unless_same c.args.req.now t) (sym led) ∙
    same_nothing c.args.req.now c.match_caret-text.result.now same

pub returns : goal.returns
returns c =
    let some : (length c.args.parsed.now.comparators.items == 0) ≡ false = search rules in
    let whole = raise_text c.args.req.now (parts_of c.args.version.now) _ _ _ _ c.requires some
    c.deref.ensures.value (sym (copied_none _ c.in_default.not-Some) ∙
    c.first_inequality.ensures) c.deref-2.ensures.value c.in_ok-text.ensures in
    let other : pointwise nat_eq c.match_caret-text.result.now c.args.req.now ≡ false = search rules in
    let led : c.match_caret-text.result.now ≡ match_caret c.args.req.now c.as_str.result.now = c.match_caret-text.ensures in
    whole ∙ ap (λ t. unless_same c.args.req.now (match_caret c.args.req.now t)) (sym c.as_str.ensures.value)
    ∙ ap (λ t. unless_same c.args.req.now t) (sym led) ∙
    other_text c.args.req.now c.match_caret-text.result.now other ∙
    ap (λ t. Text t) (sym c.in_ok-from_str.ensures.ok)
