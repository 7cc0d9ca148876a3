use Rattle.std.proofs.Common.{◌≡◌, ◌++◌, ◌∙◌, Bor, List, ap, map, subst, ℕ}
use Rattle.std.specs.Prelude.{OnOk}
use Rattle.edit_shown.proofs.UnifiedLemmas.{parts_from}
use Rattle.edit_shown.proofs.diff.unified.push_changes.Goals as goal

pub returns : goal.returns
returns c =
    let now = map (λ (l : Bor (List ℕ)). l.now) in
    let e = parts_from _ _ _ _ c.args.old.now c.args.new.now
    (c.deref-3.ensures.value ∙ c.in_ok-diff_lines.ensures.kinds)
    (ap now c.deref-4.ensures.value ∙ c.in_ok-diff_lines.ensures.lines)
    (ap now c.deref.ensures.value ∙ c.in_ok-olds.ensures.ok)
    (ap now c.deref-2.ensures.value ∙ c.in_ok-news.ensures.ok) in
    record {
      ok = subst (λ (t : List ℕ). OnOk c.push_parts.result
          (c.push_parts.new.text.items ≡ c.args.text.now.items ++ t)) e c.push_parts.ensures.ok;
    }
