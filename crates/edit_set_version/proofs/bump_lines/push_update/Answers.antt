use Rattle.std.proofs.Common.{◌≡◌, ◌∙◌, None, Some, ap, ap₂, arith, option_map, string_bytes, sym}
use Rattle.edit_set_version.specs.Dependents.{dependent_of}
use Rattle.edit_set_version.specs.PlanLines.{updating_line}
use Rattle.edit_set_version.specs.LineViews.{line_lists_view, owner_view, update_line_view, with_line}
use Rattle.edit_set_version.proofs.LineLists.{rise_listed, stays_unlisted}
use Rattle.edit_set_version.proofs.bump_lines.push_update.Goals as goal

pub returns-in_ok-push_line-in-Some : goal.returns-in_ok-push_line-in-Some
returns-in_ok-push_line-in-Some c = record {
  ok = λ has.
      let owner = owner_view c.args.owner in
      let f = c.args.dependent.now in
      let n = f.bump.number in
      let was = line_lists_view c.args.lists.now.items in
      let line = updating_line owner (string_bytes f.text) (string_bytes c.in-Some.new) in
      let is : update_line_view owner (dependent_of f) ≡ Some line
      = ap (option_map (updating_line owner (string_bytes f.text)))
      (sym has.new ∙ ap (option_map string_bytes) c.in-Some.is) in
      c.in_ok-push_line-in-Some.ensures.ok
      ∙ ap (λ t. with_line n t was) (c.in_ok-line-in-Some.ensures.ok
      ∙ ap₂ (updating_line owner) c.as_str.ensures.value c.as_str-in-Some.ensures.value)
      ∙ sym (rise_listed owner n n 0 (dependent_of f) line was (omega arith) is);
}

pub returns-in-None : goal.returns-in-None
returns-in-None c = record {
  ok = λ has.
      let owner = owner_view c.args.owner in
      let f = c.args.dependent.now in
      let none : update_line_view owner (dependent_of f) ≡ None
      = ap (option_map (updating_line owner (string_bytes f.text)))
      (sym has.new ∙ ap (option_map string_bytes) c.in-None.is) in
      sym (stays_unlisted owner f.bump.number (dependent_of f) 0 (line_lists_view c.args.lists.now.items) none);
}
