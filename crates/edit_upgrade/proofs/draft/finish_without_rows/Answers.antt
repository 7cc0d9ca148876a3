use Rattle.std.proofs.Common.{List, ap, map, subst, sym}
use Rattle.std.specs.List.{list_any}
use Rattle.edit_report.specs.declared.row.Row.{Row}
use Rattle.edit_upgrade.specs.Lines.{line_of}
use Rattle.edit_upgrade.specs.Lists.{AreNames, changed_names, git_names, is_held_incompatible, is_held_pinned}
use Rattle.edit_upgrade.proofs.ListLemmas.{no-names}
use Rattle.edit_upgrade.proofs.draft.finish_without_rows.Goals as goal

pub returns-clause-lists : goal.returns-clause-lists
returns-clause-lists c = record {
  modified = subst (λ (rs : List Row). AreNames (changed_names (map line_of rs)) c.new.result.items)
      (sym c.requires)
      (no-names c.new.result.items c.new.ensures.items);
  git_crates = subst (λ (rs : List Row). AreNames (git_names (map line_of rs)) c.new-2.result.items)
      (sym c.requires)
      (no-names c.new-2.result.items c.new-2.ensures.items);
  pinned = sym (ap (list_any (λ (r : Row). is_held_pinned r.reason)) c.requires);
  incompatible = sym (ap (list_any (λ (r : Row). is_held_incompatible r.reason)) c.requires);
}
