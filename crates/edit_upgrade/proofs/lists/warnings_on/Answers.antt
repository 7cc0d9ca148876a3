use Rattle.std.proofs.Common.{◌≡◌, ◌∷◌, ◌++◌, ◌∙◌, [], List, map, sym, subst, ap, take, append-nil}
use Rattle.std.specs.Prelude.{Option, option_map}
use Rattle.std.specs.List.{cons_option}
use Rattle.std.proofs.lemmas.List.{map-append}
use Rattle.edit_manifest.specs.EntryViews.{entry_view}
use Rattle.edit_manifest.specs.Entries.{Entry}
use Rattle.edit_upgrade.specs.Lists.{AreWarnings, warning_view}
use Rattle.edit_upgrade.specs.declared.upgrade.Warning.{Warning}
use Rattle.edit_upgrade.proofs.ListLemmas.{warned-more, warned-none}
use Rattle.edit_upgrade.proofs.Steps.{names-more}
use Rattle.edit_upgrade.proofs.lists.warnings_on.Goals as goal
use Rattle.edit_upgrade.proofs.lists.warnings_on.Goals.{in-Some+in_ok-push-in-Some, in-None}

pub entries-init : goal.entries-init
entries-init c =
    warned-none c.args.parsed.options.now c.args.input (map warning_view c.new-warnings.result.items)
    (ap (map warning_view) c.new-warnings.ensures.items)

pub entries-preserved : goal.entries-preserved
entries-preserved c =
    let front = map entry_view (take c.entries.entry-index c.args.entries.now) in
    let more = names-more entry_view c.args.entries.now c.entries.entry-index c.entry-item.result
    c.entries-test.true c.entry-item.is in
    let old = map warning_view c.entries.warnings.items in
    let found = option_map warning_view c.in_ok-found.found in
    let new : map warning_view c.match-found.warnings.items ≡ old ++ cons_option found [] =
    elim c.match-found.branch [
      | in-Some+in_ok-push-in-Some w ↦
          ap (λ v. map warning_view v.items) w.warnings-is
          ∙ ap (map warning_view) w.in_ok-push-in-Some.ensures.items
          ∙ map-append warning_view c.entries.warnings.items (w.in-Some.warning ∷ [])
          ∙ sym (ap (λ (o : Option Warning). old ++ cons_option (option_map warning_view o) []) w.in-Some.is)
      | in-None w ↦
          ap (λ v. map warning_view v.items) w.warnings-is ∙ sym (append-nil old)
          ∙ sym (ap (λ (o : Option Warning). old ++ cons_option (option_map warning_view o) []) w.in-None.is)
    ] in
    subst (λ (es : List Entry). AreWarnings c.args.parsed.options.now c.args.input es
    (map warning_view c.match-found.warnings.items)) (sym more)
    (warned-more c.args.parsed.options.now c.args.input front old
    (map warning_view c.match-found.warnings.items) (entry_view c.entry-item.result) found
    c.entries.invariant c.in_ok-found.ensures.ok new)
