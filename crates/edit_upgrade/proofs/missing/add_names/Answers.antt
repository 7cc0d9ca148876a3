use Rattle.std.proofs.Common.{arith, ◌≡◌, ◌+◌, List, map, subst, take}
use Rattle.std.specs.Prelude.{◌&&◌, ◌||◌}
use Rattle.std.specs.BTreeSet.{contains_text}
use Rattle.std.specs.List.{list_any}
use Rattle.std.specs.Str.{bytes_eq}
use Rattle.std.proofs.lemmas.List.{take_all}
use Rattle.edit_manifest.specs.EntryViews.{entry_view}
use Rattle.edit_manifest.specs.declared.entries.found.Entry.{Entry}
use Rattle.edit_upgrade.specs.Missing.{names_in}
use Rattle.edit_upgrade.specs.EntrySelection.{is_named, package_args_of}
use Rattle.edit_upgrade.proofs.MissingLemmas.{names-extended, names-none}
use Rattle.edit_upgrade.proofs.Steps.{names-more}
use Rattle.edit_upgrade.proofs.missing.add_names.Goals as goal

pub found-init : goal.found-init
found-init c = λ name.
    names-none (contains_text c.args.known.now name) (is_named (package_args_of c.args.parsed.options.now) name)

pub found-preserved : goal.found-preserved
found-preserved c = λ name.
    let i = c.found.entry-index in
    names-extended name (is_named (package_args_of c.args.parsed.options.now) name) (contains_text c.args.known.now name)
    (contains_text c.found.known name) (contains_text c.add_entry.new.known name)
    (map entry_view (take i c.args.found.now)) (map entry_view (take (i + 1) c.args.found.now))
    (entry_view c.entry-item.result)
    (names-more entry_view c.args.found.now i c.entry-item.result c.found-test.true c.entry-item.is)
    (c.found.invariant name) (c.in_ok-add_entry.ensures.ok name)

pub returns : goal.returns
returns c = record {
  ok = λ name.
      subst (λ (es : List Entry). contains_text c.found.known name
      ≡ (contains_text c.args.known.now name || (is_named (package_args_of c.args.parsed.options.now) name
      && list_any (bytes_eq name) (names_in (map entry_view es)))))
      (take_all c.found.entry-index c.args.found.now (omega (arith, c.found-test.false)))
      (c.found.invariant name);
}
