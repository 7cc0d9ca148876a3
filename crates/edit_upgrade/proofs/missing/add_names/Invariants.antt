use Rattle.std.proofs.Common.{◌≡◌, List, ℕ, map, take}
use Rattle.std.specs.Prelude.{◌&&◌, ◌||◌}
use Rattle.std.specs.BTreeSet.{contains_text}
use Rattle.std.specs.List.{list_any}
use Rattle.std.specs.Str.{bytes_eq}
use Rattle.edit_manifest.specs.EntryViews.{entry_view}
use Rattle.edit_upgrade.specs.Missing.{names_in}
use Rattle.edit_upgrade.specs.EntrySelection.{is_named, package_args_of}
use Rattle.edit_upgrade.proofs.missing.add_names.Given as goal

abbrev pub invariant-found : goal.invariant-found
invariant-found l = (name : List ℕ) → contains_text l.known name
    ≡ (contains_text l.fn.known name || (is_named (package_args_of l.parsed.options.now) name
    && list_any (bytes_eq name) (names_in (map entry_view (take l.entry-index l.found)))))
