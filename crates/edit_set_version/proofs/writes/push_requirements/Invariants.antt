use Rattle.std.proofs.Common.{◌≡◌, ◌++◌, map, take}
use Rattle.std.specs.Prelude.{All}
use Rattle.std.specs.List.{filter_map}
use Rattle.edit_document.specs.Ranges.{edit_views}
use Rattle.edit_set_version.specs.Dependents.{HasRaisedText, dependent_of}
use Rattle.edit_set_version.specs.SetVersioned.{requirement_edit}
use Rattle.edit_set_version.proofs.writes.push_requirements.Given as goal

abbrev pub invariant-dependents : goal.invariant-dependents
invariant-dependents l = All HasRaisedText l.dependents → edit_views l.edits.items
    ≡ edit_views l.initial.edits.items
    ++ filter_map requirement_edit (map dependent_of (take l.dependent-index l.dependents))
