use Rattle.std.proofs.Common.{◌≡◌, ◌++◌, take}
use Rattle.std.specs.Prelude.{string_bytes}
use Rattle.edit_shown.specs.VersionChanges.{version_changes}
use Rattle.edit_shown.proofs.changes.push_version_changes.Given as goal

-- the messages so far
abbrev pub invariant-loop-change : goal.invariant-loop-change
invariant-loop-change l =
    string_bytes l.text ≡ string_bytes l.initial.text ++ version_changes (take l.change-index l.changes)
