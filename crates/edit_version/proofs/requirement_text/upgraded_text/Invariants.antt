use Rattle.std.proofs.Common.{◌≡◌, ◌++◌, map, string_bytes, take}
use Rattle.edit_version.specs.Requirement.{more_text, upgraded_comparator}
use Rattle.semver.specs.Identifiers.{comparator_view, parts_of}
use Rattle.edit_version.proofs.requirement_text.upgraded_text.Given as goal

abbrev pub invariant-rest : goal.invariant-rest
invariant-rest l = string_bytes l.out ≡ string_bytes l.initial.out
    ++ more_text (map (upgraded_comparator (parts_of l.version)) (map comparator_view (take l.comparator-index l.rest)))
