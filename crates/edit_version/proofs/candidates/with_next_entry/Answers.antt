use Rattle.std.proofs.Common.{◌∙◌, Option, ap, sym}
use Rattle.std.specs.Prelude.{option_copied, option_map}
use Rattle.semver.specs.Identifiers.{parts_of}
use Rattle.semver.specs.declared.Version.{Version}
use Rattle.edit_version.specs.Admissible.{is_selectable}
use Rattle.edit_version.specs.IndexEntry.{entry_of}
use Rattle.edit_version.specs.Requirement.{comparators_of}
use Rattle.edit_version.specs.RustVersions.{numbers_of}
use Rattle.edit_version.proofs.QualifyingEntries.{qualifying-version}
use Rattle.edit_version.proofs.candidates.with_next_entry.Goals as goal

pub invariant_of-later_entry : goal.invariant_of-later_entry
invariant_of-later_entry c = record {
  read = qualifying-version (option_map numbers_of c.args.rust_version)
      (is_selectable c.args.allow_prerelease (option_map comparators_of (option_copied c.args.req)))
      (entry_of c.args.index_entry.now) (parts_of c.in-Some.version)
      (sym c.in_ok-qualifying.ensures.ok ∙ ap (λ (o : Option Version). option_map parts_of o) c.in-Some.is);
}
