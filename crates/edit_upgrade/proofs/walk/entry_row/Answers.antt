use Rattle.std.proofs.Common.{None, ap, inl, inr}
use Rattle.std.specs.Prelude.{option_map}
use Rattle.edit_version.specs.RustVersions.{numbers_of}
use Rattle.edit_upgrade.specs.Found.{row_entry_view, source_view}
use Rattle.edit_upgrade.specs.Lines.{line_of}
use Rattle.edit_upgrade.specs.Lookups.{cached_by}
use Rattle.edit_upgrade.specs.Rows.{is_elsewhere}
use Rattle.edit_upgrade.specs.declared.entries_with_rows.Source.{Source}
use Rattle.edit_upgrade.proofs.WalkLemmas.{elsewhere-decided}
use Rattle.edit_upgrade.proofs.walk.entry_row.Goals as goal

pub returns-in_ok-row-in-Git-clause-row : goal.returns-in_ok-row-in-Git-clause-row
returns-in_ok-row-in-Git-clause-row g c =
    elsewhere-decided c.args.job.number c.args.job.parsed.options.now
    (option_map numbers_of c.args.job.input.now.rust_version) c.args.addresses.now.configs.now (cached_by c.args.index.now)
    (row_entry_view c.args.entry.now) (line_of c.in_ok-row-in-Git.row)
    (elim c.in-Git.is [
      | inl git ↦ ap (λ (s : Source). is_elsewhere (source_view s)) git
      | inr path ↦ ap (λ (s : Source). is_elsewhere (source_view s)) path
    ]) (c.in_ok-row-in-Git.ensures.ok None tt)
