use Rattle.std.proofs.Common.{◌∙◌, Some, ap, subst, sym}
use Rattle.edit_sources.specs.FileIndex.{HoldsLines}
use Rattle.edit_sources.specs.Published.{text_by}
use Rattle.edit_sources.specs.Withheld.{of_crate_in}
use Rattle.edit_sources.proofs.FileIndexLemmas.{grouped_lines}
use Rattle.edit_sources.proofs.PublishedErrors.{published_error}
use Rattle.edit_sources.specs.declared.file_index.FileIndex.{FileIndex}
use Rattle.edit_sources.proofs.file_index.FileIndex.with_bound.Goals as goal

pub returns-in-Err-clause-error : goal.returns-in-Err-clause-error
returns-in-Err-clause-error c =
    published_error c.in-Some.bound c.args.bytes.now c.in-Err.error c.in-Err.ensures.error

pub returns-clause-entries : goal.returns-clause-entries
returns-clause-entries c =
    let index : FileIndex =
    record { groups = c.in_ok-group_by_crate.field-0; withheld = c.in-Ok.lines.crates } in
    subst (λ b. HoldsLines index (text_by b c.args.bytes.now)) (sym c.in-Some.is)
    (grouped_lines index c.in-Ok.lines.entries.items (text_by (Some c.in-Some.bound) c.args.bytes.now)
    c.in-Ok.ensures.entries
    c.in_ok-group_by_crate.ensures)

pub returns-clause-withheld : goal.returns-clause-withheld
returns-clause-withheld c = λ name.
    c.in-Ok.ensures.crates name ∙ sym (ap (λ b. of_crate_in b c.args.bytes.now name) c.in-Some.is)
