use Rattle.std.proofs.Common.{string_bytes, subst}
use Rattle.edit_store.specs.Store.{HasKindAt}
use Rattle.edit_store.specs.declared.store.Kind.TheVariants.{Absent, File}
use Rattle.edit_answers.specs.Locals.HasNoFolder.{other}
use Rattle.edit_answers.proofs.local.existing_folder.Goals as goal

pub returns-in-Ok-File-clause-folder : goal.returns-in-Ok-File-clause-folder
returns-in-Ok-File-clause-folder g c t =
    other (string_bytes c.in-Some.folder) File (rw c.in-Some.is at c.in_ok-folder.ensures)
    (subst (λ q. HasKindAt (g.S.Store.view c.args.files.now).file_at q File) c.as_str.ensures.value
    (rw c.in-Ok-File.field-0-is at (c.in-Ok-File.ensures.stands t)))
    (λ e. cc)

pub returns-in-Ok-Absent-clause-folder : goal.returns-in-Ok-Absent-clause-folder
returns-in-Ok-Absent-clause-folder g c t =
    other (string_bytes c.in-Some.folder) Absent (rw c.in-Some.is at c.in_ok-folder.ensures)
    (subst (λ q. HasKindAt (g.S.Store.view c.args.files.now).file_at q Absent) c.as_str.ensures.value
    (rw c.in-Ok-Absent.field-0-is at (c.in-Ok-Absent.ensures.stands t)))
    (λ e. cc)
