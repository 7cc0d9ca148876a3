use Rattle.std.proofs.Common.{inr, string_bytes, subst, sym}
use Rattle.edit_base.specs.declared.errors.Error.{Error}
use Rattle.edit_metadata.specs.Workspaces.{IsNoWorkspace}
use Rattle.edit_steps.proofs.WorkspaceLemmas.{unsaid_at}
use Rattle.edit_steps.proofs.ErrorLemmas.{unsaid_error}
use Rattle.edit_steps.proofs.workspaces.read_metadata.Goals as goal

pub returns-clause-error : goal.returns-clause-error
returns-clause-error g c =
    let there = rw c.in-Ok-Some.field-0-is at c.in-Ok-Some.ensures.bytes in
    inr (λ t. unsaid_at (g.S.Store.view c.args.files.now).file_at c.args.current.now c.args.named.now
    (string_bytes c.in_ok-path.path) c.as_str.result.now c.in-Ok-Some.bytes.items _ c.in_ok-path.ensures.text
    c.as_str.ensures.value (there t)
    (subst (λ (e : Error). IsNoWorkspace c.in-Ok-Some.bytes.items e) (sym c.at_metadata.ensures)
    (subst (λ bytes. IsNoWorkspace bytes c.in-Err-read.error) c.deref.ensures.value
    c.in-Err-read.ensures.error)))

pub returns-clause-only : goal.returns-clause-only
returns-clause-only g c =
    unsaid_error (g.S.Store.view c.args.files.now) (g.S.Store.view c.read_stream.new.self) c.deref.result.now
    c.in-Err-read.error _ c.at_metadata.ensures c.in-Err-read.ensures.error
