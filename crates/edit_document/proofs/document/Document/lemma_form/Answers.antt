use Rattle.std.proofs.Common.{List, ℕ, subst}
use Rattle.edit_tree.specs.Assertions.{IsDocument}
use Rattle.edit_document.proofs.ShownForms.{shown_bytes, shows_tree}
use Rattle.edit_document.proofs.document.Document.lemma_form.Goals as goal

pub returns-clause-some : goal.returns-clause-some
returns-clause-some c =
    let read = c.self.invariant in (
      read.form,
      subst (λ (b : List ℕ). IsDocument b read.form)
          (shown_bytes c.self.inside c.args.self.now c.self.view_is) read.manifest,
    )

pub returns-clause-shows : goal.returns-clause-shows
returns-clause-shows c form manifest =
    shows_tree c.self.inside c.args.self.now form c.self.invariant c.self.view_is manifest
