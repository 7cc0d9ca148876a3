use Rattle.std.proofs.Common.{ap, ◌∙◌, List, ℕ}
use Rattle.edit_tree.specs.Assertions.{same_bytes}
use Rattle.edit_document.proofs.EntryPartViews.{same_texts}
use Rattle.edit_document.proofs.entry_part.is_named.Goals as goal

pub returns : goal.returns
returns c =
    c.eq.ensures ∙ same_texts c.as_str.result.now c.args.name.now
    ∙ ap (λ (t : List ℕ). same_bytes t c.args.name.now) c.as_str.ensures.value
