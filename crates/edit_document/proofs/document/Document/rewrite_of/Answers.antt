use Rattle.std.proofs.Common.{sym, ◌∙◌, true≢false}
use Rattle.edit_document.proofs.document.Document.rewrite_of.Goals as goal

pub unreachable-requires : goal.unreachable-requires
unreachable-requires c =
    let f = c.lemma_form.ensures.some in
    true≢false (sym (c.requires f.0 f.1) ∙ c.in-None.ensures {u = tt} f.0 f.1)
