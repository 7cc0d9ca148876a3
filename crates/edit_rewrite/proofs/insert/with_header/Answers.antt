use Rattle.std.proofs.Common.{ℕ, List, ap, ◌∙◌}
use Rattle.std.proofs.lemmas.Result.{IfOk-weaker}
use Rattle.edit_rewrite.specs.declared.locate.Entry.{Entry}
use Rattle.edit_tree.specs.EditBytes.{put_before, with_splice}
use Rattle.edit_rewrite.specs.StatementOffsets.{section_text}
use Rattle.edit_rewrite.proofs.insert.with_header.Goals as goal

pub returns-clause-text : goal.returns-clause-text
returns-clause-text c place s suffix h e f =
    IfOk-weaker c.with_section.result _ _
    (λ t is. is ∙ ap (λ (l : List ℕ). with_splice c.args.text.now
    (put_before s.line (section_text l c.args.pair.now)))
    (c.name_of.ensures place s suffix h e f))
    (c.with_section.ensures.text s.line h.line (ap (λ (x : Entry). x.line) e))
