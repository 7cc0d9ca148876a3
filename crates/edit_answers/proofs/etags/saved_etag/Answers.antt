use Rattle.std.proofs.Common.{Some, lit<, sym, ◌∙◌, subst}
use Rattle.std.specs.Str.{IsUtf8}
use Rattle.edit_lookups.specs.Lookups.{HasNo}
use Rattle.edit_lookups.proofs.CutLemmas.{cut-whole, cut-first, cut-none}
use Rattle.edit_answers.specs.Etags.{IsSavedEtag}
use Rattle.edit_answers.specs.Etags.IsSavedEtag.{first, no_line, not_utf8}
use Rattle.edit_answers.proofs.etags.saved_etag.Goals as goal

pub returns-in_default : goal.returns-in_default
returns-in_default c = not_utf8 c.args.text.now c.in_default.ensures.cases.0

pub returns-in-Some : goal.returns-in-Some
returns-in-Some c =
    let cut = sym c.in-Ok.ensures.cases.0 ∙ cut-whole 10 _ _ _ c.in-Some.ensures.cases (lit< tt) in
    subst (λ t. IsSavedEtag (Some t) c.in-Some.etag.now) (sym cut)
    (first c.in-Some.etag.now c.in-Some.field-0-1.now (subst IsUtf8 cut c.in-Ok.ensures.cases.1)
    (cut-first 10 _ _ _ c.in-Some.ensures.cases (lit< tt)))

pub returns-in-None : goal.returns-in-None
returns-in-None c =
    no_line c.args.text.now
    (subst (HasNo 10) c.in-Ok.ensures.cases.0 (cut-none 10 _ c.in-None.ensures.cases (lit< tt)))
