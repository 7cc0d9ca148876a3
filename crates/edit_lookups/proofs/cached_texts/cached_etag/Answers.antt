use Rattle.std.proofs.Common.{◌≡◌, ◌∙◌, ◌∷◌, ◌++◌, drop, ap, sym, subst}
use Rattle.std.specs.Str.{IsUtf8}
use Rattle.edit_lookups.specs.Lookups.{HasNo}
use Rattle.edit_lookups.proofs.CutLemmas.{HasNo-at, first-cut}
use Rattle.edit_lookups.proofs.cached_texts.cached_etag.Goals as goal

pub returns-in_default-first_line : goal.returns-in_default-first_line
returns-in_default-first_line c etag body h =
    let rest : c.in-Some.rest.now ≡ etag ++ 10 ∷ body = c.in-Some.ensures.cases.1 ∙ ap (drop 6) h.is in
    absurd (HasNo-at 10 etag body (subst (HasNo 10) rest c.in_default-first_line.ensures))

pub returns-in-Err : goal.returns-in-Err
returns-in-Err c etag body h =
    let rest : c.in-Some.rest.now ≡ etag ++ 10 ∷ body = c.in-Some.ensures.cases.1 ∙ ap (drop 6) h.is in
    let line = c.in-Some-first_line.ensures in
    let parts = first-cut 10 _ _ etag body line.0 h.valid.one_line (sym line.2 ∙ rest) in
    absurd (c.in-Err.ensures.cases.0 (subst IsUtf8 (sym parts.0) h.valid.utf8))
