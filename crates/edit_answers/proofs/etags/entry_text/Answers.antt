use Rattle.std.proofs.Common.{[], sym, subst}
use Rattle.edit_answers.specs.Etags.{IsSavedEtag, IsStoredEtag}
use Rattle.edit_answers.specs.Etags.IsSavedEtag.{absent}
use Rattle.edit_answers.proofs.etags.entry_text.Goals as goal

pub returns-in_ok-cached_text-in-Ok-None-clause-text :
    goal.returns-in_ok-cached_text-in-Ok-None-clause-text
returns-in_ok-cached_text-in-Ok-None-clause-text g c t = (
  [],
  subst (λ b. IsStoredEtag b ((g.S.Store.view c.args.files.now).file_at c.args.etag_path.now) [])
      (sym c.if-not-is_direct.false)
      (subst (λ f. IsSavedEtag f []) (rw c.in-Ok-None.field-0-is at (c.in-Ok-None.ensures.bytes t)) absent),
  c.in_ok-cached_text-in-Ok-None.ensures,
)
