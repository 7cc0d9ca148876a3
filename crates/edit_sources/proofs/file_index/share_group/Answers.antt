use Rattle.std.proofs.Common.{⊎_elim, arith}
use Rattle.std.specs.Str.{bytes_eq}
use Rattle.std.proofs.lemmas.Bool.{cases_Bool}
use Rattle.std.proofs.lemmas.Map.Text.{text_keys}
use Rattle.edit_sources.proofs.file_index.share_group.Goals as goal

pub returns-in-Some-clause-same : goal.returns-in-Some-clause-same
returns-in-Some-clause-same c = λ q.
    ⊎_elim (λ t. grind (arith, text_keys, t)) (λ f. grind (arith, text_keys, f))
    (cases_Bool (bytes_eq q c.args.name.now))
