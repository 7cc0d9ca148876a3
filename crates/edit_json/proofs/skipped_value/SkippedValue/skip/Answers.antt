use Rattle.std.proofs.Common.{◌-◌, length, subst, sym}
use Rattle.std.proofs.lemmas.Bool.Decides.{Decides-eqb}
use Rattle.std.proofs.lemmas.List.{take_rest}
use Rattle.std.proofs.lemmas.Slice.Eq.{starts_is}
use Rattle.edit_json.specs.SkippedValue.{IsSkippedValue}
use Rattle.edit_json.specs.Taken.{BeginsWithValue}
use Rattle.edit_json.proofs.TakenValueLemmas.{known_again}
use Rattle.edit_json.proofs.skipped_value.SkippedValue.skip.Goals as goal

pub returns-then-starts_with : goal.returns-then-starts_with
returns-then-starts_with c =
    let known = c.args.self.now in
    let bytes = known.bytes.now in
    let t = c.args.text.now in
    let depth = c.args.depth in
    let fits : IsSkippedValue depth bytes = subst (λ d. IsSkippedValue d bytes) c.if-self-depth.true known.local in
    let whole = (starts_is Decides-eqb t bytes c.starts_with.result c.starts_with.ensures.value).0 c.if-starts_with.true in
    record { value = subst (BeginsWithValue depth t) (sym (take_rest t (length bytes - 1))) (known_again depth bytes t fits whole) }
