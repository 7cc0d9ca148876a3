-- What is escaped is read back.
use Rattle.std.proofs.Common.{arith, refl}
use Rattle.std.proofs.lemmas.List.Elements.{All-from_get_or}
use Rattle.percent_encoding.proofs.PercentLemmas.{round_trip, IsByte}
use Rattle.edit_sources.proofs.index_dir.folder.escape_address.Goals as goal

pub returns-clause-back : goal.returns-clause-back
returns-clause-back c =
    let small = All-from_get_or IsByte c.args.address.now 0 (λ i within. omega (arith, c.type_inv.address i)) in
    rw (c.in_ok-append_to.ensures.ok, c.new-folder.ensures.bytes, c.utf8_percent_encode.ensures.text)
    (round_trip _ _ refl small)
