use Rattle.std.proofs.Common.{◌<◌, length, map, arith}
use Rattle.std.proofs.lemmas.Bool.Decides.{nat_tests}
use Rattle.std.proofs.lemmas.List.{length-map}
use Rattle.std.proofs.lemmas.List.Elements.{All-map}
use Rattle.edit_version.specs.IndexEntry.{entry_of, IndexEntry}
use Rattle.edit_answers.specs.Bodies.{IsSameName}
use Rattle.edit_answers.proofs.BodyLemmas.{All-unmap}
use Rattle.edit_answers.proofs.bodies.are_named.Goals as goal

pub returns-then-not-is_empty : goal.returns-then-not-is_empty
returns-then-not-is_empty c =
    let same = length-map c.args.entries.now entry_of in
    let some : 0 < length (map entry_of c.args.entries.now) = grind (arith, nat_tests) in (
      λ holds. record {
        some = some;
        all = All-map (λ (e : IndexEntry). IsSameName e.name c.args.name.now) entry_of c.args.entries.now
            (c.all_named.ensures.0 holds);
      },
      λ named. c.all_named.ensures.1 (All-unmap (λ
          (e : IndexEntry). IsSameName e.name c.args.name.now) entry_of c.args.entries.now named.all),
    )
