use Rattle.std.proofs.Common.{sym, subst}
use Rattle.std.proofs.lemmas.Result.{IfOk-weaker}
use Rattle.edit_record.specs.EntryRecords.{key_of}
use Rattle.edit_record.specs.HasRoundTrip.{HasRoundTrip}
use Rattle.edit_record.specs.RecordViews.{record_view}
use Rattle.edit_record.proofs.RoundTrip.{reads-again}
use Rattle.edit_record.proofs.dependency.Dependency.to_toml.Goals as goal

pub returns-clause-round_trip : goal.returns-clause-round_trip
returns-clause-round_trip c =
    let root = c.args.crate_root.now in
    let r = record_view c.args.self.now in
    IfOk-weaker c.new_item.result _ _
    (λ item is plain. subst (HasRoundTrip root (key_of r)) (sym is) (reads-again root r plain))
    c.new_item.ensures.item
