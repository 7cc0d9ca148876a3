use Rattle.std.proofs.Common.{◌≡◌, [], map, take, string_bytes}
use Rattle.edit_record.specs.RecordViews.{texts_view}
use Rattle.edit_update.proofs.EachOnce.{HoldsThese, join_all}
use Rattle.edit_update.proofs.joined_features.remove_duplicates.Given as goal

-- the texts so far, one after the other, and a set that has them
abbrev pub invariant-texts : goal.invariant-texts
invariant-texts l =
    (texts_view l.once ≡ join_all [] (map string_bytes (take l.text-index l.texts)))
    × HoldsThese l.seen (texts_view l.once)
