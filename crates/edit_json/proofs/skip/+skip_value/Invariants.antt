use Rattle.std.specs.Prelude.{⊤}
use Rattle.std.proofs.Common.{length, ◌≡◌, ℕ, ◌+◌, ◌*◌, ◌≤◌}
use Rattle.json.specs.Json.{items, value, parse_map}
use Rattle.serde_json.specs.Data.{Items}
use Rattle.serde_json.specs.Read.{of_items, converted}
use Rattle.edit_json.proofs.MemberLoop.{HasRead}
use Rattle.edit_json.proofs.RefusedLemmas.{LeavesItems, LeavesMembers}
use Rattle.edit_json.proofs.skip.+skip_value.Given as goal

abbrev pub decreases-skip_value : goal.decreases-skip_value
decreases-skip_value l = 2 * l.depth

abbrev pub decreases-skip_items : goal.decreases-skip_items
decreases-skip_items l = 2 * l.depth + 1

abbrev pub decreases-skip_members : goal.decreases-skip_members
decreases-skip_members l = 2 * l.depth + 1

abbrev pub invariant-skip_items-loop-reader : goal.invariant-skip_items-loop-reader
invariant-skip_items-loop-reader l =
    (n : ℕ) × (length l.reader ≤ n) × (f : Items → Items)
    × (converted of_items (items (value l.depth) (length l.initial.reader) l.initial.reader) ≡ parse_map f (converted of_items (items (value l.depth) n l.reader)))
    × (length l.reader ≤ length l.initial.reader) × LeavesItems l.depth l.initial.reader l.reader

abbrev pub decreases-skip_items-loop-reader : goal.decreases-skip_items-loop-reader
decreases-skip_items-loop-reader l = length l.reader

abbrev pub invariant-skip_members-loop-reader : goal.invariant-skip_members-loop-reader
invariant-skip_members-loop-reader l =
    HasRead l.depth (λ ms. ⊤) l.initial.reader l.reader × LeavesMembers l.depth l.initial.reader l.reader

abbrev pub decreases-skip_members-loop-reader : goal.decreases-skip_members-loop-reader
decreases-skip_members-loop-reader l = length l.reader
