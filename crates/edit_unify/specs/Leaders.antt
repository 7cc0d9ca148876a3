-- The row whose requirement the others take that are together with it.
use Rattle.std.specs.Prelude.{◌&&◌, List, Bool, true, Option, Some, None, if◌then◌else◌}
use Rattle.std.specs.List.{fold}
use Rattle.edit_version.specs.Levels.{CrateBounds}
use Rattle.edit_unify.specs.Ranges.{is_higher}
use Rattle.edit_unify.specs.Stands.{Required, is_together}

-- a requirement is together with the first, and its floor is higher than the best one's, if there is one
abbrev pub is_better : CrateBounds → Required → Option Required → Required → Bool
is_better level own best other = is_together level own other && exceeds best other
  where
    exceeds : Option Required → Required → Bool
    exceeds None other = true
    exceeds (Some best) other = is_higher other.caret best.caret

-- the best one so far, after one more row
abbrev pub better : CrateBounds → Required → Option Required → Option Required → Option Required
better level own best None = best
better level own best (Some other) = if is_better level own best other then Some other else best

-- of the rows that are together with a requirement the first one with the highest floor
abbrev pub leader : CrateBounds → Required → List (Option Required) → Option Required
leader level own stands = fold (better level own) None stands
