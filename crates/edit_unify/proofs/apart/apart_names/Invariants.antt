use Rattle.std.proofs.Common.{◌≡◌, List, ℕ, map, option_map, take}
use Rattle.std.specs.BTreeSet.{contains_text}
use Rattle.std.specs.List.{filter_map, list_any}
use Rattle.std.specs.Str.{bytes_eq}
use Rattle.edit_unify.specs.Firsts.{caret_for, other_name}
use Rattle.edit_unify.specs.Stands.{stand_view}
use Rattle.edit_unify.proofs.apart.apart_names.Given as goal

-- the names of the rows so far that have another range than the first row of their crate
abbrev pub invariant-stands : goal.invariant-stands
invariant-stands l = (q : List ℕ) → contains_text l.names q
    ≡ list_any (bytes_eq q) (filter_map (other_name (caret_for l.firsts))
    (map (option_map stand_view) (take l.own-index l.own-items)))
