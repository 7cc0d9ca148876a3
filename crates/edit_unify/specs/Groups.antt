-- Groups of rows that are together: what these have in common, and a map with the best row of each.
use Rattle.std.specs.Prelude.{ℕ, List, Option, option_and_then, option_map}
use Rattle.std.specs.BTreeMap.{BTreeMap, get_by}
use Rattle.std.specs.Cmp.Lexicographic.{slice_cmp}
use Rattle.std.specs.Option.{option_cmp}
use Rattle.std.specs.Ordering.{nat_cmp, ordering_then}
use Rattle.std.specs.declared.cmp.Ordering.{Ordering}
use Rattle.edit_version.specs.Levels.{CrateBounds}
use Rattle.edit_unify.specs.Ranges.{Caret, kept_minor, numbers_of, range_of}
use Rattle.edit_unify.specs.Stands.{Required, stand_view}
use Rattle.edit_unify.specs.Unified.{unless_same}
use Rattle.edit_unify.specs.declared.groups.Group.{Group}
use Rattle.edit_unify.specs.declared.groups.RegistryCrate.{RegistryCrate}
use Rattle.edit_unify.specs.declared.stands.Stand.{Stand}

-- a crate, by its name and the address of its registry
abbrev pub CrateAt : Type 0
CrateAt = List ℕ × List ℕ

-- the crate that a row requires
abbrev pub crate_of : Required → CrateAt
crate_of own = (own.name, own.address)

-- a crate of the program's type (own)
abbrev pub crate_view : RegistryCrate → CrateAt
crate_view k = (k.name.now, k.address.now)

-- the order of crates in a map (own)
abbrev pub crate_cmp : CrateAt → CrateAt → Ordering
crate_cmp a b = ordering_then (slice_cmp nat_cmp a.0 b.0) (slice_cmp nat_cmp a.1 b.1)

-- a crate, the numbers of a compatible range, and the minor number that a level keeps
abbrev pub Shared : Type 0
Shared = CrateAt × Caret × ℕ

-- what a row has in common with those that are together with it
abbrev pub group_of : CrateBounds → Required → Shared
group_of level own = (crate_of own, range_of own.caret, kept_minor (level own.name) own.caret)

-- a group of the program's type (own)
abbrev pub group_view : Group → Shared
group_view g = (crate_view g.krate, numbers_of g.range, g.minor)

-- the order of groups in a map (own)
abbrev pub group_cmp : Shared → Shared → Ordering
group_cmp a b = ordering_then (crate_cmp a.0 b.0) (ordering_then (caret_cmp a.1 b.1) (nat_cmp a.2 b.2))
  where
    caret_cmp : Caret → Caret → Ordering
    caret_cmp x y =
        ordering_then (nat_cmp x.0 y.0)
        (ordering_then (option_cmp nat_cmp x.1 y.1) (option_cmp nat_cmp x.2 y.2))

-- the row that a map has for the group of a row
abbrev pub best_of : CrateBounds → BTreeMap Group Stand → Required → Option Required
best_of level leaders own =
    option_map stand_view (get_by (λ g. group_cmp (group_of level own) (group_view g)) leaders)

-- the text that a row takes from the best row of its group; none where it keeps its own
abbrev pub text_from : CrateBounds → BTreeMap Group Stand → Option Required → Option (List ℕ)
text_from level leaders own =
    option_and_then (λ o. option_and_then (λ best. unless_same o.text best.text)
    (best_of level leaders o)) own
