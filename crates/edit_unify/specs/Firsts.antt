-- The first row of each crate: a crate is required in two ranges where a row has another one than the first.
use Rattle.std.specs.Prelude.{◌&&◌, List, Bool, false, not, Option, Some, None, if◌then◌else◌, option_and_then, option_map, ℕ}
use Rattle.std.specs.BTreeMap.{BTreeMap, get_by}
use Rattle.std.specs.List.{fold}
use Rattle.std.specs.Option.{option_map_or}
use Rattle.std.specs.Str.{bytes_eq}
use Rattle.edit_unify.specs.Groups.{CrateAt, crate_cmp, crate_of, crate_view}
use Rattle.edit_unify.specs.Ranges.{Caret, is_same_range, numbers_of}
use Rattle.edit_unify.specs.Stands.{Required}
use Rattle.edit_unify.specs.declared.groups.RegistryCrate.{RegistryCrate}
use Rattle.edit_unify.specs.declared.ranges.Numbers.{Numbers}

-- a row requires this crate
abbrev pub is_of : CrateAt → Required → Bool
is_of krate row = bytes_eq krate.0 row.name && bytes_eq krate.1 row.address

-- the numbers of the first row of a crate so far, after one more row
abbrev pub first_or : CrateAt → Option Caret → Option Required → Option Caret
first_or krate None (Some row) = if is_of krate row then Some row.caret else None
first_or krate first row = first

-- the numbers of the first row of a crate
abbrev pub first_caret : List (Option Required) → CrateAt → Option Caret
first_caret stands krate = fold (first_or krate) None stands

-- the numbers that a map has for a crate
abbrev pub caret_for : BTreeMap RegistryCrate Numbers → CrateAt → Option Caret
caret_for firsts krate = option_map numbers_of (get_by (λ k. crate_cmp krate (crate_view k)) firsts)

-- a row has another range than the first row of its crate
abbrev pub is_other : (CrateAt → Option Caret) → Required → Bool
is_other first own = option_map_or (λ caret. not (is_same_range caret own.caret)) (first (crate_of own)) false

-- the name of a row that has another range than the first row of its crate
abbrev pub other_name : (CrateAt → Option Caret) → Option Required → Option (List ℕ)
other_name first own = option_and_then (λ o. if is_other first o then Some o.name else None) own
