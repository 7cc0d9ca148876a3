-- The crates that rows require in more than one compatible range.
use Rattle.std.specs.Prelude.{◌≡◌, ◌&&◌, ℕ, List, [], ◌∷◌, Bool, false, not, Option, None, String, if◌then◌else◌, map, option_and_then, string_bytes, string_cmp}
use Rattle.std.specs.List.{filter_map, list_any}
use Rattle.std.specs.List.Sorted.{IsStrictlySortedBy}
use Rattle.std.specs.Option.{option_map_or}
use Rattle.std.specs.Str.{bytes_eq}
use Rattle.std.specs.declared.alloc.Global.{Global}
use Rattle.std.specs.Prelude.{Some}
use Rattle.edit_unify.specs.Ranges.{is_same_range}
use Rattle.edit_unify.specs.Stands.{Required, is_same_crate}

-- two rows require one crate of one registry in two compatible ranges
abbrev pub is_apart_from : Required → Option Required → Bool
is_apart_from a other =
    option_map_or (λ b. is_same_crate a b && not (is_same_range a.caret b.caret)) other false

-- one of the rows requires the crate of this one in another compatible range
abbrev pub is_apart : Required → List (Option Required) → Bool
is_apart own stands = list_any (is_apart_from own) stands

-- the name of a row whose crate another one requires in another compatible range
abbrev pub apart_name : List (Option Required) → Option Required → Option (List ℕ)
apart_name stands own = option_and_then (λ o. if is_apart o stands then Some o.name else None) own

-- the names of the crates that rows require in more than one compatible range, in the order of the rows
abbrev pub apart_names : List (Option Required) → List (List ℕ)
apart_names stands = filter_map (apart_name stands) stands

-- the names, sorted by bytes, without duplicates
pub record AreNames (names : List (List ℕ)) (result : List (String Global)) : Type 0 where
  pub ordered : IsStrictlySortedBy string_cmp result
  pub each : (name : List ℕ) → list_any (bytes_eq name) (map string_bytes result)
      ≡ list_any (bytes_eq name) names
