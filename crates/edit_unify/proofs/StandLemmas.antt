-- What each row requires, from pairs of rows and addresses.
use Rattle.std.proofs.Common.{◌≡◌, ◌∷◌, [], List, Option, ap, map, option_map, refl, string_bytes}
use Rattle.std.specs.Prelude.{String}
use Rattle.std.specs.List.{zip}
use Rattle.std.specs.declared.alloc.Global.{Global}
use Rattle.edit_report.specs.declared.row.Row.{Row}
use Rattle.edit_unify.specs.Stands.{Required, stand_of, stands_of}

-- what a row beside its address requires
abbrev pub stand_beside : Row × Option (String Global) → Option Required
stand_beside p = stand_of (option_map string_bytes p.1) p.0

-- the rows beside their addresses
pub stands-zip : (rows : List Row) (addresses : List (Option (String Global)))
    → map stand_beside (zip rows addresses)
    ≡ stands_of (map (option_map string_bytes) addresses) rows
stands-zip [] [] = refl
stands-zip [] (a ∷ addresses) = refl
stands-zip (r ∷ rows) [] = refl
stands-zip (r ∷ rows) (a ∷ addresses) =
    ap (λ xs. stand_of (option_map string_bytes a) r ∷ xs) (stands-zip rows addresses)
