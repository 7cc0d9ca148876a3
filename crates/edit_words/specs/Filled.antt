-- Arguments with the default values of options that stand without one.
use Rattle.std.specs.Prelude.{ℕ, Bool, false, List, [], ◌∷◌, ◌++◌, ◌==◌, ◌-◌, ◌&&◌, ◌||◌, Option, Some, None, codes, if◌then◌else◌, length, nat_le, slice_get, slice_index, slice_range}
use Rattle.std.specs.List.{list_all, list_any}
use Rattle.std.specs.Option.{option_map_or}
use Rattle.std.specs.Str.{bytes_eq}
use Rattle.clap.specs.Words.{Text}

-- the values of what may be upgraded: allowed, or ignored
abbrev pub statuses : List Text
statuses = codes "allow" ∷ codes "true" ∷ codes "ignore" ∷ codes "false" ∷ []

-- the options that have such a value
abbrev pub status_options : List Text
status_options = codes "--compatible" ∷ codes "-i" ∷ codes "--incompatible" ∷ codes "--pinned" ∷ []

-- whether a text is one of these
abbrev pub is_one : List Text → Text → Bool
is_one texts text = list_any (λ other. bytes_eq text other) texts

-- whether a byte is the letter of a flag of `upgrade`: `n`, `q` or `v` (own)
abbrev pub is_flag_letter : ℕ → Bool
is_flag_letter byte = (byte == 110) || ((byte == 113) || (byte == 118))

-- whether an argument has flags of one letter and then `-i` behind one `-`, as `-ni` (POSIX.1-2017, Base
-- Definitions, "12.2 Utility Syntax Guidelines", guideline 5)
abbrev pub is_group : Text → Bool
is_group arg =
    let n = length arg in
    nat_le 3 n && ((slice_index arg 0 == 45) && ((slice_index arg (n - 1) == 105)
    && list_all is_flag_letter (slice_range arg 1 (n - 1))))

-- the values of an option that may stand without one; the first of them is the one that it then has
abbrev pub values_behind : Text → List Text
values_behind arg =
    if is_one status_options arg || is_group arg then statuses
    else (if bytes_eq arg (codes "--recursive") then codes "true" ∷ codes "false" ∷ [] else [])

-- the value that such an option gets where the next argument is none of its values
abbrev pub missing_value : List Text → Option Text → Option Text
missing_value values next =
    if option_map_or (is_one values) next false then None else slice_get values 0

-- the value, where there is one
abbrev pub option_list : Option Text → List Text
option_list None = []
option_list (Some value) = value ∷ []

-- what is added behind an argument before this next one: behind an argument `--` nothing
abbrev pub inserted_values : Bool → Text → Option Text → List Text
inserted_values ended arg next =
    if ended then [] else option_list (missing_value (values_behind arg) next)

-- the arguments, with a value behind each option that stands without one, before an argument `--`
unfoldable pub insert_defaults : List Text → List Text
insert_defaults [] = []
insert_defaults (arg ∷ rest) =
    let ended = bytes_eq arg (codes "--") in
    arg ∷ inserted_values ended arg (slice_get rest 0) ++ (if ended then rest else insert_defaults rest)
