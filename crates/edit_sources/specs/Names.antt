-- Valid crate names in an index, and their files (Cargo reference, "Registries", index format).
use Rattle.std.specs.Prelude.{ℕ, List, [], ◌∷◌, ◌++◌, Bool, codes, length, nat_le, ◌==◌, ◌||◌, ◌&&◌}
use Rattle.std.specs.List.{list_all}
use Rattle.std.specs.Str.{str_to_ascii_lowercase}

-- an ASCII letter or digit, `-` or `_` (Cargo reference, "The Manifest Format", name)
abbrev pub is_name_byte : ℕ → Bool
is_name_byte b =
    (nat_le 65 b && nat_le b 90)
    || ((nat_le 97 b && nat_le b 122) || ((nat_le 48 b && nat_le b 57) || ((b == 45) || (b == 95))))

-- a valid crate name in an index: 1 to 64 of these bytes (own; 64 is the limit of the default registry)
abbrev pub is_crate_name : List ℕ → Bool
is_crate_name name = nat_le 1 (length name) && (nat_le (length name) 64 && list_all is_name_byte name)

-- the folders of a crate's file, for a name in lower case: `1`, `2`, `3` and its first letter, or its first
-- two letters and the next two (Cargo reference, "Registries", index files)
abbrev pub folders : List ℕ → List ℕ
folders [] = []
folders (a ∷ []) = codes "1/"
folders (a ∷ b ∷ []) = codes "2/"
folders (a ∷ b ∷ c ∷ []) = 51 ∷ 47 ∷ a ∷ 47 ∷ []
folders (a ∷ b ∷ c ∷ d ∷ rest) = a ∷ b ∷ 47 ∷ c ∷ d ∷ 47 ∷ []

-- the path of a crate's file in an index: its folders and its name, in lower case (Cargo reference,
-- "Registries", index files)
abbrev pub layout : List ℕ → List ℕ
layout name = folders (str_to_ascii_lowercase name) ++ str_to_ascii_lowercase name
