-- Names of files in a diff as git writes them (git's documentation: config, core.quotePath; diff, "Generating
-- patch text with -p"). `patch` and `git apply` read them back.
use Rattle.std.specs.Prelude.{ℕ, ◌/◌, ◌%◌, ◌+◌, List, [], ◌∷◌, ◌++◌, Bool, not, ◌&&◌, ◌||◌, ◌==◌, Option, Some, None, codes, if◌then◌else◌, nat_le}
use Rattle.std.specs.List.{flat_map, list_all, list_any}
use Rattle.std.specs.Option.{option_map_or}

-- whether a byte needs no escape: printable ASCII other than `"` and `\` (git, core.quotePath)
abbrev pub is_plain : ℕ → Bool
is_plain b = nat_le 32 b && nat_le b 126 && not ((b == 34) || (b == 92))

-- the letter that escapes a byte after a backslash, where there is one (C, "Character constants")
abbrev pub letter_of : ℕ → Option ℕ
letter_of b =
    if b == 7 then Some 97
    else if b == 8 then Some 98
    else if b == 9 then Some 116
    else if b == 10 then Some 110
    else if b == 11 then Some 118
    else if b == 12 then Some 102
    else if b == 13 then Some 114
    else if (b == 34) || (b == 92) then Some b
    else None

-- a byte as three octal digits (C, "Character constants")
abbrev pub octal_digits : ℕ → List ℕ
octal_digits b = (48 + b / 64) ∷ (48 + b / 8 % 8) ∷ (48 + b % 8) ∷ []

-- a byte as it is written in double quotes (git, core.quotePath)
abbrev pub escape_of : ℕ → List ℕ
escape_of b =
    if is_plain b then b ∷ []
    else 92 ∷ option_map_or (λ letter. letter ∷ []) (letter_of b) (octal_digits b)

-- a name after `a/` or `b/`: in double quotes where one of its bytes needs an escape (git, core.quotePath)
abbrev pub quoted_name : List ℕ → List ℕ → List ℕ
quoted_name side path =
    if list_all is_plain path then side ++ path
    else 34 ∷ (side ++ (flat_map escape_of path ++ codes "\""))

-- the tab that ends a name with a space, so that the space does not end it (git, diff)
abbrev pub name_end : List ℕ → List ℕ
name_end path = if list_any (λ b. b == 32) path then codes "\t" else []

-- a name on a line of its own, after `a/` or `b/`
abbrev pub name_text : List ℕ → List ℕ → List ℕ
name_text side path = quoted_name side path ++ (name_end path ++ codes "\n")
