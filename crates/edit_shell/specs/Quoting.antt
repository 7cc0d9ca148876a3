-- Text for a shell, and how a shell reads it (POSIX, "Shell Command Language", Quoting).
use Rattle.std.specs.Prelude.{ℕ, List, [], ◌∷◌, ◌++◌, Bool, ◌==◌, ◌&&◌, ◌||◌, not, nat_le, length, if◌then◌else◌}
use Rattle.std.specs.List.{flat_map, list_all}

-- a byte within single quotes: a single quote is written as `'\''`
abbrev pub escape_of : ℕ → List ℕ
escape_of b = if b == 39 then 39 ∷ 92 ∷ 39 ∷ 39 ∷ [] else b ∷ []

-- a value in single quotes
abbrev pub quoted : List ℕ → List ℕ
quoted value = 39 ∷ (flat_map escape_of value ++ 39 ∷ [])

-- an argument after a space
abbrev pub argument_text : List ℕ → List ℕ
argument_text argument = 32 ∷ quoted argument

-- the line of an assignment
abbrev pub assignment_text : List ℕ → List ℕ → List ℕ
assignment_text name value = name ++ 61 ∷ (quoted value ++ 10 ∷ [])

-- a byte that stands for itself outside of quotes (POSIX, "Shell Command Language", Quoting): a letter, a
-- digit, or one of `%+,-./:=@_`
abbrev pub is_plain : ℕ → Bool
is_plain b =
    (nat_le 97 b && nat_le b 122) || (nat_le 65 b && nat_le b 90) || (nat_le 48 b && nat_le b 57)
    || (b == 37) || (b == 43) || (b == 44) || (b == 45) || (b == 46) || (b == 47) || (b == 58) || (b == 61)
    || (b == 64) || (b == 95)

-- whether a shell reads a text as one argument without quotes
abbrev pub is_plain_word : List ℕ → Bool
is_plain_word word = not (length word == 0) && list_all is_plain word

-- an argument as people write it: in single quotes only where it needs them
abbrev pub word_text : List ℕ → List ℕ
word_text word = if is_plain_word word then word else quoted word
