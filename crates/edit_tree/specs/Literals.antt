-- The string literal of a text: how new strings are written (TOML 1.0.0, "String", basic strings).
use Rattle.std.specs.Prelude.{ℕ, Bool, ◌+◌, ◌/◌, ◌%◌, ◌||◌, ◌==◌, nat_lt, if◌then◌else◌, List, [], ◌∷◌, map}
use Rattle.edit_syntax.specs.Characters.{quote, backslash}
use Rattle.edit_syntax.specs.Strings.{Piece, plain, letter, short, piece, pieces}
use Rattle.edit_syntax.specs.Grammar.{Value, basic, value}

-- the code of an upper-case hexadecimal digit
abbrev pub hex_digit : ℕ → ℕ
hex_digit d = if nat_lt d 10 then 48 + d else 55 + d

-- how a byte is written: `\"`, `\\`, `\b`, `\t`, `\n`, `\f`, `\r`;
-- other control characters as `\u` and four digits; all else as it is
abbrev pub literal_piece : ℕ → Piece
literal_piece b =
    if b == quote || b == backslash then letter b
    else (if b == 8 then letter 98
    else (if b == 9 then letter 116
    else (if b == 10 then letter 110
    else (if b == 12 then letter 102
    else (if b == 13 then letter 114
    else (if nat_lt b 32 || b == 127 then short (48 ∷ 48 ∷ hex_digit (b / 16) ∷ hex_digit (b % 16) ∷ [])
    else plain b))))))

-- the string literal of a text
abbrev pub literal_of : List ℕ → Value
literal_of said = basic (map literal_piece said)

-- the bytes of the string literal of a text
abbrev pub literal_bytes : List ℕ → List ℕ
literal_bytes said = value (literal_of said) []

-- the bytes of a character in a literal
abbrev pub escaped_byte : ℕ → List ℕ
escaped_byte b = piece quote (literal_piece b) []

-- the bytes of a string literal between its quotes
abbrev pub literal_body : List ℕ → List ℕ
literal_body said = pieces quote (map literal_piece said) []

-- the byte is escaped in a string literal
abbrev pub is_escaped : ℕ → Bool
is_escaped b = nat_lt b 32 || b == 127 || b == quote || b == backslash
