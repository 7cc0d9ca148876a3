-- Texts as they are written to a terminal.
use Rattle.std.specs.Prelude.{◌≡◌, ◌<◌, ℕ, List, ◌++◌, Bool, Option, true, ◌&&◌, ◌||◌, ◌==◌, codes, if◌then◌else◌, length, nat_le}
use Rattle.std.specs.Char.{is_control}
use Rattle.std.specs.Fmt.{radix_digits}
use Rattle.std.specs.Io.KnownBytes.{Appends}
use Rattle.std.specs.List.{flat_map}
use Rattle.std.specs.Prelude.{encode_utf8, encode_utf8_all}
use Rattle.std.specs.Str.{all_scalars}

-- whether a code point is in a range, its bounds included
abbrev pub is_within : ℕ → ℕ → ℕ → Bool
is_within first last c = nat_le first c && nat_le c last

-- whether a character changes the direction of text
abbrev pub is_directional : ℕ → Bool
is_directional c =
    (c == 0x61C) || is_within 0x200E 0x200F c || is_within 0x202A 0x202E c || is_within 0x2066 0x2069 c

-- whether a terminal would interpret a character instead of showing it: a control character other than tab
-- and line end, one that changes the direction of text, and the separators of lines and paragraphs
abbrev pub is_active : ℕ → Bool
is_active c =
    if (c == 9) || (c == 10) then Bool.false
    else is_control c || is_within 0x2028 0x2029 c || is_directional c

-- the code point of a character in hexadecimal digits, as `\u{1b}`
abbrev pub code_escape : ℕ → List ℕ
code_escape c = codes "\\u{" ++ radix_digits 16 Bool.false c ++ codes "}"

-- the escape of a character, as `char::escape_debug` has it
abbrev pub escape : ℕ → List ℕ
escape c = if c == 0 then codes "\\0" else (if c == 13 then codes "\\r" else code_escape c)

-- a character as it is written to a terminal
abbrev pub terminal_char : ℕ → List ℕ
terminal_char c =
    if is_active c then escape c else encode_utf8 c

-- characters as they are written to a terminal
abbrev pub terminal_chars : List ℕ → List ℕ
terminal_chars cs = flat_map terminal_char cs

-- a stream has the complete characters of some bytes, as they are written to a terminal, and `rest` of the
-- bytes begin a character that is still incomplete
unfoldable pub HasEscaped : Option (List ℕ) → Option (List ℕ) → List ℕ → List ℕ → Type 0
HasEscaped old new bytes rest =
    (cs : List ℕ) × (all_scalars cs ≡ true) × (bytes ≡ encode_utf8_all cs ++ rest) × (length rest < 4)
    × Appends old new (terminal_chars cs)
