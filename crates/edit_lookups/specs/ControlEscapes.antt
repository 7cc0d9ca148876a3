-- Escaping of control characters for messages (own).
use Rattle.std.specs.Prelude.{ℕ, List, ◌++◌, Bool, codes, encode_utf8, if◌then◌else◌}
use Rattle.std.specs.Char.{is_control}
use Rattle.std.specs.Fmt.{radix_digits}
use Rattle.std.specs.List.{flat_map}
use Rattle.std.specs.Str.{chars}

-- a character; a control character as its code point in hex digits
abbrev pub escaped_char : ℕ → List ℕ
escaped_char c =
    if is_control c then codes "\\u{" ++ radix_digits 16 Bool.false c ++ codes "}" else encode_utf8 c

-- a text with each control character escaped
abbrev pub escape_controls : List ℕ → List ℕ
escape_controls text = flat_map escaped_char (chars text)
