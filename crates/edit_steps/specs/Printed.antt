-- What is printed of an error beside its message.
use Rattle.std.specs.Prelude.{ℕ, ◌+◌, List, [], ◌∷◌, ◌++◌, Bool, ◌&&◌, ◌==◌, Option, Some, None, codes, decimal, if◌then◌else◌, length, min, nat_le, option_map, string_bytes, take}
use Rattle.std.specs.Io.KnownBytes.{Appends}
use Rattle.std.specs.List.{fold}
use Rattle.edit_steps.specs.declared.run_error.RunError.{RunError}

-- a line about an error, where its text is known
abbrev pub known_line : List ℕ → Option (List ℕ) → List ℕ
known_line name None = []
known_line name (Some text) = codes "  " ++ (name ++ (text ++ 10 ∷ []))

-- the lines of an error that are known: its place, its cause, the help
abbrev pub known_lines : RunError → List ℕ
known_lines failure =
    known_line (codes "at ") (option_map string_bytes failure.place)
    ++ (known_line (codes "cause: ") (option_map string_bytes failure.cause)
    ++ known_line (codes "help: ") (option_map string_bytes failure.help))

-- the first line of an error: its message after `Error: `
abbrev pub title_line : List ℕ → List ℕ
title_line message = codes "Error: " ++ (message ++ 10 ∷ [])

-- the first line of an error was appended; its message is not specified
pub record IsTitlePrinted (old new : Option (List ℕ)) : Type 0 where
  pub message : List ℕ
  pub appends : Appends old new (title_line message)

-- the text of an error was appended: its first line, whose message is not specified, and the lines that are
-- known
pub record IsErrorPrinted (failure : RunError) (old new : Option (List ℕ)) : Type 0 where
  pub message : List ℕ
  pub appends : Appends old new (title_line message ++ known_lines failure)

-- whether a byte continues a UTF-8 sequence, so that it begins no character (RFC 3629, section 3)
abbrev pub is_continuation_byte : ℕ → Bool
is_continuation_byte b = nat_le 0x80 b && nat_le b 0xBF

-- line and column after one more byte: a line end begins the next line, and a character counts as one
-- column, whatever its length in bytes
abbrev pub advance_position : ℕ × ℕ → ℕ → ℕ × ℕ
advance_position place b =
    if b == 10 then (place.0 + 1, 1)
    else if is_continuation_byte b then place
    else (place.0, place.1 + 1)

-- the line and the column of the end of some bytes, each from 1
abbrev pub position_after : List ℕ → ℕ × ℕ
position_after before = fold advance_position (1, 1) before

-- the place of the byte at this offset: path, line and column
abbrev pub position_text : List ℕ → List ℕ → ℕ → List ℕ
position_text path bytes at =
    let place = position_after (take (min at (length bytes)) bytes) in
    path ++ (codes ":" ++ (decimal place.0 ++ (codes ":" ++ decimal place.1)))
