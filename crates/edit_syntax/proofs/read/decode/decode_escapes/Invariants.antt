use Rattle.std.proofs.Common.{◌≡◌, List, [], ◌+◌, ◌≤◌, length, string_bytes}
use denote.Text.{Utf8}
use denote.Shadow.{shadow}
use Rattle.edit_syntax.specs.Characters.{quote}
use Rattle.edit_syntax.specs.Strings.{Piece, pieces}
use Rattle.edit_syntax.proofs.Escapes.{Left}
use Rattle.edit_syntax.proofs.EscapeRuns.{AreLine}
use Rattle.edit_syntax.proofs.read.decode.decode_escapes.Given as goal

-- what is left says what is missing, and there are turns enough
abbrev pub invariant-pieces : goal.invariant-pieces
invariant-pieces l = shadow (Utf8 l.rest) × (length l.rest + l._piece ≤ length l.content)
    × ((ps : List Piece) → AreLine ps → l.content ≡ pieces quote ps [] → Left ps l.rest (string_bytes l.out))
