-- The escapes of TOML 1.0.0 ("String"), as examples.
use Rattle.std.proofs.Common.{◌≡◌, List, [], ◌∷◌, refl}
use Rattle.std.specs.Prelude.{codes}
use Rattle.edit_syntax.specs.Characters.{quote}
use Rattle.edit_syntax.specs.Strings.{Piece, letter, short, long, pieces, decoded_pieces}

-- "String": each escape, as it is spelled and as what it says
abbrev pub every_escape : List Piece
every_escape = letter 98 ∷
    (letter 116 ∷ (letter 110 ∷
    (letter 102 ∷ (letter 114 ∷
    (letter 34 ∷ (letter 92 ∷ (short (codes "00E9") ∷ (long (codes "0001F600") ∷ []))))))))

pub every_escape_spelled : pieces quote every_escape [] ≡ codes "\\b\\t\\n\\f\\r\\\"\\\\\\u00E9\\U0001F600"
every_escape_spelled = refl

pub every_escape_says : decoded_pieces quote every_escape
    ≡ 8 ∷ (9 ∷ (10 ∷ (12 ∷ (13 ∷ (34 ∷ (92 ∷ (195 ∷ (169 ∷ (240 ∷ (159 ∷ (152 ∷ (128 ∷ []))))))))))))
unfolding lib.Utf8.encode
every_escape_says = refl
