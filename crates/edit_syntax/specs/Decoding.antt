-- The content of the token of a string or of a part of a key, and its decoded value (TOML 1.0.0, "Keys" and
-- "String").
use Rattle.std.specs.Prelude.{◌≡◌, ℕ, ◌<◌, Bool, false, ◌&&◌, ◌||◌, ◌==◌, if◌then◌else◌, List, [], ◌∷◌, ◌++◌, length, drop, slice_index, ⊤}
use Rattle.std.specs.List.{AllByRecursion}
use Rattle.edit_syntax.specs.declared.read.syntax_tokens.TokenKind.{TokenKind}
use Rattle.edit_syntax.specs.declared.read.syntax_tokens.TokenKind.TheVariants.{BarePart, BasicPart, LiteralPart, BasicString, LiteralString, MultiBasicString, MultiLiteralString, Integer, Float, DateTime}
use Rattle.edit_syntax.specs.Characters.{line_feed, carriage_return, quote, apostrophe, is_blank, is_bare, is_literal_ch, is_ascii, All}
use Rattle.edit_syntax.specs.Strings.{Piece, letter, short, long, fold, pieces, IsBasicPiece, IsMultiPiece, IsRawPiece, FoldsAreWhole, decoded_pieces, decoded_multi}
use Rattle.edit_syntax.specs.ReadingSteps.{first}

-- the delimiter of a token of this kind; empty where the kind has none
abbrev pub delimiter : TokenKind → List ℕ
delimiter BasicPart = quote ∷ []
delimiter LiteralPart = apostrophe ∷ []
delimiter BasicString = quote ∷ []
delimiter LiteralString = apostrophe ∷ []
delimiter MultiBasicString = quote ∷ (quote ∷ (quote ∷ []))
delimiter MultiLiteralString = apostrophe ∷ (apostrophe ∷ (apostrophe ∷ []))
delimiter _ = []

-- a token of this kind with its delimiters around this content, before the text that follows
abbrev pub delimited : TokenKind → List ℕ → List ℕ → List ℕ
delimited kind content rest = delimiter kind ++ (content ++ (delimiter kind ++ rest))

-- the piece is an escape of a character
abbrev pub IsEscape : Piece → Type 0
IsEscape (letter c) = ⊤
IsEscape (short digits) = ⊤
IsEscape (long digits) = ⊤
IsEscape _ = ⊥

-- the piece begins with a backslash: it is an escape or a line fold
abbrev pub BeginsWithBackslash : Piece → Type 0
BeginsWithBackslash (letter c) = ⊤
BeginsWithBackslash (short digits) = ⊤
BeginsWithBackslash (long digits) = ⊤
BeginsWithBackslash (fold ws e more) = ⊤
BeginsWithBackslash _ = ⊥

-- a tab, a space, LF or CR, which may follow the backslash of a line fold
abbrev pub is_spacing : ℕ → Bool
is_spacing b = is_blank b || b == line_feed || b == carriage_return

-- a line fold ends before this byte
abbrev pub IsFoldEnd : Piece → ℕ → Type 0
IsFoldEnd (fold ws e more) b = is_spacing b ≡ false
IsFoldEnd _ b = ⊤

-- the content of a basic string, and its decoded value
abbrev pub HasBasicValue : List ℕ → List ℕ → Type 0
HasBasicValue content said = (ps : List Piece) × AllByRecursion IsBasicPiece ps
    × (content ≡ pieces quote ps []) × (said ≡ decoded_pieces quote ps)

-- the content of a string that may span lines, and its decoded value; a newline at its start is part of the
-- value
abbrev pub HasLineValue : List ℕ → List ℕ → Type 0
HasLineValue content said = (ps : List Piece) × AllByRecursion IsMultiPiece ps × FoldsAreWhole ps
    × (content ≡ pieces quote ps []) × (said ≡ decoded_pieces quote ps)

-- the content without a newline at its start
abbrev pub past_break : List ℕ → List ℕ
past_break text =
    if first text == line_feed then drop 1 text
    else (if first text == carriage_return && slice_index text 1 == line_feed then drop 2 text else text)

-- the content of a multi-line basic string, and its decoded value, which leaves out a newline at the start
-- ("String")
abbrev pub HasMultiValue : List ℕ → List ℕ → Type 0
HasMultiValue content said = (ps : List Piece) × AllByRecursion IsMultiPiece ps × FoldsAreWhole ps
    × (content ≡ pieces quote ps []) × (said ≡ decoded_multi quote ps)

-- the content of a multi-line literal string, and its decoded value, which leaves out a newline at the start
-- ("String")
abbrev pub HasRawValue : List ℕ → List ℕ → Type 0
HasRawValue content said = (ps : List Piece) × AllByRecursion IsRawPiece ps
    × (content ≡ pieces apostrophe ps []) × (said ≡ decoded_multi apostrophe ps)

-- the content of a number, a date or a time: ASCII bytes that are their own decoded value
abbrev pub HasPlainValue : List ℕ → List ℕ → Type 0
HasPlainValue content said = (0 < length content) × All is_ascii content × (said ≡ content)

-- the content of a token of this kind, and its decoded value
abbrev pub HasDecodedValue : TokenKind → List ℕ → List ℕ → Type 0
HasDecodedValue BarePart content said = (0 < length content) × All is_bare content × (said ≡ content)
HasDecodedValue BasicPart content said = HasBasicValue content said
HasDecodedValue LiteralPart content said = All is_literal_ch content × (said ≡ content)
HasDecodedValue BasicString content said = HasBasicValue content said
HasDecodedValue LiteralString content said = All is_literal_ch content × (said ≡ content)
HasDecodedValue Integer content said = HasPlainValue content said
HasDecodedValue Float content said = HasPlainValue content said
HasDecodedValue DateTime content said = HasPlainValue content said
HasDecodedValue MultiBasicString content said = HasMultiValue content said
HasDecodedValue MultiLiteralString content said = HasRawValue content said
HasDecodedValue _ content said = ⊥

-- a kind of token that has no line break in it: each but the strings over several lines ("String")
abbrev pub IsOneLine : TokenKind → Type 0
IsOneLine MultiBasicString = ⊥
IsOneLine MultiLiteralString = ⊥
IsOneLine _ = ⊤
