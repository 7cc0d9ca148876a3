-- Newlines, strings and keys: their parts, how these are written, when they are well formed, and their
-- decoded values (TOML 1.0.0, "Spec", "String" and "Keys"). The definition of a text takes the text that
-- follows, so that a sequence reads from left to right.
use Rattle.std.specs.Prelude.{◌≡◌, ℕ, zero, suc, ◌<◌, Bool, true, false, ◌&&◌, ◌||◌, ◌==◌, nat_lt, nat_le, if◌then◌else◌, List, [], ◌∷◌, ◌++◌, length, ⊤, encode_utf8}
use Rattle.std.specs.List.{AllByRecursion, flat_map}
use Rattle.std.specs.Char.{is_digit}
use Rattle.std.specs.Str.Parse.{digits_value}
use Rattle.edit_syntax.specs.Characters.{line_feed, carriage_return, quote, apostrophe, backslash, is_blank, is_bare, is_literal_ch, is_basic_ch, All}

infixr 20 ◌·◌
-- two texts joined
abbrev pub ◌·◌ : List ℕ → List ℕ → List ℕ
a · b = a ++ b

-- ---- line ends: LF, or CR LF

-- a newline: LF, or CR LF (TOML 1.0.0, "Spec")
pub data LineEnd : Type 0 where
  lf : LineEnd
  crlf : LineEnd

-- the text of a newline, before the text that follows
abbrev pub line_end : LineEnd → List ℕ → List ℕ
line_end lf rest = line_feed ∷ rest
line_end crlf rest = carriage_return ∷ (line_feed ∷ rest)

-- ---- pieces of strings

-- a tab, a space or a newline after the backslash of a line fold ("String", multi-line basic strings)
pub data Space : Type 0 where
  blank : ℕ → Space
  break : LineEnd → Space

-- the text of the white space of a line fold, before the text that follows
abbrev pub spaces : List Space → List ℕ → List ℕ
spaces [] rest = rest
spaces (blank b ∷ more) rest = b ∷ spaces more rest
spaces (break e ∷ more) rest = line_end e (spaces more rest)

-- a blank is a tab or a space
abbrev pub IsSpace : Space → Type 0
IsSpace (blank b) = is_blank b ≡ true
IsSpace (break e) = ⊤

-- a piece of a string between its delimiters ("String")
pub data Piece : Type 0 where
  -- a byte that needs no escape
  plain : ℕ → Piece
  -- an escape: a backslash and a letter; `\u` and four or `\U` and eight hexadecimal digits
  letter : ℕ → Piece
  short : List ℕ → Piece
  long : List ℕ → Piece
  -- of multi-line strings: a newline, a line fold (a backslash, white space, a newline, and more white space
  -- and newlines), and a delimiter that is part of the string
  feed : LineEnd → Piece
  fold : List ℕ → LineEnd → List Space → Piece
  delimiter : Piece

-- the text of a piece in a string with this delimiter, before the text that follows
abbrev pub piece : ℕ → Piece → List ℕ → List ℕ
piece delimiter_byte (plain b) rest = b ∷ rest
piece delimiter_byte (letter c) rest = backslash ∷ (c ∷ rest)
piece delimiter_byte (short digits) rest = backslash ∷ (117 ∷ (digits · rest))
piece delimiter_byte (long digits) rest = backslash ∷ (85 ∷ (digits · rest))
piece delimiter_byte (feed e) rest = line_end e rest
piece delimiter_byte (fold ws e more) rest = backslash ∷ (ws · line_end e (spaces more rest))
piece delimiter_byte delimiter rest = delimiter_byte ∷ rest

-- the text of pieces in a string with this delimiter, before the text that follows
abbrev pub pieces : ℕ → List Piece → List ℕ → List ℕ
pieces delimiter_byte [] rest = rest
pieces delimiter_byte (p ∷ ps) rest = piece delimiter_byte p (pieces delimiter_byte ps rest)

-- the letters that may follow a backslash: b t n f r " \ ("String", compact escapes)
abbrev pub is_escape : ℕ → Bool
is_escape c = c == 98 || c == 116 || c == 110 || c == 102 || c == 114 || c == quote || c == backslash

-- a Unicode scalar value: not a surrogate ("String")
abbrev pub is_scalar : ℕ → Bool
is_scalar c = nat_lt c 0xD800 || (nat_le 0xE000 c && nat_le c 0x10_FFFF)

-- a hexadecimal digit
abbrev pub is_hex : ℕ → Bool
is_hex c = is_digit c 16

-- n hexadecimal digits of a Unicode scalar value ("String", `\u` and `\U`)
abbrev pub IsScalarCode : ℕ → List ℕ → Type 0
IsScalarCode n digits = (length digits ≡ n) × All is_hex digits × (is_scalar (digits_value 16 digits) ≡ true)

-- a piece of a basic string on one line
abbrev pub IsBasicPiece : Piece → Type 0
IsBasicPiece (plain b) = is_basic_ch b ≡ true
IsBasicPiece (letter c) = is_escape c ≡ true
IsBasicPiece (short digits) = IsScalarCode 4 digits
IsBasicPiece (long digits) = IsScalarCode 8 digits
IsBasicPiece (feed e) = ⊥
IsBasicPiece (fold ws e more) = ⊥
IsBasicPiece delimiter = ⊥

-- a piece of a multi-line basic string
abbrev pub IsMultiPiece : Piece → Type 0
IsMultiPiece (plain b) = is_basic_ch b ≡ true
IsMultiPiece (letter c) = is_escape c ≡ true
IsMultiPiece (short digits) = IsScalarCode 4 digits
IsMultiPiece (long digits) = IsScalarCode 8 digits
IsMultiPiece (feed e) = ⊤
IsMultiPiece (fold ws e more) = All is_blank ws × AllByRecursion IsSpace more
IsMultiPiece delimiter = ⊤

-- a piece of a multi-line literal string
abbrev pub IsRawPiece : Piece → Type 0
IsRawPiece (plain b) = is_literal_ch b ≡ true
IsRawPiece (letter c) = ⊥
IsRawPiece (short digits) = ⊥
IsRawPiece (long digits) = ⊥
IsRawPiece (feed e) = ⊤
IsRawPiece (fold ws e more) = ⊥
IsRawPiece delimiter = ⊤

-- at most two delimiters follow one another, and at most n come first ("String", multi-line strings)
abbrev pub RunsFit : ℕ → List Piece → Type 0
RunsFit n [] = ⊤
RunsFit zero (delimiter ∷ ps) = ⊥
RunsFit (suc n) (delimiter ∷ ps) = RunsFit n ps
RunsFit n (plain b ∷ ps) = RunsFit 2 ps
RunsFit n (letter c ∷ ps) = RunsFit 2 ps
RunsFit n (short digits ∷ ps) = RunsFit 2 ps
RunsFit n (long digits ∷ ps) = RunsFit 2 ps
RunsFit n (feed e ∷ ps) = RunsFit 2 ps
RunsFit n (fold ws e more ∷ ps) = RunsFit 2 ps

-- the next piece is white space or a newline
abbrev pub begins_with_space : List Piece → Bool
begins_with_space (plain b ∷ ps) = is_blank b
begins_with_space (feed e ∷ ps) = true
begins_with_space _ = false

-- a line fold is followed by neither white space nor a newline: it includes them all ("String")
abbrev pub FoldsAreWhole : List Piece → Type 0
FoldsAreWhole [] = ⊤
FoldsAreWhole (fold ws e more ∷ ps) = (begins_with_space ps ≡ false) × FoldsAreWhole ps
FoldsAreWhole (_ ∷ ps) = FoldsAreWhole ps

-- ---- decoded values of strings

-- the character that an escape letter stands for ("String")
abbrev pub letter_value : ℕ → ℕ
letter_value c = if c == 98 then 8 else (if c == 116
    then 9 else (if c == 110 then 10 else (if c == 102 then 12 else (if c == 114 then 13 else c))))

-- the decoded value of a piece in a string with this delimiter
abbrev pub decoded_piece : ℕ → Piece → List ℕ
decoded_piece delimiter_byte (plain b) = b ∷ []
decoded_piece delimiter_byte (letter c) = letter_value c ∷ []
decoded_piece delimiter_byte (short digits) = encode_utf8 (digits_value 16 digits)
decoded_piece delimiter_byte (long digits) = encode_utf8 (digits_value 16 digits)
decoded_piece delimiter_byte (feed e) = line_end e []
decoded_piece delimiter_byte (fold ws e more) = []
decoded_piece delimiter_byte delimiter = delimiter_byte ∷ []

-- the decoded value of the pieces of a string
abbrev pub decoded_pieces : ℕ → List Piece → List ℕ
decoded_pieces delimiter_byte ps = flat_map (decoded_piece delimiter_byte) ps

-- the decoded value of a multi-line string, which leaves out a newline right behind the opening delimiter
-- ("String")
abbrev pub decoded_multi : ℕ → List Piece → List ℕ
decoded_multi delimiter_byte (feed e ∷ ps) = decoded_pieces delimiter_byte ps
decoded_multi delimiter_byte ps = decoded_pieces delimiter_byte ps

-- ---- keys

-- a part of a key: bare, or a basic or literal string ("Keys")
pub data Part : Type 0 where
  bare : List ℕ → Part
  basic_part : List Piece → Part
  literal_part : List ℕ → Part

-- the text of a basic string, before the text that follows
abbrev pub basic_text : List Piece → List ℕ → List ℕ
basic_text ps rest = quote ∷ pieces quote ps (quote ∷ rest)

-- the text of a literal string, before the text that follows
abbrev pub literal_text : List ℕ → List ℕ → List ℕ
literal_text text rest = apostrophe ∷ (text · apostrophe ∷ rest)

-- the text of a part of a key, before the text that follows
abbrev pub part : Part → List ℕ → List ℕ
part (bare text) rest = text · rest
part (basic_part ps) rest = basic_text ps rest
part (literal_part text) rest = literal_text text rest

-- a part of a key is well formed: a bare one is not empty and has bare characters only, a quoted one is a
-- string
abbrev pub IsPart : Part → Type 0
IsPart (bare text) = (0 < length text) × All is_bare text
IsPart (basic_part ps) = AllByRecursion IsBasicPiece ps
IsPart (literal_part text) = All is_literal_ch text

-- the decoded name of a part of a key
abbrev pub name : Part → List ℕ
name (bare text) = text
name (basic_part ps) = decoded_pieces quote ps
name (literal_part text) = text

-- a part of a key that follows a dot, with the white space before and after the dot ("Keys", dotted keys)
pub record Dotted : Type 0 where
  pub before : List ℕ
  pub behind : List ℕ
  pub part : Part

-- a key: its first part, and the parts that follow a dot
pub record Key : Type 0 where
  pub first : Part
  pub others : List Dotted

-- the text of the parts that follow a dot, before the text that follows
abbrev pub dotted : List Dotted → List ℕ → List ℕ
dotted [] rest = rest
dotted (d ∷ ds) rest = d.before · 46 ∷ (d.behind · part d.part (dotted ds rest))

-- the text of a key, before the text that follows
abbrev pub key : Key → List ℕ → List ℕ
key k rest = part k.first (dotted k.others rest)

-- a key is well formed: each part is, and only white space is around the dots
abbrev pub IsKey : Key → Type 0
IsKey k = IsPart k.first × AllByRecursion (λ d. All is_blank d.before × All is_blank d.behind
    × IsPart d.part) k.others
