-- The syntax trees ("forms") of values, statements, lines and texts: how they are written, and when they are
-- well formed (TOML 1.0.0, "Spec" to "Array of Tables", and inline tables as in TOML 1.1.0). A text is in the
-- grammar if some well-formed syntax tree is written as that text.
use Rattle.std.specs.Prelude.{◌≡◌, ℕ, Bool, true, false, List, [], ◌∷◌, Option, Some, None, ⊤}
use Rattle.std.specs.List.{AllByRecursion}
use Rattle.edit_syntax.specs.Characters.{quote, hash, apostrophe, comma, equals, left_bracket, right_bracket, left_brace, right_brace, is_blank, is_comment_byte, is_literal_ch, All}
use Rattle.edit_syntax.specs.Strings.{◌·◌, LineEnd, line_end, Piece, pieces, basic_text, literal_text, IsBasicPiece, IsMultiPiece, IsRawPiece, RunsFit, FoldsAreWhole, Key, key, IsKey}
use Rattle.edit_syntax.specs.Numbers.{Integer, integer_text, IsInteger, Float, float_text, IsFloat, DateTime, datetime_text, IsDateTime}

-- what may separate the values of an array or the pairs of an inline table: a tab or a space, a newline, or a
-- comment and its newline ("Array"; TOML 1.1.0, "Inline Table")
pub data Between : Type 0 where
  blank : ℕ → Between
  break : LineEnd → Between
  remark : List ℕ → LineEnd → Between

-- the text of a gap, before the text that follows
abbrev pub gap : List Between → List ℕ → List ℕ
gap [] rest = rest
gap (blank b ∷ more) rest = b ∷ gap more rest
gap (break e ∷ more) rest = line_end e (gap more rest)
gap (remark text e ∷ more) rest = hash ∷ (text · line_end e (gap more rest))

-- a blank is a tab or a space, and a comment has no control character but tab
abbrev pub IsBetween : Between → Type 0
IsBetween (blank b) = is_blank b ≡ true
IsBetween (break e) = ⊤
IsBetween (remark text e) = All is_comment_byte text

-- each part of a gap is well formed
abbrev pub IsGap : List Between → Type 0
IsGap g = AllByRecursion IsBetween g

mutual
  -- a value: a string, a boolean, a number, a date or time, an array or an inline table ("Key/Value Pair")
  pub data Value : Type 0 where
    basic : List Piece → Value
    literal : List ℕ → Value
    multi_basic : List Piece → Value
    multi_literal : List Piece → Value
    boolean : Bool → Value
    integer : Integer → Value
    float : Float → Value
    datetime : DateTime → Value
    -- an array, with the gap after its opening bracket
    array : List Between → Elements → Value
    -- an inline table, with the gap after its opening brace
    inline : List Between → Members → Value

  -- The elements of an array up to its closing bracket: each a value and the gap after it, with a comma and
  -- the gap after that between two elements ("Array").
  pub data Elements : Type 0 where
    no_elements : Elements
    last_element : Value → List Between → Elements
    element : Value → List Between → List Between → Elements → Elements

  -- The pairs of an inline table up to its closing brace: each a key, the white space before and after its
  -- equals sign, a value and the gap after it, with a comma and the gap after that between two pairs (TOML
  -- 1.1.0, "Inline Table").
  pub data Members : Type 0 where
    no_members : Members
    last_member : Key → List ℕ → List ℕ → Value → List Between → Members
    member : Key → List ℕ → List ℕ → Value → List Between → List Between → Members → Members

-- `true` or `false` ("Boolean")
abbrev pub boolean_text : Bool → List ℕ → List ℕ
boolean_text true rest = 116 ∷ (114 ∷ (117 ∷ (101 ∷ rest)))
boolean_text false rest = 102 ∷ (97 ∷ (108 ∷ (115 ∷ (101 ∷ rest))))

-- a delimiter three times, before the text that follows
abbrev pub three : ℕ → List ℕ → List ℕ
three delimiter_byte rest = delimiter_byte ∷ (delimiter_byte ∷ (delimiter_byte ∷ rest))

abbrev mutual
  -- the text of a value, before the text that follows
  pub value : Value → List ℕ → List ℕ
  value (basic ps) rest = basic_text ps rest
  value (literal text) rest = literal_text text rest
  value (multi_basic ps) rest = three quote (pieces quote ps (three quote rest))
  value (multi_literal ps) rest = three apostrophe (pieces apostrophe ps (three apostrophe rest))
  value (boolean b) rest = boolean_text b rest
  value (integer n) rest = integer_text n rest
  value (float f) rest = float_text f rest
  value (datetime d) rest = datetime_text d rest
  value (array g es) rest = left_bracket ∷ gap g (elements es (right_bracket ∷ rest))
  value (inline g ms) rest = left_brace ∷ gap g (members ms (right_brace ∷ rest))

  -- the text of elements, before the text that follows
  pub elements : Elements → List ℕ → List ℕ
  elements no_elements rest = rest
  elements (last_element v g) rest = value v (gap g rest)
  elements (element v g h es) rest = value v (gap g (comma ∷ gap h (elements es rest)))

  -- the text of members, before the text that follows
  pub members : Members → List ℕ → List ℕ
  members no_members rest = rest
  members (last_member k a b v c) rest = key k (a · equals ∷ (b · value v (gap c rest)))
  members (member k a b v c d ms) rest =
      key k (a · equals ∷ (b · value v (gap c (comma ∷ gap d (members ms rest)))))

abbrev mutual
  -- the value is well formed
  pub IsValue : Value → Type 0
  IsValue (basic ps) = AllByRecursion IsBasicPiece ps
  IsValue (literal text) = All is_literal_ch text
  IsValue (multi_basic ps) = AllByRecursion IsMultiPiece ps × RunsFit 2 ps × FoldsAreWhole ps
  IsValue (multi_literal ps) = AllByRecursion IsRawPiece ps × RunsFit 2 ps
  IsValue (boolean b) = ⊤
  IsValue (integer n) = IsInteger n
  IsValue (float f) = IsFloat f
  IsValue (datetime d) = IsDateTime d
  IsValue (array g es) = IsGap g × AreElements es
  IsValue (inline g ms) = IsGap g × AreMembers ms

  -- each element is well formed; a comma may follow the last one
  pub AreElements : Elements → Type 0
  AreElements no_elements = ⊤
  AreElements (last_element v g) = IsValue v × IsGap g
  AreElements (element v g h es) = IsValue v × IsGap g × IsGap h × AreElements es

  -- each member is well formed; a comma may follow the last one, and a key, its equals sign and the start of
  -- its value are on one line
  pub AreMembers : Members → Type 0
  AreMembers no_members = ⊤
  AreMembers (last_member k a b v c) = IsKey k × All is_blank a × All is_blank b × IsValue v × IsGap c
  AreMembers (member k a b v c d ms) =
      IsKey k × All is_blank a × All is_blank b × IsValue v × IsGap c × IsGap d × AreMembers ms

-- ---- lines

-- a statement: a key/value pair, a header `[key]` or a header `[[key]]` ("Key/Value Pair", "Table", "Array of
-- Tables")
pub data Statement : Type 0 where
  pair : Key → List ℕ → List ℕ → Value → Statement
  header : List ℕ → Key → List ℕ → Statement
  element_header : List ℕ → Key → List ℕ → Statement

-- the text of a statement, before the text that follows
abbrev pub statement : Statement → List ℕ → List ℕ
statement (pair k a b v) rest = key k (a · equals ∷ (b · value v rest))
statement (header a k b) rest = left_bracket ∷ (a · key k (b · right_bracket ∷ rest))
statement (element_header a k b) rest =
    left_bracket ∷ (left_bracket ∷ (a · key k (b · right_bracket ∷ (right_bracket ∷ rest))))

-- the statement is well formed
abbrev pub IsStatement : Statement → Type 0
IsStatement (pair k a b v) = IsKey k × All is_blank a × All is_blank b × IsValue v
IsStatement (header a k b) = All is_blank a × IsKey k × All is_blank b
IsStatement (element_header a k b) = All is_blank a × IsKey k × All is_blank b

-- the text of an optional comment, before the text that follows ("Comment")
abbrev pub comment : Option (List ℕ) → List ℕ → List ℕ
comment None rest = rest
comment (Some text) rest = hash ∷ (text · rest)

-- a comment has no control character but tab ("Comment")
abbrev pub IsComment : Option (List ℕ) → Type 0
IsComment None = ⊤
IsComment (Some text) = All is_comment_byte text

-- a line: white space, an optional statement with white space after it, and an optional comment
pub data Line : Type 0 where
  empty_line : List ℕ → Option (List ℕ) → Line
  full_line : List ℕ → Statement → List ℕ → Option (List ℕ) → Line

-- the text of a line, before the text that follows
abbrev pub line : Line → List ℕ → List ℕ
line (empty_line a c) rest = a · comment c rest
line (full_line a s b c) rest = a · statement s (b · comment c rest)

-- the line is well formed
abbrev pub IsLine : Line → Type 0
IsLine (empty_line a c) = All is_blank a × IsComment c
IsLine (full_line a s b c) = All is_blank a × IsStatement s × All is_blank b × IsComment c

-- lines with a newline between each two
pub data Lines : Type 0 where
  one_line : Line → Lines
  more_lines : Line → LineEnd → Lines → Lines

-- the text of lines
abbrev pub lines : Lines → List ℕ
lines (one_line l) = line l []
lines (more_lines l e ls) = line l (line_end e (lines ls))

-- each line is well formed
abbrev pub AreLines : Lines → Type 0
AreLines (one_line l) = IsLine l
AreLines (more_lines l e ls) = IsLine l × AreLines ls

-- a text: an optional byte order mark, U+FEFF, and lines
pub record Text : Type 0 where
  pub has_byte_order_mark : Bool
  pub lines : Lines

-- an optional byte order mark, before the text that follows
abbrev pub byte_order_mark : Bool → List ℕ → List ℕ
byte_order_mark true rest = 0xEF ∷ (0xBB ∷ (0xBF ∷ rest))
byte_order_mark false rest = rest

-- the bytes of a text
abbrev pub text : Text → List ℕ
text t = byte_order_mark t.has_byte_order_mark (lines t.lines)

-- the bytes are in the grammar, with this syntax tree
pub record Spells (bytes : List ℕ) (form : Text) : Type 0 where
  pub spelled : bytes ≡ text form
  pub well_formed : AreLines form.lines
