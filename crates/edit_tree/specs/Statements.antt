-- The statements of a text, their keys, and the pairs of its inline tables, each with the text around it. A
-- position is given by the suffix of the text that begins there.
use Rattle.std.specs.Prelude.{ℕ, List, [], ◌∷◌, ◌++◌, Option, Some, None, if◌then◌else◌}
use Rattle.std.specs.List.{flat_map}
use Rattle.edit_syntax.specs.Characters.{comma, equals, right_bracket, right_brace}
use Rattle.edit_syntax.specs.Strings.{◌·◌, line_end, name, Dotted, dotted, Key, key}
use Rattle.edit_syntax.specs.Grammar.{gap, Value, inline, value, Members, no_members, last_member, member, members, Statement, pair, header, element_header, statement, empty_line, full_line, comment, Lines, one_line, more_lines, lines, Text}
use Rattle.edit_tree.specs.Assertions.{Place, key as name_step, at, same_place, Assertion, of_statement, prefix_after}
use Rattle.edit_tree.specs.Written.{PlacedValue, values}

-- ---- statements

-- A statement: the header in force and the assertions before it, and the suffixes of the text at the start of
-- its line, behind the statement, at the end of its line, and at the next line.
pub record PlacedStatement : Type 0 where
  pub prefix : Place
  pub earlier : List Assertion
  pub statement : Statement
  pub line : List ℕ
  pub behind : List ℕ
  pub after : List ℕ
  pub next : List ℕ

-- a statement on a line, with the white space before it and the suffixes of the text behind it
abbrev pub stated_line : List Assertion → Place → List ℕ → Statement → List ℕ → List ℕ → List ℕ
    → PlacedStatement
stated_line earlier prefix a s behind after next = record {
  prefix = prefix;
  earlier = earlier;
  statement = s;
  line = a · statement s behind;
  behind = behind;
  after = after;
  next = next;
}

-- the statements of lines, after these assertions and below this header
abbrev pub stated_in : List Assertion → Place → Lines → List PlacedStatement
stated_in earlier prefix (one_line (empty_line a c)) = []
stated_in earlier prefix (one_line (full_line a s b c)) =
    stated_line earlier prefix a s (b · comment c []) [] [] ∷ []
stated_in earlier prefix (more_lines (empty_line a c) e ls) = stated_in earlier prefix ls
stated_in earlier prefix (more_lines (full_line a s b c) e ls) =
    let after = line_end e (lines ls) in
    stated_line earlier prefix a s (b · comment c after) after (lines ls)
    ∷ stated_in (earlier ++ of_statement earlier prefix s) (prefix_after earlier prefix s) ls

-- the statements of a text, in order
abbrev pub placed_statements : Text → List PlacedStatement
placed_statements t = stated_in [] [] t.lines

-- ---- keys

-- a part of a key: its decoded name, and the text behind it
abbrev pub Named : Type 0
Named = List ℕ × List ℕ

-- the parts of a key that follow a dot
abbrev pub dotted_parts : List Dotted → List ℕ → List Named
dotted_parts [] rest = []
dotted_parts (d ∷ ds) rest = (name d.part, dotted ds rest) ∷ dotted_parts ds rest

-- the parts of a key, with this text behind the key ("Keys")
abbrev pub parts : Key → List ℕ → List Named
parts k rest = (name k.first, dotted k.others rest) ∷ dotted_parts k.others rest

-- all parts but the last
abbrev pub front_parts : List Named → List Named
front_parts [] = []
front_parts (n ∷ []) = []
front_parts (n ∷ m ∷ ns) = n ∷ front_parts (m ∷ ns)

-- the text behind the part of a key that names a place; each part continues from where the one before it
-- resolves to
abbrev pub behind_part : (Place → Place) → Place → Place → List Named → Option (List ℕ)
behind_part resolve place table [] = None
behind_part resolve place table (n ∷ ns) =
    let here = resolve (at table (name_step n.0)) in
    if same_place here place then Some n.1 else behind_part resolve place here ns

-- ---- pairs

-- a pair: the table that its key starts from, the suffix of the text at its key, its parts, and the suffix
-- behind its value
pub record PlacedPair : Type 0 where
  pub table : Place
  pub from : List ℕ
  pub parts : List Named
  pub behind : List ℕ

-- a pair with this text behind its value
abbrev pub placed_pair : Place → Key → List ℕ → List ℕ → Value → List ℕ → PlacedPair
placed_pair table k a b v behind =
    let rest = a · equals ∷ (b · value v behind) in
    record { table = table; from = key k rest; parts = parts k rest; behind = behind }

-- the pairs of an inline table ("Inline Table")
abbrev pub paired_members : Place → Members → List ℕ → List PlacedPair
paired_members table no_members rest = []
paired_members table (last_member k a b v c) rest = placed_pair table k a b v (gap c rest) ∷ []
paired_members table (member k a b v c d ms) rest =
    placed_pair table k a b v (gap c (comma ∷ gap d (members ms rest))) ∷ paired_members table ms rest

-- the pairs of a value, where it is an inline table
abbrev pub paired_value : PlacedValue → List PlacedPair
paired_value w = of_value w.value
  where
    of_value : Value → List PlacedPair
    of_value (inline g ms) = paired_members w.place ms (right_brace ∷ w.after)
    of_value v = []

-- the statement as a pair, where it is one
abbrev pub paired_statement : PlacedStatement → List PlacedPair
paired_statement s = of_statement s.statement
  where
    of_statement : Statement → List PlacedPair
    of_statement (pair k a b v) = placed_pair s.prefix k a b v s.behind ∷ []
    of_statement _ = []

-- the pairs of a text that are statements
abbrev pub line_pairs : Text → List PlacedPair
line_pairs t = flat_map paired_statement (placed_statements t)

-- the pairs of a text that are in inline tables
abbrev pub inner_pairs : Text → List PlacedPair
inner_pairs t = flat_map paired_value (values t)

-- ---- headers

-- a header: the assertions before it, the suffixes of the text at its line and at its key, and its parts
pub record PlacedHeader : Type 0 where
  pub earlier : List Assertion
  pub line : List ℕ
  pub from : List ℕ
  pub parts : List Named

-- the statement as a header, where it is one ("Table", "Array of Tables")
abbrev pub headed_statement : PlacedStatement → List PlacedHeader
headed_statement s = of_statement s.statement
  where
    headed : Key → List ℕ → List PlacedHeader
    headed k rest =
        record { earlier = s.earlier; line = s.line; from = key k rest; parts = parts k rest } ∷ []

    of_statement : Statement → List PlacedHeader
    of_statement (pair k a b v) = []
    of_statement (header a k b) = headed k (b · right_bracket ∷ s.behind)
    of_statement (element_header a k b) = headed k (b · right_bracket ∷ (right_bracket ∷ s.behind))

-- the headers of a text
abbrev pub headers : Text → List PlacedHeader
headers t = flat_map headed_statement (placed_statements t)
