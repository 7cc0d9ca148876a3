-- The texts after setting a value, replacing an entry and inserting a member: each changes one range; other
-- bytes stay.
use Rattle.std.specs.Prelude.{ℕ, ◌-◌, Bool, true, false, not, ◌&&◌, ◌==◌, if◌then◌else◌, List, [], ◌∷◌, ◌++◌, length, take, Option, Some, None, is_some, option_map, unwrap_or, codes}
use Rattle.std.specs.List.{list_all, list_any, filter}
use Rattle.edit_syntax.specs.Characters.{comma, line_feed, carriage_return, right_brace}
use Rattle.edit_syntax.specs.Strings.{◌·◌, LineEnd, lf, crlf, line_end}
use Rattle.edit_syntax.specs.Grammar.{Between, blank, gap, Value, inline, value, Members, no_members, last_member, member, Statement, pair, lines, Text, text}
use Rattle.edit_tree.specs.Assertions.{Place, same_step, same_place, last_element_or_self, prefix_after, place_named}
use Rattle.edit_tree.specs.NewItems.{NewValue, NewItem, new_value, new_pair, new_entry}
use Rattle.edit_tree.specs.Statements.{PlacedStatement, placed_statements, front_parts, behind_part, PlacedPair, paired_statement, line_pairs, inner_pairs, PlacedHeader, headers}
use Rattle.edit_tree.specs.Written.{PlacedValue, values}

-- ---- replacing a range of a text

-- a replacement of a range of a text, given by the suffixes at its start and its end, by other bytes
pub record Splice : Type 0 where
  pub from : List ℕ
  pub to : List ℕ
  pub now : List ℕ

-- the insertion of bytes before a suffix of the text
abbrev pub put_before : List ℕ → List ℕ → Splice
put_before suffix now = record { from = suffix; to = suffix; now = now }

-- the text before its suffix
abbrev pub before : List ℕ → List ℕ → List ℕ
before bytes suffix = take (length bytes - length suffix) bytes

-- the text after a replacement
abbrev pub with_splice : List ℕ → Splice → List ℕ
with_splice bytes s = before bytes s.from ++ (s.now ++ s.to)

-- the text after an optional replacement
abbrev pub with_any : List ℕ → Option Splice → List ℕ
with_any bytes None = bytes
with_any bytes (Some s) = with_splice bytes s

-- ---- searching lists

-- the first value that is there in a list of options
abbrev pub first_of : {A : Type 0} → List (Option A) → Option A
first_of [] = None
first_of (None ∷ more) = first_of more
first_of (Some x ∷ more) = Some x

-- the first result of a partial function over a list
abbrev pub first_result : {A B : Type 0} → (A → Option B) → List A → Option B
first_result f [] = None
first_result f (x ∷ xs) = first_of (f x ∷ first_result f xs ∷ [])

-- the last result of a partial function over a list
abbrev pub last_result : {A B : Type 0} → (A → Option B) → List A → Option B
last_result f [] = None
last_result f (x ∷ xs) = first_of (last_result f xs ∷ f x ∷ [])

-- the second place is the first one or lies below it
abbrev pub is_within : Place → Place → Bool
is_within [] q = true
is_within (s ∷ ss) [] = false
is_within (s ∷ ss) (t ∷ ts) = same_step s t && is_within ss ts

-- ---- set_value

-- the replacement of the value at the place by the new one
abbrev pub value_set : Place → NewValue → Text → Option Splice
value_set place v t = first_result set (values t)
  where
    set : PlacedValue → Option Splice
    set w =
        if same_place w.place place
        then Some (record { from = value w.value w.after; to = w.after; now = value (new_value v) [] })
        else None

-- the text with the value at a place replaced
abbrev pub set_text : Place → NewValue → Text → List ℕ
set_text place v t = with_any (text t) (value_set place v t)

-- ---- replace_entry

-- parts of a pair's key lead to the place that they name, and not to the last element of an array of tables
abbrev pub unresolved : Place → Place
unresolved place = place

-- the text behind the part of a pair's key that names the place
abbrev pub part_to : Place → PlacedPair → Option (List ℕ)
part_to place p = behind_part unresolved place p.table p.parts

-- the replacement in the pair that names the place: from the end of that part of its key to the end of its
-- value
abbrev pub entry_replaced : Place → NewItem → Text → Option Splice
entry_replaced place item t = first_result replace (line_pairs t ++ inner_pairs t)
  where
    from_to : List ℕ → List ℕ → Splice
    from_to suffix behind = record { from = suffix; to = behind; now = new_entry item [] }

    replace : PlacedPair → Option Splice
    replace p = option_map (λ suffix. from_to suffix p.behind) (part_to place p)

-- the text with the entry at a place replaced
abbrev pub replaced_text : Place → NewItem → Text → List ℕ
replaced_text place item t = with_any (text t) (entry_replaced place item t)

-- the statement is a pair
abbrev pub is_pair : Statement → Bool
is_pair (pair k a b v) = true
is_pair _ = false

-- the statement is a header whose key leads to or through the place
abbrev pub is_header_of : Place → PlacedStatement → Bool
is_header_of place s =
    not (is_pair s.statement) && is_within place (place_named s.earlier s.prefix s.statement)

-- exactly one pair has a key that leads to or through the place, and no header does
abbrev pub is_one_statement : Text → Place → Bool
is_one_statement t place =
    (length (filter (λ p. is_some (part_to place p)) (line_pairs t ++ inner_pairs t)) == 1)
    && not (list_any (is_header_of place) (placed_statements t))

-- ---- insert, by the kind of the table

-- the newline that the text begins with, or LF where there is none
abbrev pub end_like : List ℕ → LineEnd
end_like [] = lf
end_like (b ∷ rest) = if b == carriage_return then crlf else lf

-- The insertion of a line behind the one that ends here. At the end of a text without a newline, LF is put
-- before the new line and none after it.
abbrev pub new_line : List ℕ → List ℕ → Splice
new_line after now = put_before after (line_end (end_like after) now)

-- the text behind the value of the last member, or all of it where there is no member
abbrev pub behind_last : Members → List ℕ → List ℕ
behind_last no_members rest = rest
behind_last (last_member k a b v c) rest = gap c rest
behind_last (member k a b v c d no_members) rest = gap c (comma ∷ gap d rest)
behind_last (member k a b v c d ms) rest = behind_last ms rest

-- the gap has only tabs and spaces: no newline and no comment
abbrev pub is_blank_gap : List Between → Bool
is_blank_gap g = list_all is_blank_between g
  where
    is_blank_between : Between → Bool
    is_blank_between (blank b) = true
    is_blank_between _ = false

-- The insertion into an inline table: `, ` and the member behind the last value. In an empty table, white
-- space between the braces is replaced by the member with a space on each side; before a newline or a
-- comment, a space and the member are inserted.
abbrev pub inline_grown : List ℕ → Value → List ℕ → Option Splice
inline_grown m (inline g no_members) after =
    let close = right_brace ∷ after in
    if is_blank_gap g then Some (record { from = gap g close; to = close; now = codes " " · m · codes " " })
    else Some (put_before (gap g close) (codes " " · m))
inline_grown m (inline g ms) after =
    Some (put_before (behind_last ms (right_brace ∷ after)) (codes ", " · m))
inline_grown m _ after = None

-- the insertion into a table that is an inline table
abbrev pub in_inline : Place → List ℕ → Text → Option Splice
in_inline table m t = first_result grow (values t)
  where
    grow : PlacedValue → Option Splice
    grow w = if same_place w.place table then inline_grown m w.value w.after else None

-- the statement is the header of the table or a pair below it; for the root, a pair before any header
abbrev pub is_own : Place → PlacedStatement → Bool
is_own table s = same_place (prefix_after s.earlier s.prefix s.statement) table

-- the insertion into a table with a header, an element of an array of tables, or the root: behind its last
-- pair or header
abbrev pub in_section : Place → List ℕ → Text → Option Splice
in_section table m t = last_result grow (placed_statements t)
  where
    grow : PlacedStatement → Option Splice
    grow s = if is_own table s then Some (new_line s.after m) else None

-- the text behind the part of a pair's key that names the table, where the key goes on from there
abbrev pub front_to : Place → PlacedPair → Option (List ℕ)
front_to table p = behind_part unresolved table p.table (front_parts p.parts)

-- the key of a pair up to a suffix of the text, a dot, and the member
abbrev pub dotted_pair : PlacedPair → List ℕ → List ℕ → List ℕ
dotted_pair p suffix m = before p.from suffix · codes "." · m

-- the insertion into a table made by dotted keys: a line behind the last pair that passes through it, with
-- the key of that pair up to the table, a dot and the member
abbrev pub in_dotted : Place → List ℕ → Text → Option Splice
in_dotted table m t = last_result grow (placed_statements t)
  where
    line_of : PlacedStatement → PlacedPair → Option Splice
    line_of s p = option_map (λ suffix. new_line s.after (dotted_pair p suffix m)) (front_to table p)

    grow : PlacedStatement → Option Splice
    grow s = first_result (line_of s) (paired_statement s)

-- the insertion into a table made by dotted keys inside an inline table: behind the value of the last pair
-- that passes through it
abbrev pub in_inner_dotted : Place → List ℕ → Text → Option Splice
in_inner_dotted table m t = last_result grow (inner_pairs t)
  where
    grow : PlacedPair → Option Splice
    grow p = option_map (λ suffix. put_before p.behind (codes ", " · dotted_pair p suffix m))
        (front_to table p)

-- the insertion into a table that only headers pass through: its own header and the member, before the line
-- of the first such header
abbrev pub in_super : Place → List ℕ → Text → Option Splice
in_super table m t = first_result grow (headers t)
  where
    section : List ℕ → List ℕ
    section name = codes "[" · name · codes "]" · line_feed ∷ (m · line_feed ∷ [])

    grow : PlacedHeader → Option Splice
    grow h =
        option_map (λ suffix. put_before h.line (section (before h.from suffix)))
        (behind_part (last_element_or_self h.earlier) table [] (front_parts h.parts))

-- the insertion into the root where it has no pair of its own: at the start of the text, behind U+FEFF
abbrev pub at_start : List ℕ → Text → Splice
at_start m t = put_before (lines t.lines) (m · line_feed ∷ [])

-- the insertion of a member into a table: the first rule that applies, by the kind of the table
abbrev pub inserted : Place → List ℕ → NewValue → Text → Splice
inserted table name v t =
    let m = new_pair name v [] in
    let tabled = in_inline table m t ∷ in_section table m t ∷ [] in
    let dotted = in_dotted table m t ∷ in_inner_dotted table m t ∷ [] in
    unwrap_or (first_of (tabled ++ dotted ++ in_super table m t ∷ [])) (at_start m t)

-- the text with a member inserted into the table
abbrev pub inserted_text : Place → List ℕ → NewValue → Text → List ℕ
inserted_text table name v t = with_splice (text t) (inserted table name v t)
