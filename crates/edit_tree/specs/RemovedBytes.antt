-- The text after an item is removed.
use Rattle.std.specs.Prelude.{ℕ, suc, Bool, true, false, not, ◌&&◌, if◌then◌else◌, List, [], ◌∷◌, ◌++◌, Option, Some, None}
use Rattle.edit_syntax.specs.Characters.{comma, equals, left_bracket, right_bracket, left_brace, right_brace, is_blank}
use Rattle.edit_syntax.specs.Strings.{◌·◌, key}
use Rattle.edit_syntax.specs.Grammar.{gap, Value, array, inline, value, Elements, no_elements, last_element, element, Members, no_members, last_member, member, members, lines, Text, text, byte_order_mark}
use Rattle.edit_tree.specs.Assertions.{Place, index, same_place, at, names, named, place_named}
use Rattle.edit_tree.specs.Statements.{PlacedStatement, placed_statements}
use Rattle.edit_tree.specs.Written.{PlacedValue, values}
use Rattle.edit_tree.specs.EditBytes.{before, with_splice, last_result, is_within}

-- ---- lines

-- the statement names the place or one below it, so that it is removed
abbrev pub is_removed_statement : Place → PlacedStatement → Bool
is_removed_statement gone s = is_within gone (place_named s.earlier s.prefix s.statement)

-- What is left of lines from here on. A removed statement takes with it the blank and comment lines before
-- it, and its own lines with their newline.
abbrev pub lines_left : Place → List ℕ → List PlacedStatement → List ℕ
lines_left gone from [] = from
lines_left gone from (s ∷ ss) =
    if is_removed_statement gone s then lines_left gone s.next ss else before from s.next
    ++ lines_left gone s.next ss

-- ---- arrays and inline tables

-- the text that is left from a member on, and whether the comma before that member stays
pub record Left : Type 0 where
  pub comma_stays : Bool
  pub rest : List ℕ

-- the text is left with a comma before it
abbrev pub left_with_comma : List ℕ → Left
left_with_comma rest = record { comma_stays = true; rest = rest }

-- the text is left without a comma before it
abbrev pub left_without_comma : List ℕ → Left
left_without_comma rest = record { comma_stays = false; rest = rest }

-- a text without the tabs and spaces at its start
abbrev pub without_blanks : List ℕ → List ℕ
without_blanks [] = []
without_blanks (b ∷ rest) = if is_blank b then without_blanks rest else b ∷ rest

-- the text behind a member that stays: a comma and the gap after it, unless that comma is removed
abbrev pub behind_comma : (List ℕ → List ℕ) → Left → List ℕ
behind_comma lead l = if l.comma_stays then comma ∷ lead l.rest else l.rest

-- The text in the place of a removed member. The comma behind it and the tabs and spaces after that are
-- removed too; where no comma follows, the comma before it is removed and the gap behind it stays.
abbrev pub without_member : (List ℕ → List ℕ) → (List ℕ → List ℕ) → Left → Left
without_member trail lead l =
    if l.comma_stays then left_with_comma (without_blanks (lead l.rest))
    else left_without_comma (trail l.rest)

-- the elements of an array from an index on, without the one at a place
abbrev pub elements_left : Place → Place → ℕ → Elements → List ℕ → Left
elements_left gone place i no_elements rest = left_with_comma rest
elements_left gone place i (last_element v g) rest =
    if same_place (at place (index i)) gone then left_without_comma (gap g rest)
    else left_with_comma (value v (gap g rest))
elements_left gone place i (element v g h es) rest =
    let l = elements_left gone place (suc i) es rest in
    if same_place (at place (index i)) gone then without_member (gap g) (gap h) l
    else left_with_comma (value v (gap g (behind_comma (gap h) l)))

-- the members of an inline table, without those that name a place or one below it
abbrev pub members_left : Place → Place → Members → List ℕ → Left
members_left gone place no_members rest = left_with_comma rest
members_left gone place (last_member k a b v c) rest =
    if is_within gone (named place (names k)) then left_without_comma (gap c rest)
    else left_with_comma (members (last_member k a b v c) rest)
members_left gone place (member k a b v c d ms) rest =
    let l = members_left gone place ms rest in
    if is_within gone (named place (names k)) then without_member (gap c) (gap d) l
    else left_with_comma (key k (a · equals ∷ (b · value v (gap c (behind_comma (gap d) l)))))

-- the text of an array or an inline table without what is at or below a place
abbrev pub value_left : Place → Place → Value → List ℕ → List ℕ
value_left gone place (array g es) rest =
    left_bracket ∷ gap g (elements_left gone place 0 es (right_bracket ∷ rest)).rest
value_left gone place (inline g ms) rest =
    left_brace ∷ gap g (members_left gone place ms (right_brace ∷ rest)).rest
value_left gone place v rest = value v rest

-- ---- texts

-- the place lies below a value, which thus is an array or an inline table
abbrev pub is_around : Place → PlacedValue → Bool
is_around gone w = is_within w.place gone && not (same_place w.place gone)

-- the innermost array or inline table around the place
abbrev pub innermost : Place → Text → Option PlacedValue
innermost gone t = last_result (λ w. if is_around gone w then Some w else None) (values t)

-- the text without the item at a place: members of the innermost array or inline table around it are removed,
-- or else whole lines; U+FEFF stays
abbrev pub removed_text : Place → Text → List ℕ
removed_text gone t = without (innermost gone t)
  where
    without : Option PlacedValue → List ℕ
    without (Some w) =
        let now = value_left gone w.place w.value [] in
        with_splice (text t) (record { from = value w.value w.after; to = w.after; now = now })
    without None = byte_order_mark t.has_byte_order_mark
        (lines_left gone (lines t.lines) (placed_statements t))
