-- Examples of edits of inline tables with newlines, comments and a trailing comma (TOML 1.1.0, "Inline
-- Table").
use Rattle.std.proofs.Common.{◌≡◌, ℕ, List, [], ◌∷◌, true, false, None, refl}
use Rattle.std.specs.Prelude.{codes}
use Rattle.edit_syntax.specs.Strings.{Key, bare, lf, crlf}
use Rattle.edit_syntax.specs.Grammar.{Between, blank, break, remark, boolean, inline, Members, no_members, last_member, member, pair, full_line, one_line, Text, text}
use Rattle.edit_tree.specs.Assertions.{key}
use Rattle.edit_tree.specs.NewItems.{a_truth}
use Rattle.edit_tree.specs.EditBytes.{inserted_text}
use Rattle.edit_tree.specs.RemovedBytes.{removed_text}

abbrev name : List ℕ → Key
name text = record { first = bare text; others = [] }

abbrev spaced : List Between
spaced = blank 32 ∷ []

-- a text of one pair, `x = ` and an inline table
abbrev text_of : List Between → Members → Text
text_of g ms =
    let statement = pair (name (codes "x")) (codes " ") (codes " ") (inline g ms) in
    record { has_byte_order_mark = false; lines = one_line (full_line [] statement [] None) }

-- `a = 1` as a member with a comma behind it
abbrev a_member : List Between → List Between → Members → Members
a_member trail lead ms = member (name (codes "a")) (codes " ") (codes " ") (boolean true) trail lead ms

abbrev with_comma : Text
with_comma = text_of spaced (a_member [] spaced no_members)

with_comma_spelled : text with_comma ≡ codes "x = { a = true, }"
with_comma_spelled = refl

-- the comma behind the last member stays behind the new one
pub before_the_last_comma : inserted_text (key (codes "x") ∷ []) (codes "b") (a_truth true) with_comma
    ≡ codes "x = { a = true, b = true, }"
before_the_last_comma = refl

-- the comma goes with the last member
pub the_comma_goes : removed_text (key (codes "x") ∷ key (codes "a") ∷ []) with_comma ≡ codes "x = { }"
the_comma_goes = refl

abbrev commented : Text
commented = text_of (blank 32 ∷ remark (codes " c") lf ∷ []) no_members

commented_spelled : text commented ≡ codes "x = { # c\n}"
commented_spelled = refl

-- without members, but with a comment: a space and the member stand behind the brace
pub before_a_comment : inserted_text (key (codes "x") ∷ []) (codes "b") (a_truth true) commented
    ≡ codes "x = { b = true # c\n}"
before_a_comment = refl

abbrev broken : Text
broken = text_of (break crlf ∷ []) no_members

-- the same with a newline alone
pub before_a_newline : inserted_text (key (codes "x") ∷ []) (codes "b") (a_truth true) broken
    ≡ codes "x = { b = true\r\n}"
before_a_newline = refl

abbrev two_spaces : Text
two_spaces = text_of (blank 32 ∷ blank 32 ∷ []) no_members

-- without members, newlines and comments: the white space gives way
pub between_braces : inserted_text (key (codes "x") ∷ []) (codes "b") (a_truth true) two_spaces
    ≡ codes "x = { b = true }"
between_braces = refl

abbrev over_lines : Text
over_lines = text_of (remark (codes " c") lf ∷ spaced) (a_member spaced (remark (codes " d") lf ∷ spaced)
    (last_member (name (codes "b")) (codes " ") (codes " ") (boolean false) (break lf ∷ [])))

over_lines_spelled : text over_lines ≡ codes "x = {# c\n a = true ,# d\n b = false\n}"
over_lines_spelled = refl

-- behind the last member, before the newline that follows it
pub before_the_last_newline : inserted_text (key (codes "x") ∷ []) (codes "n") (a_truth true) over_lines
    ≡ codes "x = {# c\n a = true ,# d\n b = false, n = true\n}"
before_the_last_newline = refl

-- the first member goes with the comma, the comments on both sides of it stay
pub the_first_over_lines : removed_text (key (codes "x") ∷ key (codes "a") ∷ []) over_lines
    ≡ codes "x = {# c\n # d\n b = false\n}"
the_first_over_lines = refl

-- the last member takes the comma before it and the comment behind that comma
pub the_last_over_lines : removed_text (key (codes "x") ∷ key (codes "b") ∷ []) over_lines
    ≡ codes "x = {# c\n a = true \n}"
the_last_over_lines = refl
