-- How the statements of a text relate to a target place.
use Rattle.std.specs.Prelude.{◌≡◌, ◌≤◌, ℕ, ◌+◌, ◌-◌, Bool, true, false, not, ◌==◌, nat_lt, if◌then◌else◌, List, [], ◌∷◌, length, slice_get, slice_index, slice_set, take, Option, Some, None, option_map}
use Rattle.edit_syntax.specs.Characters.{equals, right_bracket}
use Rattle.edit_syntax.specs.Strings.{◌·◌, Key, key}
use Rattle.edit_syntax.specs.Grammar.{value, Statement, pair, header, element_header}
use Rattle.edit_rewrite.specs.declared.path_matching.PathMatch.{PathMatch}
use Rattle.edit_rewrite.specs.declared.path_matching.PathMatch.TheVariants.{On, Below, Off}
use Rattle.edit_rewrite.specs.declared.locate.Entry.{Entry}
use Rattle.edit_syntax.specs.declared.read.syntax_tokens.SyntaxToken.{SyntaxToken}
use Rattle.edit_syntax.specs.declared.read.syntax_tokens.TokenKind.{TokenKind}
use Rattle.edit_syntax.specs.declared.read.syntax_tokens.TokenKind.TheVariants as kinds
use Rattle.edit_tree.specs.Assertions.{Step, key as name_step, index, Place, at, same_step, Assertion, elements_at, last_element_or_self}
use Rattle.edit_tree.specs.Statements.{PlacedStatement, Named, parts, front_parts, behind_part}
use Rattle.edit_tree.specs.EditBytes.{is_pair, is_own}
use Rattle.edit_tree.specs.RemovedBytes.{is_removed_statement}
use Rattle.edit_tree.specs.WalkState.{IsDecodedAt}

-- ---- paths

-- the relation of a place to the target after n common steps: on the path to it, below it, or off the path
abbrev pub path_match_on : ℕ → Place → Place → PathMatch
path_match_on done [] [] = On done
path_match_on done (s ∷ ss) [] = On done
path_match_on done [] (t ∷ ts) = Below
path_match_on done (s ∷ ss) (t ∷ ts) = if same_step s t then path_match_on (done + 1) ss ts else Off

-- the relation of a place to the target
abbrev pub path_match : Place → Place → PathMatch
path_match target place = path_match_on 0 target place

-- the relation after one more step, where this step comes next on the path
abbrev pub path_match_next : ℕ → Option Step → Step → PathMatch
path_match_next done None step = Below
path_match_next done (Some s) step = if same_step s step then On (done + 1) else Off

-- the relation after one more step
abbrev pub extend_path_match : Place → PathMatch → Step → PathMatch
extend_path_match target (On done) step = path_match_next done (slice_get target done) step
extend_path_match target Below step = Below
extend_path_match target Off step = Off

-- the place is the target, which has this number of steps
abbrev pub is_at : ℕ → PathMatch → Bool
is_at total (On done) = done == total
is_at total _ = false

-- the place is the target, which has this number of steps, or lies below it
abbrev pub is_at_or_below : ℕ → PathMatch → Bool
is_at_or_below total (On done) = done == total
is_at_or_below total Below = true
is_at_or_below total Off = false

-- the number of elements at the place reached; `counts` has a number for each number of steps on the path
abbrev pub count_on : List ℕ → PathMatch → ℕ
count_on counts (On done) = slice_index counts done
count_on counts _ = 0

-- the relation of the last element of the array of tables at the place reached, or of that place where there
-- is none
abbrev pub last_element_match : Place → List ℕ → PathMatch → PathMatch
last_element_match target counts w =
    if nat_lt 0 (count_on counts w) then extend_path_match target w (index (count_on counts w - 1)) else w

-- the counts with one more element at the place reached
abbrev pub counted : PathMatch → List ℕ → List ℕ
counted (On done) counts = slice_set counts done (slice_index counts done + 1)
counted _ counts = counts

-- the counts are those of the arrays of tables on the path to the target
abbrev pub Counts : Place → List Assertion → List ℕ → Type 0
Counts target earlier counts =
    (d : ℕ) → d ≤ length target → slice_index counts d ≡ elements_at earlier (take d target)

-- ---- keys

-- the kind is that of a part of a key
abbrev pub is_part : TokenKind → Bool
is_part kinds.BarePart = true
is_part kinds.BasicPart = true
is_part kinds.LiteralPart = true
is_part _ = false

-- the first token is a part of a key
abbrev pub begins_part : List SyntaxToken → Bool
begins_part [] = false
begins_part (m ∷ ms) = is_part m.kind

-- the kind of the first token that is not a part of a key
abbrev pub kind_after_key : List SyntaxToken → Option TokenKind
kind_after_key [] = None
kind_after_key (m ∷ ms) = if is_part m.kind then kind_after_key ms else Some m.kind

-- the start of the first token
abbrev pub first_from : List SyntaxToken → ℕ
first_from [] = 0
first_from (m ∷ ms) = m.from

-- the tokens begin with those of these parts of a key, and another kind of token or none follows
abbrev pub AreParts : List ℕ → List Named → List SyntaxToken → Type 0
AreParts bytes [] ms = begins_part ms ≡ false
AreParts bytes (n ∷ ns) [] = ⊥
AreParts bytes (n ∷ ns) (m ∷ ms) =
    (is_part m.kind ≡ true) × IsDecodedAt bytes m n.0 × (m.to ≡ length n.1) × AreParts bytes ns ms

-- `resolve` on places agrees with the last element by counts on relations
abbrev pub Follows : Place → List ℕ → (Place → Place) → Type 0
Follows target counts resolve =
    (p : Place) → path_match target (resolve p) ≡ last_element_match target counts (path_match target p)

-- the place that the parts of a key lead to, from a table on
abbrev pub key_target : (Place → Place) → Place → List Named → Place
key_target resolve table [] = table
key_target resolve table (n ∷ []) = at table (name_step n.0)
key_target resolve table (n ∷ m ∷ ns) = key_target resolve (resolve (at table (name_step n.0))) (m ∷ ns)

-- the relation of the place that a key names, and the offset behind the front part of the key that names the
-- target
abbrev pub FollowsKey : Place → (Place → Place) → Place → List Named → PathMatch × Option ℕ → Type 0
FollowsKey target resolve table ns r =
    (r.0 ≡ path_match target (key_target resolve table ns))
    × (r.1 ≡ option_map length (behind_part resolve target table (front_parts ns)))

-- ---- statements

-- the key of a statement, and the text behind it
abbrev pub key_of : PlacedStatement → Key × List ℕ
key_of s = of_statement s.statement
  where
    of_statement : Statement → Key × List ℕ
    of_statement (pair k a b v) = (k, a · equals ∷ (b · value v s.behind))
    of_statement (header a k b) = (k, b · right_bracket ∷ s.behind)
    of_statement (element_header a k b) = (k, b · right_bracket ∷ (right_bracket ∷ s.behind))

-- the table that the key of a statement starts from
abbrev pub begins_in : PlacedStatement → Place
begins_in s = if is_pair s.statement then s.prefix else []

-- where a front part of the statement's key continues from
abbrev pub leads_to : PlacedStatement → Place → Place
leads_to s place = if is_pair s.statement then place else last_element_or_self s.earlier place

-- the text behind the front part of the statement's key that names a place
abbrev pub front_of : Place → PlacedStatement → Option (List ℕ)
front_of place s =
    behind_part (leads_to s) place (begins_in s) (front_parts (parts (key_of s).0 (key_of s).1))

-- the relation of a statement to a place
abbrev pub entry_of : Place → PlacedStatement → Entry
entry_of place s = record {
  is_own = is_own place s;
  is_within = is_removed_statement place s;
  is_header = not (is_pair s.statement);
  front = option_map length (front_of place s);
  line = length s.line;
  key = length (key (key_of s).0 (key_of s).1);
  after = length s.after;
  next = length s.next;
}
