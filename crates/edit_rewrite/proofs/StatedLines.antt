-- The statements of lines, one line after the other, related to a place.
use Rattle.std.proofs.Common.{◌≡◌, ℕ, ◌≤◌, true, false, cond, List, [], ◌∷◌, ◌++◌, length, Some, refl, sym, ap, subst, ◌∙◌, append_assoc, arith}
use Rattle.std.specs.Prelude.{map, IsUtf8}
use Rattle.std.proofs.lemmas.List.{append-nil}
use Rattle.edit_syntax.specs.declared.read.syntax_tokens.SyntaxToken.{SyntaxToken}
use Rattle.edit_syntax.specs.declared.read.syntax_tokens.TokenKind.TheVariants as kinds
use Rattle.edit_syntax.specs.Characters.{equals, left_bracket, right_bracket}
use Rattle.edit_syntax.specs.Strings.{LineEnd, lf, crlf, line_end, Dotted, dotted, Key}
use Rattle.edit_syntax.specs.Strings as strings
use Rattle.edit_syntax.specs.Grammar.{Value, basic, literal, multi_basic, multi_literal, boolean, integer, float, datetime, array, inline, value, Statement, pair, header, element_header, statement, IsStatement, comment, empty_line, full_line, Lines, one_line, more_lines, lines, AreLines, Text}
use Rattle.edit_syntax.specs.Depth.{lines_depth}
use Rattle.edit_syntax.specs.SyntaxTokens.{token_between, part_kind, tokens_of_dotted, tokens_of_key, tokens_of_value, tokens_of_statement}
use Rattle.edit_syntax.specs.FirstLine.{after_first, tokens_of_first_line}
use Rattle.edit_rewrite.specs.declared.locate.Entry.{Entry}
use Rattle.edit_rewrite.specs.declared.locate.StatementOffsets.{StatementOffsets}
use Rattle.edit_rewrite.specs.declared.locate.SearchState.{SearchState}
use Rattle.edit_tree.specs.Assertions.{Place, Assertion, of_statement, prefix_after, IsDocument}
use Rattle.edit_tree.specs.Statements.{PlacedStatement, stated_in, placed_statements, parts}
use Rattle.edit_rewrite.specs.Entries.{begins_part, kind_after_key, first_from, AreParts, entry_of}
use Rattle.edit_rewrite.specs.SearchStates.{IsSearchState, HeadIs, IsTokenized}
use Rattle.edit_tree.proofs.Ends.{Ends, ends_past, ends_one, ends_line, ends_line_end}
use Rattle.edit_rewrite.proofs.KeyWays.{kind_part, key_are}
use Rattle.edit_syntax.specs.Reading.{skip_byte_order_mark}
use Rattle.edit_syntax.proofs.TextLaws.{lines_only}
use Rattle.edit_document.proofs.Documents.{read_of, ends_all}
use Rattle.edit_tree.proofs.Shallow.{shallow}

-- ---- the tokens of a statement

dotted_head : (ds : List Dotted) (rest : List ℕ) (others : List SyntaxToken)
    → kind_after_key (tokens_of_dotted ds rest ++ others) ≡ kind_after_key others
dotted_head [] rest others = refl
dotted_head (d ∷ ds) rest others =
    ap (λ b. cond b (kind_after_key (tokens_of_dotted ds rest ++ others)) (Some (part_kind d.part))) (kind_part d.part) ∙
    dotted_head ds rest others

head_key : (k : Key) (rest : List ℕ) (others : List SyntaxToken)
    → kind_after_key (tokens_of_key k rest ++ others) ≡ kind_after_key others
head_key k rest others =
    ap (λ b. cond b (kind_after_key (tokens_of_dotted k.others rest ++ others)) (Some (part_kind k.first)))
    (kind_part k.first) ∙ dotted_head k.others rest others

pub value_first : (v : Value) (rest : List ℕ) → begins_part (tokens_of_value v rest) ≡ false
value_first (basic ps) rest = refl
value_first (literal text) rest = refl
value_first (multi_basic ps) rest = refl
value_first (multi_literal ps) rest = refl
value_first (boolean true) rest = refl
value_first (boolean false) rest = refl
value_first (integer n) rest = refl
value_first (float f) rest = refl
value_first (datetime d) rest = refl
value_first (array g es) rest = refl
value_first (inline g ms) rest = refl

value_head : (k : Key) (a b : List ℕ) (v : Value) (rest : List ℕ)
    → HeadIs (pair k a b v) (kind_after_key (tokens_of_value v rest))
value_head k a b (basic ps) rest = (refl, refl)
value_head k a b (literal text) rest = (refl, refl)
value_head k a b (multi_basic ps) rest = (refl, refl)
value_head k a b (multi_literal ps) rest = (refl, refl)
value_head k a b (boolean true) rest = (refl, refl)
value_head k a b (boolean false) rest = (refl, refl)
value_head k a b (integer n) rest = (refl, refl)
value_head k a b (float f) rest = (refl, refl)
value_head k a b (datetime d) rest = (refl, refl)
value_head k a b (array g es) rest = (refl, refl)
value_head k a b (inline g ms) rest = (refl, refl)

pub defined_by : (bytes : List ℕ) (s : PlacedStatement) (tokens : List SyntaxToken) (offsets : StatementOffsets)
    → IsStatement s.statement
    → IsUtf8 bytes → Ends bytes (statement s.statement s.behind)
    → tokens ≡ tokens_of_statement s.statement s.behind
    → offsets.line ≡ length s.line → offsets.key ≡ first_from tokens → offsets.after ≡ length s.after
    → offsets.next ≡ length s.next → IsTokenized bytes tokens s offsets
defined_by bytes s tokens offsets h u ends is line from after next = go s.statement h ends is
  where
    go : (st : Statement) → IsStatement st → Ends bytes (statement st s.behind)
        → tokens ≡ tokens_of_statement st s.behind → IsTokenized bytes tokens (record s { statement = st }) offsets
    go (pair k a b v) h ends is =
        let rest = a ++ (equals ∷ (b ++ value v s.behind)) in
        record {
          are_parts = subst (AreParts bytes (parts k rest)) (sym is)
              (key_are bytes k rest (tokens_of_value v s.behind) h.0 u ends (value_first v s.behind));
          head = subst (HeadIs (pair k a b v))
              (sym (ap kind_after_key is ∙ head_key k rest (tokens_of_value v s.behind))) (value_head k a b v s.behind);
          line = line;
          key = from ∙ ap first_from is;
          after = after;
          next = next;
        }
    go (header a k b) h ends is =
        let rest = b ++ (right_bracket ∷ s.behind) in
        let others = token_between kinds.Header (statement (header a k b) s.behind) s.behind ∷ [] in
        let key_ends : Ends bytes (strings.key k rest) =
        ends_past bytes a (strings.key k rest) (ends_one bytes left_bracket (a ++ strings.key k rest) ends) in
        record {
          are_parts = subst (AreParts bytes (parts k rest)) (sym is)
              (key_are bytes k rest others h.1 u key_ends refl);
          head = subst (HeadIs (header a k b)) (sym (ap kind_after_key is ∙ head_key k rest others)) (refl, refl);
          line = line;
          key = from ∙ ap first_from is;
          after = after;
          next = next;
        }
    go (element_header a k b) h ends is =
        let rest = b ++ (right_bracket ∷ (right_bracket ∷ s.behind)) in
        let others = token_between kinds.ElementHeader (statement (element_header a k b) s.behind) s.behind ∷ [] in
        let key_ends : Ends bytes (strings.key k rest) =
        ends_past bytes a (strings.key k rest)
        (ends_one bytes left_bracket (a ++ strings.key k rest)
        (ends_one bytes left_bracket (left_bracket ∷ (a ++ strings.key k rest)) ends)) in
        record {
          are_parts = subst (AreParts bytes (parts k rest)) (sym is)
              (key_are bytes k rest others h.1 u key_ends refl);
          head = subst (HeadIs (element_header a k b)) (sym (ap kind_after_key is ∙ head_key k rest others))
              (refl, refl);
          line = line;
          key = from ∙ ap first_from is;
          after = after;
          next = next;
        }

-- ---- lines

-- where the statements so far leave off: the lines that are left, and the entries of their statements behind
-- those found
pub record AtLine (bytes : List ℕ) (target : Place) (form : Text) (standing : SearchState) (found : List Entry)
    (rest : List ℕ) : Type 0 where
  pub earlier : List Assertion
  pub prefix : Place
  pub left : Lines
  pub same : rest ≡ lines left
  pub valid : AreLines left
  pub shallow : lines_depth left ≤ 80
  pub ends : Ends bytes (lines left)
  pub stands : IsSearchState target earlier prefix standing
  pub all : map (entry_of target) (placed_statements form) ≡ found ++ map (entry_of target)
      (stated_in earlier prefix left)

no_end : (e : LineEnd) (rest : List ℕ) → length (line_end e rest) ≡ 0 → ⊥
no_end lf rest h = omega arith
no_end crlf rest h = omega arith

some_tokens : (s : Statement) (rest : List ℕ) → length (tokens_of_statement s rest) ≡ 0 → ⊥
some_tokens (pair k a b v) rest h = omega arith
some_tokens (header a k b) rest h = omega arith
some_tokens (element_header a k b) rest h = omega arith

module _ (bytes : List ℕ) (u : IsUtf8 bytes) (target : Place) (form : Text) (standing : SearchState)
    (found : List Entry) (rest after next : List ℕ) (tokens : List SyntaxToken)
    (d : AtLine bytes target form standing found rest)
    (is_after : after ≡ after_first d.left) (is_tokens : tokens ≡ tokens_of_first_line d.left) where
  abbrev AllAre : Lines → Type 0
  AllAre ls = map (entry_of target) (placed_statements form) ≡ found ++ map (entry_of target)
      (stated_in d.earlier d.prefix ls)

  -- a line without a statement, and another behind it
  pub turn_empty : length tokens ≡ 0 → (length after ≡ 0 → ⊥)
      → ((e : LineEnd) (r : List ℕ) → after ≡ line_end e r → next ≡ r)
      → AtLine bytes target form standing found next
  turn_empty none more nexts = go d.left d.valid d.shallow d.ends d.all is_after is_tokens
    where
      go : (ls : Lines) → AreLines ls → lines_depth ls ≤ 80 → Ends bytes (lines ls) → AllAre ls
          → after ≡ after_first ls → tokens ≡ tokens_of_first_line ls
          → AtLine bytes target form standing found next
      go (one_line l) valid shallow ends all is_a is_m = absurd (more (ap length is_a))
      go (more_lines (empty_line a c) e ls) valid shallow ends all is_a is_m = record {
        earlier = d.earlier;
        prefix = d.prefix;
        left = ls;
        same = nexts e (lines ls) is_a;
        valid = valid.1;
        shallow = let k = shallow in omega arith;
        ends = ends_line_end bytes e (lines ls)
            (ends_line bytes (empty_line a c) (line_end e (lines ls)) ends);
        stands = d.stands;
        all = all;
      }
      go (more_lines (full_line a s b c) e ls) valid shallow ends all is_a is_m =
          absurd (some_tokens s (b ++ comment c (line_end e (lines ls))) (sym (ap length is_m) ∙ none))

  -- the last line, without a statement
  pub end_empty : length tokens ≡ 0 → length after ≡ 0 → found ≡ map (entry_of target) (placed_statements form)
  end_empty none over = go d.left d.all is_after is_tokens
    where
      go : (ls : Lines) → AllAre ls → after ≡ after_first ls → tokens ≡ tokens_of_first_line ls
          → found ≡ map (entry_of target) (placed_statements form)
      go (one_line (empty_line a c)) all is_a is_m = sym (all ∙ append-nil found)
      go (one_line (full_line a s b c)) all is_a is_m =
          absurd (some_tokens s (b ++ comment c []) (sym (ap length is_m) ∙ none))
      go (more_lines l e ls) all is_a is_m = absurd (no_end e (lines ls) (sym (ap length is_a) ∙ over))

  module _ (standing2 : SearchState) (entry : Entry) (offsets : StatementOffsets)
      (takes : (s : PlacedStatement) → IsTokenized bytes tokens s offsets → IsSearchState target s.earlier s.prefix standing
      → (entry ≡ entry_of target s)
      × IsSearchState target (s.earlier ++ of_statement s.earlier s.prefix s.statement)
      (prefix_after s.earlier s.prefix s.statement) standing2)
      (line : offsets.line ≡ length rest) (from : offsets.key ≡ first_from tokens)
      (at_after : offsets.after ≡ length after) (at_next : offsets.next ≡ length next) where
    -- a line with a statement, and another behind it
    pub turn_full : (length tokens ≡ 0 → ⊥) → (length after ≡ 0 → ⊥)
        → ((e : LineEnd) (r : List ℕ) → after ≡ line_end e r → next ≡ r)
        → AtLine bytes target form standing2 (found ++ entry ∷ []) next
    turn_full some more nexts = go d.left d.same d.valid d.shallow d.ends d.all is_after is_tokens
      where
        go : (ls : Lines) → rest ≡ lines ls → AreLines ls → lines_depth ls ≤ 80 → Ends bytes (lines ls)
            → AllAre ls → after ≡ after_first ls → tokens ≡ tokens_of_first_line ls
            → AtLine bytes target form standing2 (found ++ entry ∷ []) next
        go (one_line l) same valid shallow ends all is_a is_m = absurd (more (ap length is_a))
        go (more_lines (empty_line a c) e ls) same valid shallow ends all is_a is_m =
            absurd (some (ap length is_m))
        go (more_lines (full_line a s b c) e ls) same valid shallow ends all is_a is_m =
            let behind = b ++ comment c (line_end e (lines ls)) in
            let st : PlacedStatement = record {
              prefix = d.prefix;
              earlier = d.earlier;
              statement = s;
              line = a ++ statement s behind;
              behind = behind;
              after = line_end e (lines ls);
              next = lines ls;
            } in
            let taken = defined_by bytes st tokens offsets valid.0.1 u
            (ends_past bytes a (statement s behind) ends) is_m (line ∙ ap length same) from
            (at_after ∙ ap length is_a) (at_next ∙ ap length (nexts e (lines ls) is_a)) in
            let p = takes st taken d.stands in
            let others = map (entry_of target)
            (stated_in (d.earlier ++ of_statement d.earlier d.prefix s)
            (prefix_after d.earlier d.prefix s) ls) in
            record {
              earlier = d.earlier ++ of_statement d.earlier d.prefix s;
              prefix = prefix_after d.earlier d.prefix s;
              left = ls;
              same = nexts e (lines ls) is_a;
              valid = valid.1;
              shallow = let k = shallow in omega arith;
              ends = ends_line_end bytes e (lines ls)
                  (ends_line bytes (full_line a s b c) (line_end e (lines ls)) ends);
              stands = p.1;
              all = all ∙ ap (λ (x : Entry). found ++ (x ∷ others)) (sym p.0) ∙
                  sym (append_assoc found (entry ∷ []) others);
            }

    -- the last line, with a statement
    pub end_full : (length tokens ≡ 0 → ⊥) → length after ≡ 0 → (after ≡ [] → next ≡ [])
        → found ++ entry ∷ [] ≡ map (entry_of target) (placed_statements form)
    end_full some over last = go d.left d.same d.valid d.ends d.all is_after is_tokens
      where
        go : (ls : Lines) → rest ≡ lines ls → AreLines ls → Ends bytes (lines ls) → AllAre ls
            → after ≡ after_first ls → tokens ≡ tokens_of_first_line ls
            → found ++ entry ∷ [] ≡ map (entry_of target) (placed_statements form)
        go (one_line (empty_line a c)) same valid ends all is_a is_m = absurd (some (ap length is_m))
        go (one_line (full_line a s b c)) same valid ends all is_a is_m =
            let behind = b ++ comment c [] in
            let st : PlacedStatement = record {
              prefix = d.prefix;
              earlier = d.earlier;
              statement = s;
              line = a ++ statement s behind;
              behind = behind;
              after = [];
              next = [];
            } in
            let taken = defined_by bytes st tokens offsets valid.1 u
            (ends_past bytes a (statement s behind) ends) is_m (line ∙ ap length same) from
            (at_after ∙ ap length is_a) (at_next ∙ ap length (last is_a)) in
            let p = takes st taken d.stands in
            ap (λ (x : Entry). found ++ (x ∷ [])) p.0 ∙ sym all
        go (more_lines l e ls) same valid ends all is_a is_m =
            absurd (no_end e (lines ls) (sym (ap length is_a) ∙ over))

-- before the first line
pub at_start : (bytes : List ℕ) (target : Place) (form : Text) (standing : SearchState) (found : List Entry)
    (rest : List ℕ) → IsDocument bytes form → IsUtf8 bytes → found ≡ [] → rest ≡ skip_byte_order_mark bytes
    → IsSearchState target [] [] standing → AtLine bytes target form standing found rest
at_start bytes target form standing found rest m u none is stands =
    let r = read_of bytes form m u in
    record {
      earlier = [];
      prefix = [];
      left = form.lines;
      same = is ∙ lines_only bytes form r.spells;
      valid = r.spells.well_formed;
      shallow = shallow bytes form m;
      ends = ends_all bytes form r;
      stands = stands;
      all = ap (λ (f : List Entry). f ++ map (entry_of target) (placed_statements form)) (sym none);
    }

pub at_line_as : {bytes : List ℕ} {target : Place} {form : Text} (standing standing2 : SearchState)
    (found found2 : List Entry) {rest : List ℕ} → standing ≡ standing2 → found ≡ found2
    → AtLine bytes target form standing2 found2 rest → AtLine bytes target form standing found rest
at_line_as {bytes} {target} {form} standing standing2 found found2 {rest} e f d =
    subst (λ (s : SearchState). AtLine bytes target form s found rest) (sym e)
    (subst (λ (x : List Entry). AtLine bytes target form standing2 x rest) (sym f) d)
