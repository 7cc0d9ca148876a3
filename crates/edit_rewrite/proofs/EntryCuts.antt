-- The positions of the pairs of a text, behind a part of the key and behind the value, are character
-- boundaries.
use Rattle.std.proofs.Common.{◌≡◌, ℕ, ◌≤◌, Bool, true, false, cond, List, [], ◌∷◌, ◌++◌, Option, Some, None, refl, sym, subst, inl, inr, ⊎_elim, arith}
use Rattle.std.specs.Prelude.{IsUtf8}
use Rattle.std.specs.List.{AllByRecursion}
use Rattle.edit_syntax.specs.Characters.{comma, equals, right_brace, is_blank, All}
use Rattle.edit_syntax.specs.Strings.{lf, crlf, line_end, name, Dotted, dotted, Key, key, IsKey}
use Rattle.edit_syntax.specs.Depth.{lines_depth}
use Rattle.edit_syntax.specs.FirstLine.{tokens_of_first_line}
use Rattle.edit_syntax.specs.Grammar.{Between, blank, break, remark, gap, IsGap, Value, basic, literal, multi_basic, multi_literal, boolean, integer, float, datetime, array, inline, value, Members, no_members, last_member, member, members, AreMembers, Statement, pair, header, element_header, statement, IsStatement, comment, empty_line, full_line, Lines, one_line, more_lines, lines, AreLines, Text}
use Rattle.edit_syntax.specs.SyntaxTokens.{tokens_of_statement}
use Rattle.edit_syntax.proofs.Members.{Among, among_append}
use Rattle.edit_tree.specs.Assertions.{Place, key as name_step, at, same_place, Assertion, of_statement, prefix_after, IsDocument}
use Rattle.edit_tree.specs.EditBytes.{unresolved, part_to}
use Rattle.edit_rewrite.specs.PairOffsets.{StandsIn}
use Rattle.edit_rewrite.specs.StatementOffsets.{IsSuffix}
use Rattle.edit_tree.specs.Statements.{PlacedStatement, stated_in, placed_statements, dotted_parts, behind_part, PlacedPair, placed_pair, paired_members, paired_value, paired_statement, line_pairs, inner_pairs}
use Rattle.edit_tree.specs.Written.{PlacedValue, values}
use Rattle.edit_document.proofs.Documents.{read_of, ends_all}
use Rattle.edit_tree.proofs.Shallow.{shallow}
use Rattle.edit_tree.proofs.Ends.{Ends, ends_past, ends_one, ends_part, ends_pair, ends_gap, ends_value, ends_line, ends_line_end}
use Rattle.edit_tree.proofs.TablePairs.{among_flat}
use Rattle.edit_rewrite.proofs.StatementSuffixes.{Starts, suffix_of, blank_small, blanks_start, dotted_start, line_end_start, IsDotted}
use Rattle.edit_rewrite.proofs.ValueSuffixes.{values_stand}

-- ---- one pair

some_same : (a b : List ℕ) → Some a ≡ Some b → a ≡ b
some_same a b k = cc

parts_start : (place table : Place) (n : List ℕ) (ds : List Dotted) (rest whole part : List ℕ)
    → AllByRecursion IsDotted ds → Starts rest → Ends whole (dotted ds rest)
    → behind_part unresolved place table ((n, dotted ds rest) ∷ dotted_parts ds rest) ≡ Some part
    → Ends whole part × Starts part
parts_start place table n [] rest whole part h st ends e = go (same_place (at table (name_step n)) place) e
  where
    go : (b : Bool) → cond b (Some rest) None ≡ Some part → Ends whole part × Starts part
    go true k = subst (λ (s : List ℕ). Ends whole s × Starts s) (some_same _ _ k) (ends, st)
    go false k = absurd cc
parts_start place table n (d ∷ ds) rest whole part h st ends e =
    go (same_place (at table (name_step n)) place) e
    (parts_start place (at table (name_step n)) (name d.part) ds rest whole part h.1 st
    (ends_part whole d.part (dotted ds rest)
    (ends_past whole d.behind _ (ends_one whole 46 _ (ends_past whole d.before _ ends)))))
  where
    others : Option (List ℕ)
    others =
        behind_part unresolved place (at table (name_step n)) ((name d.part, dotted ds rest) ∷ dotted_parts ds
        rest)

    go : (b : Bool) → cond b (Some (dotted (d ∷ ds) rest)) others ≡ Some part
        → (others ≡ Some part → Ends whole part × Starts part) → Ends whole part × Starts part
    go true k ih =
        subst (λ (s : List ℕ). Ends whole s × Starts s) (some_same _ _ k) (ends, dotted_start d ds rest h.0.0)
    go false k ih = ih k

-- the text may be cut behind the part of the key that names a place, and behind the value
pub record Fits (bytes : List ℕ) (p : PlacedPair) : Type 0 where
  pub part : (place : Place) (part : List ℕ) → part_to place p ≡ Some part → IsSuffix bytes part
  pub behind : IsSuffix bytes p.behind

pub pair_fits : (bytes : List ℕ) (table : Place) (k : Key) (a b : List ℕ) (v : Value) (behind : List ℕ)
    → IsKey k
    → All is_blank a → Starts behind → Ends bytes (key k (a ++ (equals ∷ (b ++ value v behind))))
    → Fits bytes (placed_pair table k a b v behind)
pair_fits bytes table k a b v behind h blanks st ends =
    let rest = a ++ (equals ∷ (b ++ value v behind)) in
    record {
      part = λ place part e.
          let r = parts_start place table (name k.first) k.others rest bytes part h.1
          (blanks_start a _ blanks (omega arith)) (ends_part bytes k.first (dotted k.others rest) ends) e in
          suffix_of bytes part r.0 r.1;
      behind =
          suffix_of bytes behind (ends_value bytes v behind (ends_pair bytes k a b (value v behind) ends)) st;
    }

-- ---- the pairs of inline tables

gap_starts : (g : List Between) (rest : List ℕ) → IsGap g → Starts rest → Starts (gap g rest)
gap_starts [] rest h st = st
gap_starts (blank b ∷ g) rest h st = blank_small b h.0
gap_starts (break lf ∷ g) rest h st = omega arith
gap_starts (break crlf ∷ g) rest h st = omega arith
gap_starts (remark t e ∷ g) rest h st = omega arith

members_fit : (bytes : List ℕ) (table : Place) (ms : Members) (rest : List ℕ) → AreMembers ms → Starts rest
    → Ends bytes (members ms rest) → (p : PlacedPair) → Among p (paired_members table ms rest) → Fits bytes p
members_fit bytes table no_members rest h st ends p m = absurd m
members_fit bytes table (last_member k a b v c) rest h st ends p (inl e) =
    subst (Fits bytes) (sym e)
    (pair_fits bytes table k a b v (gap c rest) h.0 h.1 (gap_starts c rest h.4 st) ends)
members_fit bytes table (last_member k a b v c) rest h st ends p (inr m) = absurd m
members_fit bytes table (member k a b v c d ms) rest h st ends p (inl e) =
    let behind = gap c (comma ∷ gap d (members ms rest)) in
    subst (Fits bytes) (sym e)
    (pair_fits bytes table k a b v behind h.0 h.1 (gap_starts c _ h.4 (omega arith)) ends)
members_fit bytes table (member k a b v c d ms) rest h st ends p (inr m) =
    let behind = gap c (comma ∷ gap d (members ms rest)) in
    members_fit bytes table ms rest h.6 st
    (ends_gap bytes d _ (ends_one bytes comma _ (ends_gap bytes c _ (ends_value bytes v behind
    (ends_pair bytes k a b (value v behind) ends))))) p m

value_fits : (bytes : List ℕ) (w : PlacedValue) → StandsIn bytes w → (p : PlacedPair)
    → Among p (paired_value w)
    → Fits bytes p
value_fits bytes w stands p m = go w.value stands m
  where
    go : (v : Value) → StandsIn bytes (record w {
      value =
          v;
    }) → Among p (paired_value (record w { value = v }))
        → Fits bytes p
    go (basic ps) s m = absurd m
    go (literal t) s m = absurd m
    go (multi_basic ps) s m = absurd m
    go (multi_literal ps) s m = absurd m
    go (boolean b) s m = absurd m
    go (integer n) s m = absurd m
    go (float f) s m = absurd m
    go (datetime d) s m = absurd m
    go (array g es) s m = absurd m
    go (inline g ms) s m =
        members_fit bytes w.place ms (right_brace ∷ w.after) s.valid.1 (omega arith)
        (ends_gap bytes g _ (ends_one bytes 123 _ s.ends)) p m

-- ---- the pairs that are statements

-- a statement where it stands: at the front of lines that are read from it on
pub record StatedStands (bytes : List ℕ) (s : PlacedStatement) : Type 0 where
  pub valid : IsStatement s.statement
  pub ends : Ends bytes (statement s.statement s.behind)
  pub starts : Starts s.behind
  pub left : Lines
  pub spelled : s.line ≡ lines left
  pub well : AreLines left
  pub shallow : lines_depth left ≤ 80
  pub tokens_are : tokens_of_first_line left ≡ tokens_of_statement s.statement s.behind

comment_starts : (c : Option (List ℕ)) (rest : List ℕ) → Starts rest → Starts (comment c rest)
comment_starts None rest st = st
comment_starts (Some t) rest st = omega arith

stand_in : (bytes : List ℕ) (earlier : List Assertion) (prefix : Place) (ls : Lines) → AreLines ls
    → lines_depth ls ≤ 80 → Ends bytes (lines ls) → (s : PlacedStatement)
    → Among s (stated_in earlier prefix ls)
    → StatedStands bytes s
stand_in bytes earlier prefix (one_line (empty_line a c)) valid deep ends s m = absurd m
stand_in bytes earlier prefix (one_line (full_line a st b c)) valid deep ends s (inl e) =
    subst (StatedStands bytes) (sym e) (record {
      valid = valid.1;
      ends = ends_past bytes a _ ends;
      starts = blanks_start b _ valid.2 (comment_starts c [] tt);
      left = one_line (full_line a st b c);
      spelled = refl;
      well = valid;
      shallow = deep;
      tokens_are = refl;
    })
stand_in bytes earlier prefix (one_line (full_line a st b c)) valid deep ends s (inr m) = absurd m
stand_in bytes earlier prefix (more_lines (empty_line a c) e ls) valid deep ends s m =
    stand_in bytes earlier prefix ls valid.1 (let d = deep in omega arith)
    (ends_line_end bytes e (lines ls) (ends_line bytes (empty_line a c) (line_end e (lines ls)) ends)) s m
stand_in bytes earlier prefix (more_lines (full_line a st b c) e ls) valid deep ends s (inl same) =
    subst (StatedStands bytes) (sym same) (record {
      valid = valid.0.1;
      ends = ends_past bytes a _ ends;
      starts = blanks_start b _ valid.0.2 (comment_starts c _ (line_end_start e (lines ls)));
      left = more_lines (full_line a st b c) e ls;
      spelled = refl;
      well = valid;
      shallow = deep;
      tokens_are = refl;
    })
stand_in bytes earlier prefix (more_lines (full_line a st b c) e ls) valid deep ends s (inr m) =
    stand_in bytes (earlier ++ of_statement earlier prefix st) (prefix_after earlier prefix st) ls valid.1
    (let d = deep in omega arith)
    (ends_line_end bytes e (lines ls) (ends_line bytes (full_line a st b c) (line_end e (lines ls)) ends)) s m

-- each statement of a document stands so
pub statements_stand : (bytes : List ℕ) (form : Text) → IsDocument bytes form → IsUtf8 bytes
    → (s : PlacedStatement)
    → Among s (placed_statements form) → StatedStands bytes s
statements_stand bytes form m u =
    let r = read_of bytes form m u in
    stand_in bytes [] [] form.lines r.spells.well_formed (shallow bytes form m) (ends_all bytes form r)

statement_fits : (bytes : List ℕ) (s : PlacedStatement) → StatedStands bytes s → (p : PlacedPair)
    → Among p (paired_statement s) → Fits bytes p
statement_fits bytes s stands p m = go s.statement stands.valid stands.ends m
  where
    go : (st : Statement) → IsStatement st → Ends bytes (statement st s.behind)
        → Among p (paired_statement (record s { statement = st })) → Fits bytes p
    go (pair k a b v) h ends (inl e) =
        subst (Fits bytes) (sym e) (pair_fits bytes s.prefix k a b v s.behind h.0 h.1 stands.starts ends)
    go (pair k a b v) h ends (inr m) = absurd m
    go (header a k b) h ends m = absurd m
    go (element_header a k b) h ends m = absurd m

-- ---- all pairs

pub pairs_fit : (bytes : List ℕ) (form : Text) → IsDocument bytes form → IsUtf8 bytes → (p : PlacedPair)
    → Among p (line_pairs form ++ inner_pairs form) → Fits bytes p
pairs_fit bytes form m u p among =
    ⊎_elim
    (λ l. let s = among_flat paired_statement p (placed_statements form) l in
    statement_fits bytes s.0 (statements_stand bytes form m u s.0 s.1) p s.2)
    (λ r. let w = among_flat paired_value p (values form) r in
    value_fits bytes w.0 (values_stand bytes form m u w.0 w.1) p w.2)
    (among_append p (line_pairs form) (inner_pairs form) among)
