-- The positions of the statements of a text are at character boundaries.
use Rattle.std.proofs.Common.{◌≡◌, ℕ, ◌-◌, ◌<◌, Bool, true, false, cond, List, [], ◌∷◌, ◌++◌, length, get_or, Some, None, refl, sym, ap, ◌∙◌, subst, inl, inr, append_assoc, length-append, arith}
use Rattle.std.specs.Prelude.{IsUtf8}
use Rattle.std.specs.List.{AllByRecursion}
use Rattle.std.proofs.lemmas.Str.{IsCharBoundary-before_ascii}
use Rattle.std.proofs.lemmas.Bool.Decides.{nat_tests}
use Rattle.edit_syntax.specs.Characters.{is_blank, equals, left_bracket, right_bracket, All}
use Rattle.edit_syntax.specs.Strings.{LineEnd, lf, crlf, line_end, bare, basic_part, literal_part, part, IsPart, name, Dotted, dotted, Key, key, IsKey}
use Rattle.edit_syntax.specs.Grammar.{value, Statement, pair, header, element_header, statement, IsStatement, comment, Line, empty_line, full_line, line, IsLine, Lines, one_line, more_lines, lines, AreLines, Text}
use Rattle.edit_syntax.proofs.ListElements.{get_seam}
use Rattle.edit_syntax.proofs.Members.{Among}
use Rattle.edit_tree.specs.Assertions.{Place, key as name_step, at, same_place, Assertion, of_statement, prefix_after, IsDocument}
use Rattle.edit_rewrite.specs.Entries.{begins_in, leads_to}
use Rattle.edit_rewrite.specs.StatementOffsets.{IsSuffix, IsFront, HasOffsets}
use Rattle.edit_tree.specs.Statements.{PlacedStatement, stated_line, stated_in, placed_statements, dotted_parts, parts, front_parts, behind_part}
use Rattle.edit_document.proofs.Documents.{read_of, ends_all}
use Rattle.edit_tree.proofs.Ends.{Ends, bare_small, ends_past, ends_one, ends_part, ends_line, ends_line_end}
use Rattle.edit_rewrite.proofs.SuffixTexts.{end_suffix}

-- ---- where a text may be cut

-- it begins with a character of ASCII, or is empty
abbrev pub Starts : List ℕ → Type 0
Starts [] = Unit {0}
Starts (b ∷ bs) = b < 128

pub suffix_of : (bytes s : List ℕ) → Ends bytes s → Starts s → IsSuffix bytes s
suffix_of bytes [] ends st = record { front = ends.0; seam = ends.1; fits = (end_suffix bytes).fits }
suffix_of bytes (b ∷ bs) ends st =
    let whole = ap length ends.1 ∙ length-append ends.0 (b ∷ bs) in
    let at : length bytes - length (b ∷ bs) ≡ length ends.0 = omega arith in
    let here : get_or bytes (length ends.0) 0 ≡ b =
    ap (λ (l : List ℕ). get_or l (length ends.0) 0) ends.1 ∙ get_seam ends.0 bs b in
    record {
      front = ends.0;
      seam = ends.1;
      fits = rw at (IsCharBoundary-before_ascii bytes (length ends.0) (omega arith) (omega arith));
    }

pub blank_small : (b : ℕ) → is_blank b ≡ true → b < 128
blank_small b e = grind (arith, nat_tests)

pub blanks_start : (a rest : List ℕ) → All is_blank a → Starts rest → Starts (a ++ rest)
blanks_start [] rest h st = st
blanks_start (b ∷ bs) rest h st = blank_small b h.0

pub part_start : (k : Key) (rest : List ℕ) → IsKey k → Starts (key k rest)
part_start k rest h = go k.first h.0
  where
    go : (p : _) → IsPart p → Starts (part p (dotted k.others rest))
    go (bare []) i = absurd (let l = i.0 in omega arith)
    go (bare (b ∷ bs)) i = bare_small b i.1.0
    go (basic_part ps) i = omega arith
    go (literal_part t) i = omega arith

pub dotted_start : (d : Dotted) (ds : List Dotted) (rest : List ℕ) → All is_blank d.before
    → Starts (dotted (d ∷ ds) rest)
dotted_start d ds rest h = blanks_start d.before _ h (omega arith)

statement_start : (s : Statement) (rest : List ℕ) → IsStatement s → Starts (statement s rest)
statement_start (pair k a b v) rest h = part_start k _ h.0
statement_start (header a k b) rest h = omega arith
statement_start (element_header a k b) rest h = omega arith

pub line_end_start : (e : LineEnd) (rest : List ℕ) → Starts (line_end e rest)
line_end_start lf rest = omega arith
line_end_start crlf rest = omega arith

line_start : (l : Line) (rest : List ℕ) → IsLine l → Starts rest → Starts (line l rest)
line_start (empty_line a None) rest h st = blanks_start a rest h.0 st
line_start (empty_line a (Some c)) rest h st = blanks_start a _ h.0 (omega arith)
line_start (full_line a s b c) rest h st = blanks_start a _ h.0 (statement_start s _ h.1)

pub lines_start : (ls : Lines) → AreLines ls → Starts (lines ls)
lines_start (one_line l) h = line_start l [] h tt
lines_start (more_lines l e ls) h = line_start l (line_end e (lines ls)) h.0 (line_end_start e (lines ls))

-- ---- the parts of a key

ends_trans : (a b c : List ℕ) → Ends a b → Ends b c → Ends a c
ends_trans a b c h g = (h.0 ++ g.0, h.1 ∙ ap (λ (l : List ℕ). h.0 ++ l) g.1 ∙ sym (append_assoc h.0 g.0 c))

abbrev pub IsDotted : Dotted → Type 0
IsDotted d = All is_blank d.before × All is_blank d.behind × IsPart d.part

behind_starts : (resolve : Place → Place) (place table : Place) (n : List ℕ) (ds : List Dotted)
    (rest whole suffix : List ℕ) → AllByRecursion IsDotted ds → Ends whole (dotted ds rest)
    → behind_part resolve place table (front_parts ((n, dotted ds rest) ∷ dotted_parts ds rest)) ≡ Some suffix
    → Ends whole suffix × Starts suffix
behind_starts resolve place table n [] rest whole suffix h ends e = absurd cc
behind_starts resolve place table n (d ∷ ds) rest whole suffix h ends e =
    go (same_place (resolve (at table (name_step n))) place) e
    (behind_starts resolve place (resolve (at table (name_step n))) (name d.part) ds rest whole suffix h.1
    (ends_part whole d.part (dotted ds rest)
    (ends_past whole d.behind _ (ends_one whole 46 _ (ends_past whole d.before _ ends)))))
  where
    some_same : (a b : List ℕ) → Some a ≡ Some b → a ≡ b
    some_same a b k = cc

    go : (b : Bool)
        → cond b (Some (dotted (d ∷ ds) rest)) (behind_part resolve place (resolve (at table (name_step n)))
        (front_parts ((name d.part, dotted ds rest) ∷ dotted_parts ds rest))) ≡ Some suffix
        → (behind_part resolve place (resolve (at table (name_step n)))
        (front_parts ((name d.part, dotted ds rest) ∷ dotted_parts ds rest)) ≡ Some suffix
        → Ends whole suffix × Starts suffix) → Ends whole suffix × Starts suffix
    go true k ih =
        let is = some_same _ _ k in
        subst (λ (s : List ℕ). Ends whole s × Starts s) is (ends, dotted_start d ds rest h.0.0)
    go false k ih = ih k

pub key_fronts : (bytes : List ℕ) (k : Key) (rest : List ℕ) (resolve : Place → Place) (place table : Place)
    (suffix : List ℕ) → IsKey k → Ends bytes (key k rest)
    → behind_part resolve place table (front_parts (parts k rest)) ≡ Some suffix
    → IsFront bytes (key k rest) suffix
key_fronts bytes k rest resolve place table suffix h ends e =
    let first : Ends (key k rest) (dotted k.others rest) = ends_part (key k rest) k.first _ ([], refl) in
    let r = behind_starts resolve place table (name k.first) k.others rest (key k rest) suffix h.1 first e in
    record {
      cut = suffix_of bytes suffix (ends_trans bytes (key k rest) suffix ends r.0) r.1;
      head = r.0.0;
      ends = r.0.1;
    }

-- ---- statements

statement_offsets : (bytes : List ℕ) (earlier : List Assertion) (prefix : Place) (a : List ℕ) (s : Statement)
    (behind after next : List ℕ) → All is_blank a → IsStatement s → Ends bytes (a ++ statement s behind)
    → Ends bytes after → Starts after
    → HasOffsets bytes (stated_line earlier prefix a s behind after next)
statement_offsets bytes earlier prefix a (pair k b c v) behind after next blanks valid ends last st =
    let from : Ends bytes (key k (b ++ (equals ∷ (c ++ value v behind)))) = ends_past bytes a _ ends in
    record {
      line = suffix_of bytes _ ends (blanks_start a _ blanks (statement_start (pair k b c v) behind valid));
      key = suffix_of bytes _ from (part_start k _ valid.0);
      after = suffix_of bytes after last st;
      front = λ place suffix e. key_fronts bytes k _
          (leads_to (stated_line earlier prefix a (pair k b c v) behind after next)) place
          (begins_in (stated_line earlier prefix a (pair k b c v) behind after next)) suffix valid.0 from e;
    }
statement_offsets bytes earlier prefix a (header b k c) behind after next blanks valid ends last st =
    let from : Ends bytes (key k (c ++ (right_bracket ∷ behind))) =
    ends_past bytes b _ (ends_one bytes left_bracket _ (ends_past bytes a _ ends)) in
    record {
      line = suffix_of bytes _ ends (blanks_start a _ blanks (statement_start (header b k c) behind valid));
      key = suffix_of bytes _ from (part_start k _ valid.1);
      after = suffix_of bytes after last st;
      front = λ place suffix e. key_fronts bytes k _
          (leads_to (stated_line earlier prefix a (header b k c) behind after next)) place
          (begins_in (stated_line earlier prefix a (header b k c) behind after next)) suffix valid.1 from e;
    }
statement_offsets bytes earlier prefix a (element_header b k c) behind after next blanks valid ends last st =
    let from : Ends bytes (key k (c ++ (right_bracket ∷ (right_bracket ∷ behind)))) =
    ends_past bytes b _ (ends_one bytes left_bracket _
    (ends_one bytes left_bracket _ (ends_past bytes a _ ends))) in
    record {
      line = suffix_of bytes _ ends
          (blanks_start a _ blanks (statement_start (element_header b k c) behind valid));
      key = suffix_of bytes _ from (part_start k _ valid.1);
      after = suffix_of bytes after last st;
      front = λ place suffix e. key_fronts bytes k _
          (leads_to (stated_line earlier prefix a (element_header b k c) behind after next)) place
          (begins_in (stated_line earlier prefix a (element_header b k c) behind after next)) suffix valid.1
          from e;
    }

lines_suffixes : (bytes : List ℕ) (earlier : List Assertion) (prefix : Place) (ls : Lines) → AreLines ls
    → Ends bytes (lines ls) → (s : PlacedStatement) → Among s (stated_in earlier prefix ls)
    → HasOffsets bytes s
lines_suffixes bytes earlier prefix (one_line (empty_line a c)) valid ends s m = absurd m
lines_suffixes bytes earlier prefix (one_line (full_line a st b c)) valid ends s (inl e) =
    subst (HasOffsets bytes) (sym e)
    (statement_offsets bytes earlier prefix a st (b ++ comment c []) [] [] valid.0 valid.1 ends
    (ends_line bytes (full_line a st b c) [] ends) tt)
lines_suffixes bytes earlier prefix (one_line (full_line a st b c)) valid ends s (inr m) = absurd m
lines_suffixes bytes earlier prefix (more_lines (empty_line a c) e ls) valid ends s m =
    lines_suffixes bytes earlier prefix ls valid.1
    (ends_line_end bytes e (lines ls) (ends_line bytes (empty_line a c) (line_end e (lines ls)) ends)) s m
lines_suffixes bytes earlier prefix (more_lines (full_line a st b c) e ls) valid ends s (inl same) =
    let after = line_end e (lines ls) in
    subst (HasOffsets bytes) (sym same)
    (statement_offsets bytes earlier prefix a st (b ++ comment c after) after
    (lines ls) valid.0.0 valid.0.1 ends
    (ends_line bytes (full_line a st b c) after ends) (line_end_start e (lines ls)))
lines_suffixes bytes earlier prefix (more_lines (full_line a st b c) e ls) valid ends s (inr m) =
    lines_suffixes bytes (earlier ++ of_statement earlier prefix st) (prefix_after earlier prefix st) ls valid.1
    (ends_line_end bytes e (lines ls) (ends_line bytes (full_line a st b c) (line_end e (lines ls)) ends)) s m

-- the statements of a document stand where it may be cut
pub stated_offsets : (bytes : List ℕ) (form : Text) → IsDocument bytes form → IsUtf8 bytes
    → (s : PlacedStatement)
    → Among s (placed_statements form) → HasOffsets bytes s
stated_offsets bytes form m u =
    let r = read_of bytes form m u in
    lines_suffixes bytes [] [] form.lines r.spells.well_formed (ends_all bytes form r)

-- and so do its lines
pub start_suffix : (bytes : List ℕ) (form : Text) → IsDocument bytes form → IsUtf8 bytes
    → IsSuffix bytes (lines form.lines)
start_suffix bytes form m u =
    let r = read_of bytes form m u in
    suffix_of bytes (lines form.lines) (ends_all bytes form r) (lines_start form.lines r.spells.well_formed)
