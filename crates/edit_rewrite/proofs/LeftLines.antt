-- What is left of the lines of a text where some statements are removed, statement by statement.
use Rattle.std.proofs.Common.{◌≡◌, ℕ, ◌-◌, Bool, true, false, if◌then◌else◌, List, [], ◌∷◌, ◌++◌, map, length, refl, sym, ap, ◌∙◌, append_assoc, append-nil}
use Rattle.std.specs.Prelude.{IsUtf8}
use Rattle.edit_syntax.specs.Spans.{cut_from}
use Rattle.edit_syntax.specs.Strings.{line_end}
use Rattle.edit_syntax.specs.Grammar.{empty_line, full_line, Lines, one_line, more_lines, lines, AreLines, Text, byte_order_mark}
use Rattle.edit_rewrite.specs.declared.locate.Entry.{Entry}
use Rattle.edit_tree.specs.Assertions.{Place, Assertion, of_statement, prefix_after, IsDocument}
use Rattle.edit_tree.specs.EditBytes.{before}
use Rattle.edit_rewrite.specs.Entries.{entry_of}
use Rattle.edit_tree.specs.RemovedBytes.{is_removed_statement, lines_left}
use Rattle.edit_rewrite.specs.StatementOffsets.{IsSuffix}
use Rattle.edit_tree.specs.Statements.{PlacedStatement, stated_in, placed_statements}
use Rattle.edit_document.proofs.Documents.{read_of, ends_all}
use Rattle.edit_tree.proofs.Ends.{Ends, ends_line, ends_line_end}
use Rattle.edit_rewrite.proofs.SlotLaws.{before_is}
use Rattle.edit_rewrite.proofs.SuffixTexts.{whole_suffix, end_suffix, cut_suffixes, cut_rest}
use Rattle.edit_rewrite.proofs.StatementSuffixes.{suffix_of, lines_start, start_suffix}

-- ---- where the lines behind statements begin

-- the lines behind each statement begin behind those before, where the text may be cut
abbrev pub Chain : List ℕ → List ℕ → List PlacedStatement → Type 0
Chain bytes from [] = Unit {0}
Chain bytes from (s ∷ ss) = IsSuffix bytes s.next × Ends from s.next × Chain bytes s.next ss

lines_chain : (bytes from : List ℕ) (earlier : List Assertion) (prefix : Place) (ls : Lines) → AreLines ls
    → Ends bytes (lines ls) → Ends from (lines ls) → Chain bytes from (stated_in earlier prefix ls)
lines_chain bytes from earlier prefix (one_line (empty_line a c)) valid e f = tt
lines_chain bytes from earlier prefix (one_line (full_line a s b c)) valid e f =
    (end_suffix bytes, (from, sym (append-nil from)), tt)
lines_chain bytes from earlier prefix (more_lines (empty_line a c) n ls) valid e f =
    lines_chain bytes from earlier prefix ls valid.1
    (ends_line_end bytes n (lines ls) (ends_line bytes (empty_line a c) (line_end n (lines ls)) e))
    (ends_line_end from n (lines ls) (ends_line from (empty_line a c) (line_end n (lines ls)) f))
lines_chain bytes from earlier prefix (more_lines (full_line a s b c) n ls) valid e f =
    let next = ends_line_end bytes n (lines ls)
    (ends_line bytes (full_line a s b c) (line_end n (lines ls)) e) in (
      suffix_of bytes (lines ls) next (lines_start ls valid.1),
      ends_line_end from n (lines ls) (ends_line from (full_line a s b c) (line_end n (lines ls)) f),
      lines_chain bytes (lines ls) (earlier ++ of_statement earlier prefix s)
          (prefix_after earlier prefix s) ls valid.1 next ([], refl),
    )

-- ---- the turns of the loop

-- so much is written, what follows the offset is still to be written, and these statements are left
pub record AtStatement (bytes : List ℕ) (gone : Place) (whole done : List ℕ) (from : ℕ) (left : List Entry)
    : Type 0 where
  pub rest : List ℕ
  pub coming : List PlacedStatement
  pub suffix : IsSuffix bytes rest
  pub from_is : from ≡ length rest
  pub left_is : left ≡ map (entry_of gone) coming
  pub chain : Chain bytes rest coming
  pub made : done ++ lines_left gone rest coming ≡ whole

-- before the first statement
pub at_first : (bytes : List ℕ) (form : Text) (gone : Place) (done : List ℕ) (from : ℕ) (left : List Entry)
    → IsDocument bytes form → IsUtf8 bytes → from ≡ length (lines form.lines)
    → done ≡ cut_from bytes (length bytes - length bytes) (length bytes - from)
    → left ≡ map (entry_of gone) (placed_statements form)
    → AtStatement bytes gone (byte_order_mark form.has_byte_order_mark (lines_left gone (lines form.lines) (placed_statements form)))
    done from left
at_first bytes form gone done from left m u is cut all =
    let r = read_of bytes form m u in
    let ends = ends_all bytes form r in
    let suffix = start_suffix bytes form m u in
    let has_byte_order_mark : bytes ≡ byte_order_mark form.has_byte_order_mark [] ++ lines form.lines =
    m.grammar.spelled ∙ behind_byte_order_mark form.has_byte_order_mark (lines form.lines) in
    let front : done ≡ byte_order_mark form.has_byte_order_mark [] =
    cut ∙ cut_suffixes bytes bytes (lines form.lines) (length bytes) from (whole_suffix bytes u) suffix
    (suffix.front, suffix.seam) refl is
    ∙ before_is bytes (byte_order_mark form.has_byte_order_mark []) (lines form.lines) has_byte_order_mark in
    record {
      rest = lines form.lines;
      coming = placed_statements form;
      suffix = suffix;
      from_is = is;
      left_is = all;
      chain = lines_chain bytes (lines form.lines) [] [] form.lines r.spells.well_formed ends ([], refl);
      made = ap (λ (l : List ℕ). l ++ lines_left gone (lines form.lines) (placed_statements form)) front
          ∙ sym (behind_byte_order_mark form.has_byte_order_mark (lines_left gone (lines form.lines) (placed_statements form)));
    }
  where
    behind_byte_order_mark : (b : Bool) (rest : List ℕ) → byte_order_mark b rest ≡ byte_order_mark b [] ++ rest
    behind_byte_order_mark true rest = refl
    behind_byte_order_mark false rest = refl

-- behind one more: what stands before it and its lines stay, or nothing
pub past_one : (bytes : List ℕ) (gone : Place) (whole done now : List ℕ) (from to : ℕ) (e : Entry)
    (left : List Entry) → AtStatement bytes gone whole done from (e ∷ left)
    → to ≡ (if e.is_within then from else e.next)
    → now ≡ done ++ cut_from bytes (length bytes - from) (length bytes - to)
    → AtStatement bytes gone whole now e.next left
past_one bytes gone whole done now from to e left at to_is is = go at.coming at.left_is at.chain at.made
  where
    written : List ℕ → Bool → List PlacedStatement → List ℕ → List ℕ
    written next within ss done =
        done ++ (if within then lines_left gone next ss else before at.rest next ++ lines_left gone next ss)

    step : (s : PlacedStatement) (ss : List PlacedStatement) (within : Bool) → IsSuffix bytes s.next
        → Ends at.rest s.next
        → e.next ≡ length s.next → to ≡ (if within then from else e.next)
        → now ++ lines_left gone s.next ss ≡ written s.next within ss done
    step s ss true suffix ends next_is to_from =
        let nothing : now ≡ done ++ [] =
        is ∙ ap (λ (n : ℕ). done ++ cut_from bytes (length bytes - from) (length bytes - n)) to_from
        ∙ ap (λ (l : List ℕ). done ++ l)
        (cut_suffixes bytes at.rest at.rest from from at.suffix at.suffix ([], refl) at.from_is at.from_is
        ∙ before_is at.rest [] at.rest refl) in
        ap (λ (l : List ℕ). l ++ lines_left gone s.next ss) (nothing ∙ append-nil done)
    step s ss false suffix ends next_is to_next =
        let grows : now ≡ done ++ before at.rest s.next =
        is ∙ ap (λ (n : ℕ). done ++ cut_from bytes (length bytes - from) (length bytes - n)) to_next
        ∙ ap (λ (l : List ℕ). done ++ l)
        (cut_suffixes bytes at.rest s.next from e.next at.suffix suffix ends at.from_is next_is) in
        ap (λ (l : List ℕ). l ++ lines_left gone s.next ss) grows
        ∙ append_assoc done (before at.rest s.next) (lines_left gone s.next ss)

    go : (ss : List PlacedStatement) → e ∷ left ≡ map (entry_of gone) ss → Chain bytes at.rest ss
        → done ++ lines_left gone at.rest ss ≡ whole → AtStatement bytes gone whole now e.next left
    go [] all c m = absurd cc
    go (s ∷ ss) all c m =
        let same : e ≡ entry_of gone s = cc in
        let others : left ≡ map (entry_of gone) ss = cc in
        let here : e.is_within ≡ is_removed_statement gone s = ap (λ (x : Entry). x.is_within) same in
        let next : e.next ≡ length s.next = ap (λ (x : Entry). x.next) same in
        record {
          rest = s.next;
          coming = ss;
          suffix = c.0;
          from_is = next;
          left_is = others;
          chain = c.2;
          made = step s ss (is_removed_statement gone s) c.0 c.1 next
              (to_is ∙ ap (λ (b : Bool). if b then from else e.next) here) ∙ m;
        }

-- behind the last one
pub past_last : (bytes : List ℕ) (gone : Place) (whole done now : List ℕ) (from : ℕ)
    → AtStatement bytes gone whole done from []
    → now ≡ done ++ cut_from bytes (length bytes - from) (length bytes - 0) → now ≡ whole
past_last bytes gone whole done now from at is = go at.coming at.left_is at.made
  where
    go : (ss : List PlacedStatement) → [] ≡ map (entry_of gone) ss
        → done ++ lines_left gone at.rest ss ≡ whole
        → now ≡ whole
    go [] e m = is ∙ ap (λ (l : List ℕ). done ++ l) (cut_rest bytes at.rest from at.suffix at.from_is) ∙ m
    go (s ∷ ss) e m = absurd cc
