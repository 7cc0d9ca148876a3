-- The relation of a statement to a place, by following its key.
use Rattle.std.proofs.Common.{◌≡◌, ℕ, Bool, true, false, List, [], ◌++◌, length, Option, refl, sym, ap, ◌∙◌}
use Rattle.std.specs.Prelude.{slice_index}
use Rattle.std.proofs.lemmas.List.{length-set}
use Rattle.edit_syntax.specs.declared.read.syntax_tokens.SyntaxToken.{SyntaxToken}
use Rattle.edit_syntax.specs.Grammar.{Statement, pair, header, element_header}
use Rattle.edit_rewrite.specs.declared.path_matching.PathMatch.{PathMatch}
use Rattle.edit_rewrite.specs.declared.path_matching.PathMatch.TheVariants.{On, Below, Off}
use Rattle.edit_rewrite.specs.declared.locate.Entry.{Entry}
use Rattle.edit_rewrite.specs.declared.locate.StatementOffsets.{StatementOffsets}
use Rattle.edit_rewrite.specs.declared.locate.SearchState.{SearchState}
use Rattle.edit_tree.specs.Assertions.{Place, index, at, names, named, Assertion, elements_at, last_element_or_self, header_place, of_statement, prefix_after}
use Rattle.edit_tree.specs.Statements.{PlacedStatement}
use Rattle.edit_tree.specs.EditBytes.{unresolved, is_pair}
use Rattle.edit_rewrite.specs.Entries.{path_match, extend_path_match, is_at, is_at_or_below, count_on, counted, Counts, key_of, entry_of}
use Rattle.edit_rewrite.specs.SearchStates.{IsSearchState, IsTokenized, is_table_header, is_element_header}
use Rattle.edit_rewrite.proofs.Ways.{way_at, way_root, within_is, same_is, on_front, follows_itself, follows_counts}
use Rattle.edit_rewrite.proofs.KeyWays.{Promises, pair_led, header_led}
use Rattle.edit_rewrite.proofs.WayCounts.{same_counts, pair_counts, header_counts, more_counts}

-- an entry of these parts
abbrev pub made : Bool → Bool → Bool → Option ℕ → StatementOffsets → Entry
made own within head front offsets =
    record {
      is_own = own;
      is_within = within;
      is_header = head;
      front = front;
      line = offsets.line;
      key = offsets.key;
      after = offsets.after;
      next = offsets.next;
    }

entry_is : (head : Bool) (o o2 w w2 : Bool) (f f2 : Option ℕ) (offsets : StatementOffsets) (l k a n : ℕ)
    → o ≡ o2 → w ≡ w2
    → f ≡ f2 → offsets.line ≡ l → offsets.key ≡ k → offsets.after ≡ a → offsets.next ≡ n
    → made o w head f offsets
    ≡ record {
      is_own = o2;
      is_within = w2;
      is_header = head;
      front = f2;
      line = l;
      key = k;
      after = a;
      next = n;
    }
entry_is head o o2 w w2 f f2 offsets l k a n eo ew ef el ek ea en = cc

module _ (bytes : List ℕ) (target : Place) (tokens : List SyntaxToken) (s : PlacedStatement) (offsets : StatementOffsets)
    (r : PathMatch × Option ℕ) where
  -- a pair
  pub pair_taken : (standing : SearchState) (own within : Bool) → is_pair s.statement ≡ true
      → IsTokenized bytes tokens s offsets → IsSearchState target s.earlier s.prefix standing
      → Promises bytes target [] tokens standing.prefix r
      → own ≡ is_at (length target) standing.prefix → within ≡ is_at_or_below (length target) r.0
      → (made own within false r.1 offsets ≡ entry_of target s)
      × IsSearchState target (s.earlier ++ of_statement s.earlier s.prefix s.statement)
      (prefix_after s.earlier s.prefix s.statement) standing
  pair_taken standing own within kind taken stands promised is_own is_in = go s.statement kind taken
    where
      go : (st : Statement) → is_pair st ≡ true → IsTokenized bytes tokens (record s { statement = st }) offsets
          → (made own within false r.1 offsets ≡ entry_of target (record s { statement = st }))
          × IsSearchState target (s.earlier ++ of_statement s.earlier s.prefix st)
          (prefix_after s.earlier s.prefix st) standing
      go (pair k a b v) e t =
          let s2 : PlacedStatement = record s { statement = pair k a b v } in
          let rest = (key_of s2).1 in
          let g = promised s.prefix unresolved _ _ t.are_parts (follows_itself target) stands.under in (
            entry_is false _ _ _ _ _ _ offsets _ _ _ _
                (is_own ∙ ap (is_at (length target)) stands.under ∙ sym (same_is target s.prefix))
                (is_in ∙ ap (is_at_or_below (length target)) (g.0 ∙ ap (path_match target) (pair_led s.prefix k rest)) ∙
                sym (within_is target (named s.prefix (names k))))
                g.1 t.line t.key t.after t.next,
            record {
              under = stands.under;
              size = stands.size;
              counts = same_counts target s.earlier
                  (s.earlier ++ of_statement s.earlier s.prefix (pair k a b v)) standing.counts.items
                  (pair_counts s.earlier s.prefix k a b v) stands.counts;
            },
          )
      go (header a k b) e t = absurd cc
      go (element_header a k b) e t = absurd cc

  -- a header
  pub header_taken : (standing : SearchState) (own within : Bool) → is_table_header s.statement ≡ true
      → IsTokenized bytes tokens s offsets → IsSearchState target s.earlier s.prefix standing
      → Promises bytes target standing.counts.items tokens (On 0) r
      → own ≡ is_at (length target) r.0 → within ≡ is_at_or_below (length target) r.0
      → (made own within true r.1 offsets ≡ entry_of target s)
      × IsSearchState target (s.earlier ++ of_statement s.earlier s.prefix s.statement)
      (prefix_after s.earlier s.prefix s.statement) (record standing { prefix = r.0 })
  header_taken standing own within kind taken stands promised is_own is_in = go s.statement kind taken
    where
      go : (st : Statement) → is_table_header st ≡ true
          → IsTokenized bytes tokens (record s { statement = st }) offsets
          → (made own within true r.1 offsets ≡ entry_of target (record s { statement = st }))
          × IsSearchState target (s.earlier ++ of_statement s.earlier s.prefix st)
          (prefix_after s.earlier s.prefix st) (record standing { prefix = r.0 })
      go (pair k a b v) e t = absurd cc
      go (element_header a k b) e t = absurd cc
      go (header a k b) e t =
          let s2 : PlacedStatement = record s { statement = header a k b } in
          let rest = (key_of s2).1 in
          let g = promised [] (last_element_or_self s.earlier) _ _ t.are_parts
          (follows_counts target s.earlier standing.counts.items stands.counts) (way_root target) in
          let q = header_place s.earlier [] (names k) in
          let come : r.0 ≡ path_match target q = g.0 ∙ ap (path_match target) (header_led s.earlier k rest) in (
            entry_is true _ _ _ _ _ _ offsets _ _ _ _
                (is_own ∙ ap (is_at (length target)) come ∙ sym (same_is target q))
                (is_in ∙ ap (is_at_or_below (length target)) come ∙ sym (within_is target q))
                g.1 t.line t.key t.after t.next,
            record {
              under = come;
              size = stands.size;
              counts = same_counts target s.earlier
                  (s.earlier ++ of_statement s.earlier s.prefix (header a k b)) standing.counts.items
                  (header_counts s.earlier s.prefix k a b) stands.counts;
            },
          )

element_way : (target : Place) (earlier : List Assertion) (counts : List ℕ) (q : Place)
    → Counts target earlier counts
    → extend_path_match target (path_match target q) (index (count_on counts (path_match target q)))
    ≡ path_match target (at q (index (elements_at earlier q)))
element_way target earlier counts q h = go (path_match target q) refl ∙
    sym (way_at target q (index (elements_at earlier q)))
  where
    go : (w : PathMatch) → path_match target q ≡ w
        → extend_path_match target (path_match target q) (index (count_on counts (path_match target q)))
        ≡ extend_path_match target (path_match target q) (index (elements_at earlier q))
    go (On d) e =
        let f = on_front target q d e in
        let count : count_on counts (path_match target q) ≡ elements_at earlier q = ap (count_on counts) e ∙
        h d f.1 ∙ ap (elements_at earlier) (sym f.0) in
        ap (λ (n : ℕ). extend_path_match target (path_match target q) (index n)) count
    go Below e = ap (λ (w : PathMatch). extend_path_match target w (index (count_on counts (path_match target q)))) e ∙
        sym (ap (λ (w : PathMatch). extend_path_match target w (index (elements_at earlier q))) e)
    go Off e = ap (λ (w : PathMatch). extend_path_match target w (index (count_on counts (path_match target q)))) e ∙
        sym (ap (λ (w : PathMatch). extend_path_match target w (index (elements_at earlier q))) e)

counted_size : (w : PathMatch) (counts : List ℕ) → length (counted w counts) ≡ length counts
counted_size (On d) counts = length-set counts d _
counted_size Below counts = refl
counted_size Off counts = refl

module _ (bytes : List ℕ) (target : Place) (tokens : List SyntaxToken) (s : PlacedStatement) (offsets : StatementOffsets)
    (r : PathMatch × Option ℕ) where
  -- the header of an element
  pub element_taken : (standing now : SearchState) (element : PathMatch) (own within : Bool)
      → is_element_header s.statement ≡ true → IsTokenized bytes tokens s offsets
      → IsSearchState target s.earlier s.prefix standing
      → Promises bytes target standing.counts.items tokens (On 0) r
      → element ≡ extend_path_match target r.0 (index (count_on standing.counts.items r.0))
      → now.prefix ≡ element
      → now.counts.items ≡ counted r.0 standing.counts.items
      → own ≡ is_at (length target) element → within ≡ is_at_or_below (length target) element
      → (made own within true r.1 offsets ≡ entry_of target s)
      × IsSearchState target (s.earlier ++ of_statement s.earlier s.prefix s.statement)
      (prefix_after s.earlier s.prefix s.statement) now
  element_taken standing now element own within kind taken stands promised at_last under more is_own is_in =
      go s.statement kind taken
    where
      go : (st : Statement) → is_element_header st ≡ true
          → IsTokenized bytes tokens (record s { statement = st }) offsets
          → (made own within true r.1 offsets ≡ entry_of target (record s { statement = st }))
          × IsSearchState target (s.earlier ++ of_statement s.earlier s.prefix st)
          (prefix_after s.earlier s.prefix st) now
      go (pair k a b v) e t = absurd cc
      go (header a k b) e t = absurd cc
      go (element_header a k b) e t =
          let s2 : PlacedStatement = record s { statement = element_header a k b } in
          let rest = (key_of s2).1 in
          let counts = standing.counts.items in
          let g = promised [] (last_element_or_self s.earlier) _ _ t.are_parts
          (follows_counts target s.earlier counts stands.counts) (way_root target) in
          let q = header_place s.earlier [] (names k) in
          let own_place = at q (index (elements_at s.earlier q)) in
          let come : r.0 ≡ path_match target q = g.0 ∙ ap (path_match target) (header_led s.earlier k rest) in
          let last : element ≡ path_match target own_place = at_last ∙
          ap (λ (w : PathMatch). extend_path_match target w (index (count_on counts w))) come ∙
          element_way target s.earlier counts q stands.counts in (
            entry_is true _ _ _ _ _ _ offsets _ _ _ _
                (is_own ∙ ap (is_at (length target)) last ∙ sym (same_is target own_place))
                (is_in ∙ ap (is_at_or_below (length target)) last ∙ sym (within_is target own_place))
                g.1 t.line t.key t.after t.next,
            record {
              under = under ∙ last;
              size = ap length more ∙ counted_size r.0 counts ∙ stands.size;
              counts = λ d le. ap (λ (xs : List ℕ). slice_index xs d) more ∙
                  more_counts target s.earlier s.prefix k a b counts r.0 come stands.size stands.counts d le;
            },
          )

-- a statement that is no header is a pair
pub is_left : (s : Statement) → is_table_header s ≡ false → is_element_header s ≡ false → is_pair s ≡ true
is_left (pair k a b v) e f = refl
is_left (header a k b) e f = absurd cc
is_left (element_header a k b) e f = absurd cc
